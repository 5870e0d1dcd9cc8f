use Rattle.std.proofs.Common.{◌≡◌, ◌++◌, [], ◌∷◌, refl, ap, sym, subst, ◌∙◌, arith}
use Rattle.aq_catalog.specs.Indexed.{IsIndexed}
use Rattle.aq_catalog.specs.Numbered.{IsNumbered}
use Rattle.aq_catalog.proofs.Indexing.{indexed_more}
use Rattle.aq_catalog.proofs.Numbering.{numbered_more}
use Rattle.aq_catalog.proofs.catalog.Catalog.push_constraint.Goals as goal

pub invariant_of-self-2 : goal.invariant_of-self-2
invariant_of-self-2 c =
    let s = c.self.inside in
    let pushed : c.push_reserved.new.self.items ≡ s.constraints.items ++ c.args.constraint ∷ [] = c.push_reserved.ensures.items ∙ ap (λ l. l ++ c.args.constraint ∷ []) c.in_ok-reserve.ensures.items in
    let numbered : c.push_reserved-2.new.self.items ≡ s.next_numbers.items ++ 1 ∷ [] = c.push_reserved-2.ensures.items ∙ ap (λ l. l ++ 1 ∷ []) c.in_ok-reserve-2.ensures.items in (
      c.self.invariant.0,
      subst (λ l. IsIndexed (λ con. con.name) l c.push.new.self) (sym pushed)
          (indexed_more (λ con. con.name) s.constraints.items c.args.constraint s.constraint_names c.push.new.self c.in_ok-place.place c.args.constraint.name c.self.invariant.1
          (omega (arith, c.in_ok-place.ensures.ok, c.len.ensures, s.constraints.ok.0)) refl c.in_ok-push.ensures.ok),
      c.self.invariant.2,
      c.self.invariant.3,
      subst (λ l. IsNumbered l c.push_reserved-2.new.self.items) (sym pushed)
          (subst (IsNumbered (s.constraints.items ++ c.args.constraint ∷ [])) (sym numbered) (numbered_more s.constraints.items s.next_numbers.items c.args.constraint c.self.invariant.4)),
    )
