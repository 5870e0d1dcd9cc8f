use Rattle.std.proofs.Common.{◌≡◌, ◌++◌, [], ◌∷◌, refl, ap, sym, subst, ◌∙◌, arith}
use Rattle.aq_catalog.specs.Indexed.{IsIndexed}
use Rattle.aq_catalog.proofs.Indexing.{indexed_more}
use Rattle.aq_catalog.proofs.catalog.Catalog.push_function.Goals as goal

pub invariant_of-self-2 : goal.invariant_of-self-2
invariant_of-self-2 c =
    let s = c.self.inside in
    let pushed : c.push_reserved.new.self.items ≡ s.functions.items ++ c.args.function ∷ [] = c.push_reserved.ensures.items ∙ ap (λ l. l ++ c.args.function ∷ []) c.in_ok-reserve.ensures.items in (
      c.self.invariant.0,
      c.self.invariant.1,
      subst (λ l. IsIndexed (λ function. function.name) l c.push.new.self) (sym pushed)
          (indexed_more (λ function. function.name) s.functions.items c.args.function s.function_names c.push.new.self c.in_ok-place.place c.args.function.name c.self.invariant.2
          (omega (arith, c.in_ok-place.ensures.ok, c.len.ensures, s.functions.ok.0)) refl c.in_ok-push.ensures.ok),
      c.self.invariant.3,
      c.self.invariant.4,
    )
