use Rattle.std.proofs.Common.{◌≡◌, ◌++◌, [], ◌∷◌, take, length, refl, ap, sym, subst, ◌∙◌, arith}
use Rattle.std.proofs.lemmas.List.{take-append-le, length_push}
use Rattle.aq_catalog.specs.Indexed.{IsIndexed}
use Rattle.aq_catalog.proofs.Indexing.{indexed_less}
use Rattle.aq_catalog.proofs.changes.shorten_constraints.Goals as goal

pub constraints-preserved-in-Some : goal.constraints-preserved-in-Some
constraints-preserved-in-Some c =
    let now = c.pop.new.self.items in
    let last = c.in-Some.last in
    let e : c.constraints.constraints.items ≡ now ++ last ∷ [] = c.in-Some.ensures.items in (
      indexed_less (λ con. con.name) now last c.constraints.names c.pop-in-Some.new.self last.name
          (subst (λ l. IsIndexed (λ con. con.name) l c.constraints.names) e c.constraints.invariant.0) refl c.pop-in-Some.ensures,
      sym (take-append-le c.args.len now (last ∷ []) (omega (arith, ap length e, length_push now last, c.constraints-test.true, c.len.ensures, c.constraints.constraints.ok.0)))
          ∙ (ap (take c.args.len) (sym e) ∙ c.constraints.invariant.1),
    )
