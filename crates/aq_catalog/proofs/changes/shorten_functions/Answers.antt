use Rattle.std.proofs.Common.{◌≡◌, ◌++◌, [], ◌∷◌, take, length, refl, ap, sym, subst, ◌∙◌, arith}
use Rattle.std.proofs.lemmas.List.{take-append-le, length_push}
use Rattle.aq_catalog.specs.Indexed.{IsIndexed}
use Rattle.aq_catalog.proofs.Indexing.{indexed_less}
use Rattle.aq_catalog.proofs.changes.shorten_functions.Goals as goal

pub functions-preserved-in-Some : goal.functions-preserved-in-Some
functions-preserved-in-Some c =
    let now = c.pop.new.self.items in
    let last = c.in-Some.last in
    let e : c.functions.functions.items ≡ now ++ last ∷ [] = c.in-Some.ensures.items in (
      indexed_less (λ function. function.name) now last c.functions.names c.pop-in-Some.new.self last.name
          (subst (λ l. IsIndexed (λ function. function.name) l c.functions.names) e c.functions.invariant.0) refl c.pop-in-Some.ensures,
      sym (take-append-le c.args.len now (last ∷ []) (omega (arith, ap length e, length_push now last, c.functions-test.true, c.len.ensures, c.functions.functions.ok.0)))
          ∙ (ap (take c.args.len) (sym e) ∙ c.functions.invariant.1),
    )
