use Rattle.std.proofs.Common.{◌≡◌, ◌++◌, [], ◌∷◌, take, length, refl, ap, sym, subst, ◌∙◌, arith}
use Rattle.std.proofs.lemmas.List.{take-append-le, length_push}
use Rattle.aq_catalog.specs.Indexed.{IsIndexed}
use Rattle.aq_catalog.proofs.Indexing.{indexed_less}
use Rattle.aq_catalog.proofs.changes.shorten_tables.Goals as goal

pub tables-preserved-in-Some : goal.tables-preserved-in-Some
tables-preserved-in-Some c =
    let now = c.pop.new.self.items in
    let last = c.in-Some.last in
    let e : c.tables.tables.items ≡ now ++ last ∷ [] = c.in-Some.ensures.items in (
      indexed_less (λ table. table.name) now last c.tables.names c.pop-in-Some.new.self last.name
          (subst (λ l. IsIndexed (λ table. table.name) l c.tables.names) e c.tables.invariant.0) refl c.pop-in-Some.ensures,
      sym (take-append-le c.args.len now (last ∷ []) (omega (arith, ap length e, length_push now last, c.tables-test.true, c.len.ensures, c.tables.tables.ok.0)))
          ∙ (ap (take c.args.len) (sym e) ∙ c.tables.invariant.1),
    )
