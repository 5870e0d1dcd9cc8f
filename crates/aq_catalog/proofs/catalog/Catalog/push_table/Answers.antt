use Rattle.std.proofs.Common.{◌≡◌, ◌++◌, [], ◌∷◌, refl, ap, sym, subst, ◌∙◌, arith}
use Rattle.aq_catalog.specs.Indexed.{IsIndexed}
use Rattle.aq_catalog.specs.Listed.{IsKept}
use Rattle.aq_catalog.proofs.Indexing.{indexed_more}
use Rattle.aq_catalog.proofs.Kept.{kept_table}
use Rattle.aq_catalog.proofs.catalog.Catalog.push_table.Goals as goal

pub invariant_of-self-2 : goal.invariant_of-self-2
invariant_of-self-2 c =
    let s = c.self.inside in
    let pushed : c.push_reserved.new.self.items ≡ s.tables.items ++ c.args.table ∷ [] = c.push_reserved.ensures.items ∙ ap (λ l. l ++ c.args.table ∷ []) c.in_ok-reserve.ensures.items in (
      subst (λ l. IsKept l s.keys.items s.fks.items s.triggers.items s.by_table.items) (sym pushed)
          (kept_table s.tables.items s.keys.items s.fks.items s.triggers.items s.by_table.items s.by_table.items c.self.invariant.0 c.args.table (omega (arith, c.in_ok-one_more.ensures, c.len.ensures, s.tables.ok.0))),
      c.self.invariant.1,
      c.self.invariant.2,
      subst (λ l. IsIndexed (λ table. table.name) l c.push.new.self) (sym pushed)
          (indexed_more (λ table. table.name) s.tables.items c.args.table s.table_names c.push.new.self c.in_ok-place.place c.args.table.name c.self.invariant.3
          (omega (arith, c.in_ok-place.ensures.ok, c.len-2.ensures, s.tables.ok.0)) refl c.in_ok-push.ensures.ok),
      c.self.invariant.4,
    )
