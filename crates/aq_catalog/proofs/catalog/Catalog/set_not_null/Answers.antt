use Rattle.std.proofs.Common.{ap, sym, subst, ◌∙◌, length}
use Rattle.aq_catalog.specs.Indexed.{IsIndexed}
use Rattle.aq_catalog.proofs.Indexing.{length_columns, indexed_columns}
use Rattle.aq_catalog.proofs.Kept.{kept_tables}
use Rattle.aq_catalog.proofs.catalog.Catalog.set_not_null.Goals as goal

pub invariant_of-self : goal.invariant_of-self
invariant_of-self c =
    let s = c.self.inside in (
      kept_tables s.tables.items s.keys.items s.fks.items s.triggers.items s.by_table.items s.by_table.items c.self.invariant.0 c.put_columns.new.tables.items
          (ap length c.put_columns.ensures ∙ length_columns s.tables.items c.args.table c.args.cols),
      c.self.invariant.1,
      c.self.invariant.2,
      subst (λ l. IsIndexed (λ t. t.name) l s.table_names) (sym c.put_columns.ensures) (indexed_columns s.tables.items c.args.table c.args.cols s.table_names c.self.invariant.3),
      c.self.invariant.4,
    )
