use Rattle.aq_catalog.proofs.Kept.{kept_fewer}
use Rattle.aq_catalog.proofs.Numbering.{numbered_again}
use Rattle.aq_catalog.proofs.catalog.Catalog.back_to.Goals as goal

pub invariant_of-self : goal.invariant_of-self
invariant_of-self c =
    let s = c.self.inside in
    let m = c.args.mark.now in (
      kept_fewer s.tables.items s.keys.items s.fks.items s.triggers.items s.by_table.items c.keep.new.rows.items c.self.invariant.0 m.tables m.keys m.fks m.triggers
          c.shorten_tables.new.tables.items c.truncate.new.self.items c.truncate-3.new.self.items c.truncate-4.new.self.items
          c.shorten_tables.ensures.items c.truncate.ensures.items c.truncate-3.ensures.items c.truncate-4.ensures.items c.keep.ensures,
      c.shorten_constraints.ensures.indexed,
      c.shorten_functions.ensures.indexed,
      c.shorten_tables.ensures.indexed,
      numbered_again s.constraints.items c.shorten_constraints.new.constraints.items s.next_numbers.items c.restart_numbers.new.numbers.items m.constraints c.self.invariant.4
          c.shorten_constraints.ensures.items c.restart_numbers.ensures,
    )
