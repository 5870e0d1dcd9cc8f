use Rattle.std.proofs.Common.{◌≡◌, [], drop}
use Rattle.aq_setup.specs.Tables.{items_twice}
use Rattle.aq_tables.proofs.tables.items_twice.Given as goal

abbrev pub invariant-loop-item : goal.invariant-loop-item
invariant-loop-item l = items_twice l.before (drop l.item-index l.items) ≡ items_twice [] l.items
