use Rattle.std.proofs.Common.{◌≡◌, map, take}
use Rattle.aq_first_base.specs.Setup.{column_of}
use Rattle.aq_first_machine.proofs.catalog.columns_of.Given as goal

abbrev pub invariant-items : goal.invariant-items
invariant-items l = l.cols ≡ map column_of (take l.item-index l.items)
