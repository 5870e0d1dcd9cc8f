use Rattle.std.proofs.Common.{◌≡◌, ◌++◌, drop}
use Rattle.aq_first_base.specs.Setup.{primary_items}
use Rattle.aq_first_machine.proofs.catalog.not_null_of.Given as goal

abbrev pub invariant-items : goal.invariant-items
invariant-items l = l.cols ++ primary_items l.col (drop l.col l.items) ≡ primary_items 0 l.fn.items
