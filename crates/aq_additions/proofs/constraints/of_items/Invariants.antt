use Rattle.std.proofs.Common.{◌≡◌, take}
use Rattle.std.specs.List.{flat_map}
use Rattle.aq_setup.specs.Constraints.{of_item}
use Rattle.aq_additions.proofs.constraints.of_items.Given as goal

abbrev pub invariant-loop-item : goal.invariant-loop-item
invariant-loop-item l = l.made ≡ flat_map of_item (take l.item-index l.items)
