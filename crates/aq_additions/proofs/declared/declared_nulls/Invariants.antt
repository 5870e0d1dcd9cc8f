use Rattle.std.proofs.Common.{◌≡◌, take}
use Rattle.std.specs.List.{flat_map}
use Rattle.aq_setup.specs.Tables.{item_nulls}
use Rattle.aq_additions.proofs.declared.declared_nulls.Given as goal

abbrev pub invariant-loop-item : goal.invariant-loop-item
invariant-loop-item l = l.made ≡ flat_map item_nulls (take l.item-index l.items)
