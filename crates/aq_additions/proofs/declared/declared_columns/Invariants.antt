use Rattle.std.proofs.Common.{◌≡◌, take}
use Rattle.std.specs.List.{flat_map}
use Rattle.aq_setup.specs.Tables.{item_columns}
use Rattle.aq_additions.proofs.declared.declared_columns.Given as goal

abbrev pub invariant-loop-item : goal.invariant-loop-item
invariant-loop-item l = l.made ≡ flat_map item_columns (take l.item-index l.items)
