use Rattle.std.proofs.Common.{◌≡◌, Some, take}
use Rattle.aq_simple.specs.Forms.{all_of, simple_item}
use Rattle.aq_simple.proofs.table.simple_items.Given as goal

abbrev pub invariant-loop-item : goal.invariant-loop-item
invariant-loop-item l = all_of simple_item (take l.item-index l.items) ≡ Some l.simple
