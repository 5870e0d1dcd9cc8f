use Rattle.std.proofs.Common.{◌≡◌, take}
use Rattle.aq_base.specs.Values.{values_at}
use Rattle.aq_base.proofs.value.key_of.Given as goal

abbrev pub invariant-loop-col : goal.invariant-loop-col
invariant-loop-col l = l.values.items ≡ values_at (take l.col-index l.cols) l.row
