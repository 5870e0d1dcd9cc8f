use Rattle.std.proofs.Common.{◌≡◌, take}
use Rattle.aq_base.proofs.value.copies_of.Given as goal

abbrev pub invariant-loop-v : goal.invariant-loop-v
invariant-loop-v l = l.made.items ≡ take l.v-index l.items
