use Rattle.std.proofs.Common.{◌≡◌, take}
use Rattle.aq_base.proofs.list.copies_of.Given as goal

abbrev pub invariant-loop-x : goal.invariant-loop-x
invariant-loop-x g l = l.made.items ≡ take l.x-index l.items
