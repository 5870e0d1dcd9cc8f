use Rattle.std.proofs.Common.{◌≡◌, ◌↔◌, length}
use Rattle.aq_base.proofs.same.ListSame.same.Given as goal

abbrev pub invariant-elements : goal.invariant-elements
invariant-elements g l = (l.left ≡ l.right) ↔ (l.fn.self ≡ l.fn.other)

abbrev pub decreases-elements : goal.decreases-elements
decreases-elements g l = length l.left
