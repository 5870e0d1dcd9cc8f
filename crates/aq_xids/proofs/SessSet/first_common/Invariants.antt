use Rattle.std.proofs.Common.{◌≡◌, ℕ, ◌<◌, ◌&&◌, false}
use Rattle.aq_xids.specs.Sets.{has}
use Rattle.aq_xids.proofs.SessSet.first_common.Given as goal

abbrev pub invariant-loop-s : goal.invariant-loop-s
invariant-loop-s l = (k : ℕ) → k < l.s → (has l.self.0 k && has l.other.0 k) ≡ false
