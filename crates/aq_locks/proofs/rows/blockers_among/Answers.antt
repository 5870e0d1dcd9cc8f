use Rattle.std.proofs.Common.{arith}
use Rattle.aq_xids.proofs.Ranges.{members_by}
use Rattle.aq_locks.proofs.rows.blockers_among.Goals as goal

pub returns : goal.returns
returns c = members_by c.loop-n.found.0 _ (λ j h. c.loop-n.invariant.below j (omega arith))
