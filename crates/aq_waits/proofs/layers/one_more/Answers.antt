use Rattle.std.proofs.Common.{arith}
use Rattle.aq_xids.proofs.Ranges.{members_by}
use Rattle.aq_waits.proofs.layers.one_more.Goals as goal

pub returns : goal.returns
returns c = members_by c.loop-k.found.0 _ (λ j h. c.loop-k.invariant.below j (omega arith))
