use Rattle.std.proofs.Common.{◌≡◌, length}
use Rattle.aq_modes.specs.Log.{put_back_all}
use Rattle.aq_modes.proofs.log.put_back_all.Given as goal

abbrev pub invariant-left : goal.invariant-left
invariant-left l = put_back_all l.left.items l.own.entries ≡ put_back_all l.fn.before.items l.fn.own.entries

abbrev pub decreases-left : goal.decreases-left
decreases-left l = length l.left.items
