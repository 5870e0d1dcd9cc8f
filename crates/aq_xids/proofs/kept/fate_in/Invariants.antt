use Rattle.std.proofs.Common.{◌≡◌}
use Rattle.aq_xids.specs.Kept.{all_shown, held_in}
use Rattle.aq_xids.specs.Subtransactions.{fate_of}
use Rattle.aq_xids.proofs.kept.fate_in.Given as goal

abbrev pub invariant-up : goal.invariant-up
invariant-up l = fate_of l.number (all_shown l.subs) ≡ held_in l.holder (fate_of l.at (all_shown l.subs))

abbrev pub decreases-up : goal.decreases-up
decreases-up l = l.at
