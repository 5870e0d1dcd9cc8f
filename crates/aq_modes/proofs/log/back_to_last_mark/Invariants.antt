use Rattle.std.proofs.Common.{◌≡◌, length}
use Rattle.aq_modes.specs.Log.{modes_of, saved_from}
use Rattle.aq_modes.proofs.log.back_to_last_mark.Given as goal

abbrev pub invariant-entries : goal.invariant-entries
invariant-entries l = saved_from l.log.items (modes_of l.present) ≡ saved_from l.fn.log.items (modes_of l.fn.present)

abbrev pub decreases-entries : goal.decreases-entries
decreases-entries l = length l.log.items
