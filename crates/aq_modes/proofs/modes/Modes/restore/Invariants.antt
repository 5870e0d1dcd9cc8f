use Rattle.std.proofs.Common.{◌≡◌, ◌+◌, ◌≤◌, ◌<◌, [], ◌∷◌, ◌++◌, length, take, vec_len}
use Rattle.std.specs.Vec.{vec_capacity}
use Rattle.aq_modes.specs.Log.{modes_of, saved_from}
use Rattle.aq_modes.proofs.modes.Modes.restore.Given as goal

abbrev pub invariant-marks : goal.invariant-marks
invariant-marks l = record {
  states : saved_from l.self-inside.log.items (modes_of l.self-inside.present) ++ modes_of l.self-inside.present ∷ [] ≡ take (l.marks + 1) l.fn.self.saved;
  within : l.marks + 1 ≤ length l.fn.self.saved;
  at_least : l.fn.mark ≤ l.marks;
  room : vec_len l.self-inside.log < vec_capacity l.self-inside.log;
}

abbrev pub decreases-marks : goal.decreases-marks
decreases-marks l = l.marks
