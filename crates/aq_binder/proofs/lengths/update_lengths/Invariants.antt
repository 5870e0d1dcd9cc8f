use Rattle.std.proofs.Common.{◌≡◌, [], take}
use Rattle.aq_binder.specs.Repeating.{faults_behind, assignment_repeated}
use Rattle.aq_binder.proofs.lengths.update_lengths.Given as goal

abbrev pub invariant-assignments : goal.invariant-assignments
invariant-assignments l = faults_behind assignment_repeated [] (take l.at l.assignments) ≡ []
