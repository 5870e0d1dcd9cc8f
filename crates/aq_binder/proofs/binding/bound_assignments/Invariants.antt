use Rattle.std.proofs.Common.{◌≡◌, map, take}
use Rattle.aq_setup.specs.Binding.{bound_assignment}
use Rattle.aq_binder.proofs.binding.bound_assignments.Given as goal

abbrev pub invariant-loop-assignment : goal.invariant-loop-assignment
invariant-loop-assignment l = l.made ≡ map (bound_assignment l.scope) (take l.assignment-index l.assignments)
