use Rattle.std.proofs.Common.{◌≡◌, drop}
use Rattle.std.specs.List.{flat_map}
use Rattle.aq_setup.specs.Kinds.{assignment_kinds}
use Rattle.aq_binder.proofs.kinds.assignments_kinds.Given as goal

abbrev pub invariant-loop-assignment : goal.invariant-loop-assignment
invariant-loop-assignment l =
    flat_map (assignment_kinds l.scope) (drop l.assignment-index l.assignments) ≡ flat_map (assignment_kinds l.scope) l.assignments
