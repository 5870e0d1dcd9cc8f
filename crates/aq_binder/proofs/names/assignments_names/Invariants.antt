use Rattle.std.proofs.Common.{◌≡◌, drop}
use Rattle.std.specs.List.{flat_map}
use Rattle.aq_setup.specs.Names.{assignment_names}
use Rattle.aq_binder.proofs.names.assignments_names.Given as goal

abbrev pub invariant-assignments : goal.invariant-assignments
invariant-assignments l = flat_map (assignment_names l.table l.scope) (drop l.assignment-index l.assignments) ≡ flat_map (assignment_names l.table l.scope) l.assignments
