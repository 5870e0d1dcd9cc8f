use Rattle.std.proofs.Common.{◌≡◌, drop}
use Rattle.std.specs.List.{list_any}
use Rattle.aq_first_outcomes.specs.Rows.{same_op}
use Rattle.aq_first_machine.proofs.rows.has_op.Given as goal

abbrev pub invariant-ops : goal.invariant-ops
invariant-ops l = list_any (same_op l.op) (drop l.other-index l.ops) ≡ list_any (same_op l.fn.op) l.fn.ops
