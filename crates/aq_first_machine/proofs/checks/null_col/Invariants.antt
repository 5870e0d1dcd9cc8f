use Rattle.std.proofs.Common.{◌≡◌, drop}
use Rattle.std.specs.Prelude.{find}
use Rattle.aq_first_outcomes.specs.Rows.{holds_null}
use Rattle.aq_first_machine.proofs.checks.null_col.Given as goal

abbrev pub invariant-cols : goal.invariant-cols
invariant-cols l = find (holds_null l.row) (drop l.col-index l.cols) ≡ find (holds_null l.fn.row) l.fn.cols
