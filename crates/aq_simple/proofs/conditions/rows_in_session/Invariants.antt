use Rattle.std.proofs.Common.{◌≡◌, ◌-◌, ◌^◌, take, min}
use Rattle.std.specs.List.{sum_by}
use Rattle.aq_first_base.specs.Scripts.{rows_in}
use Rattle.aq_simple.proofs.conditions.rows_in_session.Given as goal

abbrev pub invariant-loop-placed : goal.invariant-loop-placed
invariant-loop-placed l = l.total ≡ min (sum_by (λ placed. rows_in placed.statement) (take l.placed-index l.placed-items)) (2 ^ 64 - 1)
