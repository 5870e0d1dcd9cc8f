use Rattle.std.proofs.Common.{◌≡◌, ◌-◌, ◌^◌, take, min}
use Rattle.std.specs.List.{sum_by}
use Rattle.aq_first_base.specs.Scripts.{rows_in_session}
use Rattle.aq_simple.proofs.conditions.rows_in_sessions.Given as goal

abbrev pub invariant-loop-session : goal.invariant-loop-session
invariant-loop-session l = l.total ≡ min (sum_by rows_in_session (take l.session-index l.sessions)) (2 ^ 64 - 1)
