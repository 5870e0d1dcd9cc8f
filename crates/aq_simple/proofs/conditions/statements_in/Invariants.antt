use Rattle.std.proofs.Common.{◌≡◌, ◌+◌, ◌-◌, ◌^◌, length, take, min}
use Rattle.std.specs.List.{sum_by}
use Rattle.aq_simple.proofs.conditions.statements_in.Given as goal

abbrev pub invariant-loop-session : goal.invariant-loop-session
invariant-loop-session l = l.total ≡ min (length l.script.setup + sum_by (λ session. length session.statements) (take l.session-index l.session-items)) (2 ^ 64 - 1)
