use Rattle.std.proofs.Common.{◌≡◌, ℕ, ◌<◌, false}
use Rattle.aq_first_run.specs.Steps.{is_enabled}
use Rattle.aq_first_journal.proofs.shared.least_enabled.Given as goal

abbrev pub invariant-loop-s : goal.invariant-loop-s
invariant-loop-s l = (r : ℕ) → r < l.s → is_enabled l.machine.state r ≡ false
