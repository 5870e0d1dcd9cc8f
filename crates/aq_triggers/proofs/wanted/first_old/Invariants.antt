use Rattle.std.proofs.Common.{◌≡◌, [], take}
use Rattle.aq_triggers.specs.Transitions.{olds}
use Rattle.aq_triggers.proofs.wanted.first_old.Given as goal

abbrev pub invariant-loop-table : goal.invariant-loop-table
invariant-loop-table l = olds (take l.table-index l.transitions) ≡ []
