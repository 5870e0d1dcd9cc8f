use Rattle.std.proofs.Common.{◌≡◌, [], take}
use Rattle.aq_triggers.specs.Transitions.{news}
use Rattle.aq_triggers.proofs.wanted.first_new.Given as goal

abbrev pub invariant-loop-table : goal.invariant-loop-table
invariant-loop-table l = news (take l.table-index l.transitions) ≡ []
