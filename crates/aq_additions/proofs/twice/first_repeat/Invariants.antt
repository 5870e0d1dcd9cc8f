use Rattle.aq_additions.proofs.Repeats.{Passed}
use Rattle.aq_additions.proofs.twice.first_repeat.Given as goal

abbrev pub invariant-loop-name : goal.invariant-loop-name
invariant-loop-name l = Passed l.taken l.names l.seen l.name-index
