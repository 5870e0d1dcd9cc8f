use Rattle.std.proofs.Common.{length, codes}
use Rattle.aq_grammar.specs.Terminals.{Keyword}
use Rattle.aq_grammar.proofs.Loops.{IsCounted}
use Rattle.aq_grammar.proofs.prefixes.nots.Given as goal

abbrev pub invariant-nots : goal.invariant-nots
invariant-nots l = IsCounted (Keyword (codes "not")) l.fn.tokens l.rest

abbrev pub decreases-nots : goal.decreases-nots
decreases-nots l = length l.rest
