use Rattle.std.proofs.Common.{length, codes}
use Rattle.aq_grammar.specs.Terminals.{Keyword}
use Rattle.aq_grammar.specs.Bodies.{condition}
use Rattle.aq_parse.specs.Bodies.{or_condition}
use Rattle.aq_parse.proofs.Blocks.{AreSome}
use Rattle.aq_parse.proofs.conditions.conditions.Given as goal

abbrev pub invariant-conditions : goal.invariant-conditions
invariant-conditions l = AreSome (Keyword (codes "or")) condition or_condition l.fn.tokens l.rest l.found

abbrev pub decreases-conditions : goal.decreases-conditions
decreases-conditions l = length l.rest
