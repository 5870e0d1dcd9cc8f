use Rattle.std.proofs.Common.{◌+◌, ◌*◌, length, codes}
use Rattle.aq_grammar.specs.Terminals.{Keyword}
use Rattle.aq_grammar.specs.Bodies.{handler}
use Rattle.aq_parse.proofs.Blocks.{IsBlock, AreElseIfs, AreSome}
use Rattle.aq_parse.proofs.bodies.+code.Given as goal

-- five times the tokens, since five of the functions hand on all of them
abbrev pub decreases-block : goal.decreases-block
decreases-block l = 5 * length l.tokens.now + 4

abbrev pub decreases-ended_statement : goal.decreases-ended_statement
decreases-ended_statement l = 5 * length l.tokens.now + 3

abbrev pub decreases-body_statement : goal.decreases-body_statement
decreases-body_statement l = 5 * length l.tokens.now + 2

abbrev pub decreases-if_statement : goal.decreases-if_statement
decreases-if_statement l = 5 * length l.tokens.now

abbrev pub decreases-else_ifs : goal.decreases-else_ifs
decreases-else_ifs l = 5 * length l.tokens.now + 1

abbrev pub decreases-else_if : goal.decreases-else_if
decreases-else_if l = 5 * length l.tokens.now

abbrev pub decreases-otherwise : goal.decreases-otherwise
decreases-otherwise l = 5 * length l.tokens.now

abbrev pub invariant-block-statements : goal.invariant-block-statements
invariant-block-statements l = IsBlock l.room l.fn.tokens l.rest l.statements

abbrev pub decreases-block-statements : goal.decreases-block-statements
decreases-block-statements l = length l.rest

abbrev pub invariant-else_ifs-branches : goal.invariant-else_ifs-branches
invariant-else_ifs-branches l = AreElseIfs l.room l.fn.tokens l.rest l.branches

abbrev pub decreases-else_ifs-branches : goal.decreases-else_ifs-branches
decreases-else_ifs-branches l = length l.rest

abbrev pub decreases-block_in_body : goal.decreases-block_in_body
decreases-block_in_body l = 5 * length l.tokens.now + 1

abbrev pub decreases-body : goal.decreases-body
decreases-body l = 5 * length l.tokens.now

abbrev pub decreases-handlers : goal.decreases-handlers
decreases-handlers l = 5 * length l.tokens.now

abbrev pub decreases-some_handlers : goal.decreases-some_handlers
decreases-some_handlers l = 5 * length l.tokens.now + 1

abbrev pub decreases-handler : goal.decreases-handler
decreases-handler l = 5 * length l.tokens.now

abbrev pub invariant-some_handlers-handlers : goal.invariant-some_handlers-handlers
invariant-some_handlers-handlers l = AreSome (Keyword (codes "when")) (handler l.room) (handler l.room) l.fn.tokens l.rest l.found

abbrev pub decreases-some_handlers-handlers : goal.decreases-some_handlers-handlers
decreases-some_handlers-handlers l = length l.rest
