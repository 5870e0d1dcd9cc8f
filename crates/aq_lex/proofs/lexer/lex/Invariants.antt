use Rattle.std.proofs.Common.{◌≡◌, ◌+◌, length}
use Rattle.aq_lex.specs.Tokens.{LexesTo}
use Rattle.aq_lex.proofs.lexer.lex.Given as goal

abbrev pub invariant-pieces : goal.invariant-pieces
invariant-pieces l =
    LexesTo l.fn.bytes l.tokens (record { at = l.at; is_first = l.is_first }) l.rest
    × (l.at + length l.rest ≡ length l.fn.bytes)

abbrev pub decreases-pieces : goal.decreases-pieces
decreases-pieces l = length l.rest
