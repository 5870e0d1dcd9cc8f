use Rattle.std.proofs.Common.{◌≡◌, ◌+◌, ◌≤◌, length}
use Rattle.aq_lex.specs.Lexemes.{undoubled, unquoted}
use Rattle.aq_lex.proofs.value.unquoted_len.Given as goal

abbrev pub invariant-bytes : goal.invariant-bytes
invariant-bytes l =
    (l.len + length l.rest ≤ length l.fn.bytes)
    × (l.len + length (undoubled l.fn.quote l.rest) ≡ length (unquoted l.fn.quote l.fn.bytes))

abbrev pub decreases-bytes : goal.decreases-bytes
decreases-bytes l = length l.rest
