use Rattle.std.proofs.Common.{◌≡◌, ◌+◌, length}
use Rattle.aq_lex.specs.Lexing.{is_of_class, front_len}
use Rattle.aq_lex.proofs.scan.front_len.Given as goal

abbrev pub invariant-bytes : goal.invariant-bytes
invariant-bytes l =
    (l.len + length l.rest ≡ length l.fn.bytes)
    × (l.len + front_len (is_of_class l.fn.class) l.rest ≡ front_len (is_of_class l.fn.class) l.fn.bytes)

abbrev pub decreases-bytes : goal.decreases-bytes
decreases-bytes l = length l.rest
