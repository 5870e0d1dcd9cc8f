use Rattle.std.proofs.Common.{◌≡◌, ◌+◌, ◌-◌, ◌*◌, ◌≤◌, length, min}
use Rattle.std.specs.List.{fold}
use Rattle.aq_lex.specs.Lexemes.{number_of}
use Rattle.aq_lex.proofs.value.number_of.Given as goal

abbrev pub invariant-digits : goal.invariant-digits
invariant-digits l =
    (l.number ≤ 18446744073709551615)
    × (min (fold (λ number digit. 10 * number + (digit - 48)) l.number l.rest) 18446744073709551615 ≡ min (number_of l.fn.digits) 18446744073709551615)

abbrev pub decreases-digits : goal.decreases-digits
decreases-digits l = length l.rest
