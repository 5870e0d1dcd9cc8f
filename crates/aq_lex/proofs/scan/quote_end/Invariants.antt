use Rattle.std.proofs.Common.{◌≡◌, ◌+◌, ◌<◌, true, false, length}
use Rattle.std.specs.Option.{option_map}
use Rattle.aq_lex.specs.Lexing.{quote_end}
use Rattle.aq_lex.proofs.scan.quote_end.Given as goal

abbrev pub invariant-bytes : goal.invariant-bytes
invariant-bytes l =
    (l.len + length l.rest ≡ length l.fn.bytes)
    × (l.after_quote ≡ true → 0 < l.len)
    × (option_map (λ len. l.len + len) (quote_end l.fn.quote l.after_quote l.rest) ≡ quote_end l.fn.quote false l.fn.bytes)

abbrev pub decreases-bytes : goal.decreases-bytes
decreases-bytes l = length l.rest
