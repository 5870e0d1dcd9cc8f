use Rattle.std.proofs.Common.{◌≡◌, ◌++◌, ◌∷◌, take}
use Rattle.aq_lex.specs.Tokens.{doubled}
use Rattle.aq_print.proofs.names.push_quoted.Given as goal

abbrev pub invariant-loop-byte : goal.invariant-loop-byte
invariant-loop-byte l = l.out.items ≡ l.fn.out.items ++ l.quote ∷ doubled l.quote (take l.byte-index l.text)
