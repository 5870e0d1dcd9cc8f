use Rattle.std.proofs.Common.{length}
use Rattle.aq_lex.specs.declared.token.Symbol.TheVariants.{Minus}
use Rattle.aq_grammar.specs.Terminals.{Sign}
use Rattle.aq_grammar.proofs.Loops.{IsCounted}
use Rattle.aq_grammar.proofs.prefixes.signs.Given as goal

abbrev pub invariant-signs : goal.invariant-signs
invariant-signs l = IsCounted (Sign Minus) l.fn.tokens l.rest

abbrev pub decreases-signs : goal.decreases-signs
decreases-signs l = length l.rest
