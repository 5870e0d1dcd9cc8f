-- An expression with more tokens than it may have.
use Rattle.std.proofs.Common.{◌≡◌, ◌<◌, ◌-◌, List, length, take, drop, sym, ap, ◌∙◌, nat_le, codes}
use Rattle.std.proofs.lemmas.Bool.{cond-false, lt-leb}
use Rattle.aq_base.specs.declared.expr.Expr.{Expr}
use Rattle.aq_base.specs.declared.fault.SqlFault.{SqlFault}
use Rattle.aq_lex.specs.Lexemes.{PlacedLexeme}
use Rattle.aq_grammar.specs.Rules.{Expression}
use Rattle.aq_grammar.specs.declared.scope.Scope.{Scope}
use Rattle.aq_grammar.specs.Reading.{Outcome, Read, Stop, Reason, Refused as Refused_, within}
use Rattle.aq_grammar.specs.Nonterminals.{reads_called, reads}
use Rattle.aq_grammar.specs.Forms.{limit}
use Rattle.aq_grammar.specs.Expressions.{whole_expression}
use Rattle.aq_grammar.specs.declared.fault.ReadFault.{ReadFault}
use Rattle.aq_grammar.specs.declared.fault.ReadFault.TheVariants.{NoMemory, Syntax, Refused}
use Rattle.aq_grammar.specs.Steps.{Fails, IsFaultOr}
use Rattle.aq_grammar.proofs.Loops.{handed_on, fails_as}

abbrev long : SqlFault
long = limit (codes "expression limit of 1000 tokens reached")

-- so many tokens and one are read
whole_is : (scope : Scope) (tokens front : List PlacedLexeme) → front ≡ take 1001 tokens
    → reads (whole_expression scope) tokens ≡ within 1000 long tokens front (reads_called (Expression scope) front)
unfolding whole_expression
whole_is scope tokens front is =
    ap (λ (o : Outcome Expr). within 1000 long tokens (take 1001 tokens) o) (handed_on (reads_called (Expression scope) (take 1001 tokens)))
    ∙ ap (λ (u : List PlacedLexeme). within 1000 long tokens u (reads_called (Expression scope) u)) (sym is)

refused_there : (result : ReadFault) (fault : SqlFault) (place : List PlacedLexeme) → IsFaultOr fault place result → Fails {Y = Expr} result (Stop (Refused_ fault) place)
refused_there NoMemory fault place is = tt
refused_there (Syntax left) fault place is = absurd is
refused_there (Refused left said) fault place (is_left, is_said) = (place, ap (λ (f : SqlFault). Stop (Refused_ f) place) (sym is_said), is_left)

module _ (scope : Scope) (tokens front rest : List PlacedLexeme) (is : front ≡ take 1001 tokens) (past : 1000 < length front - length rest) (result : ReadFault)
    (refuses : IsFaultOr long (drop 1000 tokens) result) where
  pub too_long_read : (x : Expr) → reads_called (Expression scope) front ≡ Read x rest → Fails result (reads (whole_expression scope) tokens)
  too_long_read x read =
      fails_as result _ (reads (whole_expression scope) tokens)
      (sym (whole_is scope tokens front is ∙ (ap (within 1000 long tokens front) read
      ∙ cond-false (nat_le (length front - length rest) 1000) (Read x (drop (length front - length rest) tokens)) (Stop (Refused_ long) (drop 1000 tokens))
      (lt-leb (length front - length rest) 1000 past))))
      (refused_there result long (drop 1000 tokens) refuses)

  pub too_long_stop : (reason : Reason) → reads_called (Expression scope) front ≡ Stop reason rest → Fails result (reads (whole_expression scope) tokens)
  too_long_stop reason stops =
      fails_as result _ (reads (whole_expression scope) tokens)
      (sym (whole_is scope tokens front is ∙ (ap (within 1000 long tokens front) stops
      ∙ cond-false (nat_le (length front - length rest) 1000) (Stop reason (drop (length front - length rest) tokens)) (Stop (Refused_ long) (drop 1000 tokens))
      (lt-leb (length front - length rest) 1000 past))))
      (refused_there result long (drop 1000 tokens) refuses)
