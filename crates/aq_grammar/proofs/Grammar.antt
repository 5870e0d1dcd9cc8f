-- Reading by a rule is right, and a rule that leads back to itself is read by its rule.
use Rattle.std.proofs.Common.{◌≡◌, true, List}
use Rattle.aq_lex.specs.Lexemes.{PlacedLexeme}
use Rattle.aq_grammar.specs.Rules.{Nonterminal, Rule}
use Rattle.aq_grammar.specs.Sets.{is_fit_by}
use Rattle.aq_grammar.specs.Nonterminals.{rules, marks, reads_called, reads, Spells, Bars}
use Rattle.aq_grammar.proofs.Languages.{IsRight}
use Rattle.aq_grammar.proofs.Fuel.{called_reads}
use Rattle.aq_grammar.proofs.Called.{right_rule}
use Rattle.aq_grammar.proofs.Fit.{rules_fit}
use Rattle.aq_grammar.proofs.Some.{spelled}

pub is_read_so : (n : Nonterminal) (tokens : List PlacedLexeme) → reads_called n tokens ≡ reads (rules n) tokens
unfolding reads_called
is_read_so n tokens = called_reads rules marks rules_fit n tokens

pub is_read_right : {A : Type 0} (r : Rule A) → is_fit_by marks r ≡ true → (tokens : List PlacedLexeme) → IsRight (Spells r) (Bars r) tokens (reads r tokens)
unfolding reads_called
is_read_right r fit tokens = right_rule rules marks rules_fit spelled r fit tokens
