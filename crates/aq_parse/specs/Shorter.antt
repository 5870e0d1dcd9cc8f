-- Behind a form of these rules fewer tokens are left. It is here since a form says so of its reading.
use Rattle.std.specs.Prelude.{◌≡◌, ◌<◌, List, length}
use Rattle.std.proofs.Common.{refl}
use Rattle.aq_lex.specs.Lexemes.{PlacedLexeme}
use Rattle.aq_grammar.specs.declared.scope.Scope.{Scope}
use Rattle.aq_grammar.specs.declared.scope.Scope.TheVariants.{InStatement, InCondition, InCode}
use Rattle.aq_grammar.specs.Rules.{Rule}
use Rattle.aq_grammar.specs.Reading.{Read}
use Rattle.aq_grammar.specs.Nonterminals.{rules, marks, reads}
use Rattle.aq_grammar.specs.Forms.{name}
use Rattle.aq_grammar.specs.Expressions as e
use Rattle.aq_grammar.specs.Changes.{given, row_values, assignment}
use Rattle.aq_grammar.proofs.Shorter.{reads_shorten}

-- what is read of the rule leaves fewer tokens than there were
abbrev pub Shortens : {A : Type 0} → Rule A → Type 0
Shortens {A} r = (tokens rest : List PlacedLexeme) (x : A) → reads r tokens ≡ Read x rest → length rest < length tokens

pub expression_is_shorter : (scope : Scope) → Shortens (e.whole_expression scope)
unfolding marks rules e.whole_expression name e.behind_dot e.behind_public e.column e.operation_or_column e.old_column e.new_column e.named e.word_or_named e.plain_atom e.atom e.signed e.product e.sum_sign e.summand e.sum e.comparison_sign e.comparison e.negated e.null_or_distinct e.is_test e.test e.negation e.conjunction e.expression
expression_is_shorter InStatement = reads_shorten (e.whole_expression InStatement) refl refl
expression_is_shorter InCondition = reads_shorten (e.whole_expression InCondition) refl refl
expression_is_shorter InCode = reads_shorten (e.whole_expression InCode) refl refl

pub given_is_shorter : (scope : Scope) → Shortens (given scope)
unfolding marks rules e.whole_expression name e.behind_dot e.behind_public e.column e.operation_or_column e.old_column e.new_column e.named e.word_or_named e.plain_atom e.atom e.signed e.product e.sum_sign e.summand e.sum e.comparison_sign e.comparison e.negated e.null_or_distinct e.is_test e.test e.negation e.conjunction e.expression given
given_is_shorter InStatement = reads_shorten (given InStatement) refl refl
given_is_shorter InCondition = reads_shorten (given InCondition) refl refl
given_is_shorter InCode = reads_shorten (given InCode) refl refl

pub row_is_shorter : (scope : Scope) → Shortens (row_values scope)
unfolding marks rules e.whole_expression name e.behind_dot e.behind_public e.column e.operation_or_column e.old_column e.new_column e.named e.word_or_named e.plain_atom e.atom e.signed e.product e.sum_sign e.summand e.sum e.comparison_sign e.comparison e.negated e.null_or_distinct e.is_test e.test e.negation e.conjunction e.expression given row_values
row_is_shorter InStatement = reads_shorten (row_values InStatement) refl refl
row_is_shorter InCondition = reads_shorten (row_values InCondition) refl refl
row_is_shorter InCode = reads_shorten (row_values InCode) refl refl

pub assignment_is_shorter : (scope : Scope) → Shortens (assignment scope)
unfolding marks rules e.whole_expression name e.behind_dot e.behind_public e.column e.operation_or_column e.old_column e.new_column e.named e.word_or_named e.plain_atom e.atom e.signed e.product e.sum_sign e.summand e.sum e.comparison_sign e.comparison e.negated e.null_or_distinct e.is_test e.test e.negation e.conjunction e.expression given assignment
assignment_is_shorter InStatement = reads_shorten (assignment InStatement) refl refl
assignment_is_shorter InCondition = reads_shorten (assignment InCondition) refl refl
assignment_is_shorter InCode = reads_shorten (assignment InCode) refl refl
