-- The rules of the grammar refuse with one fault at one place.
use Rattle.std.proofs.Common.{◌≡◌, refl, ℕ, zero, suc, Bool, true, false, List, [], ◌∷◌, codes}
use Rattle.aq_lex.specs.Lexemes.{PlacedLexeme}
use Rattle.aq_lex.specs.declared.token.Symbol.TheVariants.{OpenParen}
use Rattle.aq_grammar.specs.Terminals.{Terminal, Keyword, Sign, is_of}
use Rattle.aq_grammar.specs.Rules.{Nonterminal, Rule, Expression, Block, ColumnConstraints, ReferenceEnd}
use Rattle.aq_grammar.specs.declared.scope.Scope.{Scope}
use Rattle.aq_grammar.specs.declared.scope.Scope.TheVariants.{InStatement, InCondition, InCode}
use Rattle.aq_grammar.specs.Sets.{heads, is_fit_by}
use Rattle.aq_grammar.specs.Nonterminals.{rules, marks, Spells, Bars}
use Rattle.aq_grammar.proofs.Fit.{are_among, are_among_sound, rules_fit}
use Rattle.aq_grammar.proofs.Some.{spelled}
use Rattle.aq_grammar.proofs.RefusedAt.{HasOneFault}
use Rattle.aq_grammar.proofs.OneFault.{ClosesSo}
use Rattle.aq_grammar.proofs.OneFaultRules.{closes_by, refuses_once_by, closes_of_rule, one_of_rule}
use Rattle.aq_grammar.specs.Forms.{name, names, public_name}
use Rattle.aq_grammar.specs.Expressions as e
use Rattle.aq_grammar.specs.Changes as c
use Rattle.aq_grammar.specs.Bodies as b
use Rattle.aq_grammar.specs.Tables as k

-- with these begins what is refused behind a column's constraints
abbrev behind_constraints : List Terminal
behind_constraints =
    Keyword (codes "check") ∷ Keyword (codes "exclude") ∷ Keyword (codes "not") ∷ Keyword (codes "deferrable") ∷ Keyword (codes "initially") ∷ Keyword (codes "match")
    ∷ Sign OpenParen ∷ []

-- with these begins what a rule that leads back to itself refuses behind a whole form
unfoldable pub closes : Nonterminal → List Terminal
closes (Expression scope) = []
closes (Block room) = heads (b.refused_in_code zero)
closes (ColumnConstraints has_default) = behind_constraints
closes (ReferenceEnd has_default) = behind_constraints

closes_expression : (scope : Scope) → are_among (closes (Expression scope)) (closes_by closes marks (rules (Expression scope))) ≡ true
unfolding closes marks rules name e.behind_dot e.behind_public e.column e.operation_or_column e.old_column e.new_column e.named e.word_or_named e.plain_atom e.atom e.signed e.product e.sum_sign e.summand e.sum e.comparison_sign e.comparison e.negated e.null_or_distinct e.is_test e.test e.negation e.conjunction e.expression e.whole_expression c.where_part c.given c.row_values c.from_table c.source c.column_list c.insert c.assignment c.update c.delete c.columns c.lock_mode c.lock c.select c.constraints c.constraint_mode c.set_constraints b.else_if b.otherwise b.if_statement b.raise b.return_ b.body_statement b.condition b.conditions b.handler b.handlers b.body b.block b.code k.kind k.constant k.initially k.behind_deferrable k.behind_not_deferrable k.initially_alone k.deferring k.given_timing k.perhaps_timing k.timing_without k.matching k.setting k.plain_action k.deletion k.update_setting k.action k.actions k.target k.not_null k.named_constraint k.others_then k.column_constraints k.other_column_constraints k.reference_end k.column_item k.table_primary_key k.table_unique k.table_foreign_key k.bare_table_constraint k.table_constraint k.item k.items k.create_table k.added k.alter_table
closes_expression InStatement = refl
closes_expression InCondition = refl
closes_expression InCode = refl

closes_block : (room : ℕ) → are_among (closes (Block room)) (closes_by closes marks (rules (Block room))) ≡ true
unfolding closes marks rules name names public_name e.behind_dot e.behind_public e.column e.operation_or_column e.old_column e.new_column e.named e.word_or_named e.plain_atom e.atom e.signed e.product e.sum_sign e.summand e.sum e.comparison_sign e.comparison e.negated e.null_or_distinct e.is_test e.test e.negation e.conjunction e.expression e.whole_expression c.where_part c.given c.row_values c.from_table c.source c.column_list c.insert c.assignment c.update c.delete c.columns c.lock_mode c.lock c.select c.constraints c.constraint_mode c.set_constraints b.else_if b.otherwise b.if_statement b.raise b.return_ b.body_statement b.condition b.conditions b.handler b.handlers b.body b.block b.code k.kind k.constant k.initially k.behind_deferrable k.behind_not_deferrable k.initially_alone k.deferring k.given_timing k.perhaps_timing k.timing_without k.matching k.setting k.plain_action k.deletion k.update_setting k.action k.actions k.target k.not_null k.named_constraint k.others_then k.column_constraints k.other_column_constraints k.reference_end k.column_item k.table_primary_key k.table_unique k.table_foreign_key k.bare_table_constraint k.table_constraint k.item k.items k.create_table k.added k.alter_table
closes_block zero = refl
closes_block (suc room) = refl

closes_constraints : (d : Bool) → are_among (closes (ColumnConstraints d)) (closes_by closes marks (rules (ColumnConstraints d))) ≡ true
unfolding closes marks rules public_name name names e.behind_dot e.behind_public e.column e.operation_or_column e.old_column e.new_column e.named e.word_or_named e.plain_atom e.atom e.signed e.product e.sum_sign e.summand e.sum e.comparison_sign e.comparison e.negated e.null_or_distinct e.is_test e.test e.negation e.conjunction e.expression e.whole_expression c.where_part c.given c.row_values c.from_table c.source c.column_list c.insert c.assignment c.update c.delete c.columns c.lock_mode c.lock c.select c.constraints c.constraint_mode c.set_constraints b.else_if b.otherwise b.if_statement b.raise b.return_ b.body_statement b.condition b.conditions b.handler b.handlers b.body b.block b.code k.kind k.constant k.initially k.behind_deferrable k.behind_not_deferrable k.initially_alone k.deferring k.given_timing k.perhaps_timing k.timing_without k.matching k.setting k.plain_action k.deletion k.update_setting k.action k.actions k.target k.not_null k.named_constraint k.others_then k.column_constraints k.other_column_constraints k.reference_end k.column_item k.table_primary_key k.table_unique k.table_foreign_key k.bare_table_constraint k.table_constraint k.item k.items k.create_table k.added k.alter_table
closes_constraints true = refl
closes_constraints false = refl

closes_reference_end : (d : Bool) → are_among (closes (ReferenceEnd d)) (closes_by closes marks (rules (ReferenceEnd d))) ≡ true
unfolding closes marks rules public_name name names e.behind_dot e.behind_public e.column e.operation_or_column e.old_column e.new_column e.named e.word_or_named e.plain_atom e.atom e.signed e.product e.sum_sign e.summand e.sum e.comparison_sign e.comparison e.negated e.null_or_distinct e.is_test e.test e.negation e.conjunction e.expression e.whole_expression c.where_part c.given c.row_values c.from_table c.source c.column_list c.insert c.assignment c.update c.delete c.columns c.lock_mode c.lock c.select c.constraints c.constraint_mode c.set_constraints b.else_if b.otherwise b.if_statement b.raise b.return_ b.body_statement b.condition b.conditions b.handler b.handlers b.body b.block b.code k.kind k.constant k.initially k.behind_deferrable k.behind_not_deferrable k.initially_alone k.deferring k.given_timing k.perhaps_timing k.timing_without k.matching k.setting k.plain_action k.deletion k.update_setting k.action k.actions k.target k.not_null k.named_constraint k.others_then k.column_constraints k.other_column_constraints k.reference_end k.column_item k.table_primary_key k.table_unique k.table_foreign_key k.bare_table_constraint k.table_constraint k.item k.items k.create_table k.added k.alter_table
closes_reference_end true = refl
closes_reference_end false = refl

closes_rules : (n : Nonterminal) → are_among (closes n) (closes_by closes marks (rules n)) ≡ true
closes_rules (Expression scope) = closes_expression scope
closes_rules (Block room) = closes_block room
closes_rules (ColumnConstraints has_default) = closes_constraints has_default
closes_rules (ReferenceEnd has_default) = closes_reference_end has_default

once_expression : (scope : Scope) → refuses_once_by closes marks (rules (Expression scope)) ≡ true
unfolding closes marks rules name e.behind_dot e.behind_public e.column e.operation_or_column e.old_column e.new_column e.named e.word_or_named e.plain_atom e.atom e.signed e.product e.sum_sign e.summand e.sum e.comparison_sign e.comparison e.negated e.null_or_distinct e.is_test e.test e.negation e.conjunction e.expression e.whole_expression c.where_part c.given c.row_values c.from_table c.source c.column_list c.insert c.assignment c.update c.delete c.columns c.lock_mode c.lock c.select c.constraints c.constraint_mode c.set_constraints b.else_if b.otherwise b.if_statement b.raise b.return_ b.body_statement b.condition b.conditions b.handler b.handlers b.body b.block b.code k.kind k.constant k.initially k.behind_deferrable k.behind_not_deferrable k.initially_alone k.deferring k.given_timing k.perhaps_timing k.timing_without k.matching k.setting k.plain_action k.deletion k.update_setting k.action k.actions k.target k.not_null k.named_constraint k.others_then k.column_constraints k.other_column_constraints k.reference_end k.column_item k.table_primary_key k.table_unique k.table_foreign_key k.bare_table_constraint k.table_constraint k.item k.items k.create_table k.added k.alter_table
once_expression InStatement = refl
once_expression InCondition = refl
once_expression InCode = refl

once_block : (room : ℕ) → refuses_once_by closes marks (rules (Block room)) ≡ true
unfolding closes marks rules name names public_name e.behind_dot e.behind_public e.column e.operation_or_column e.old_column e.new_column e.named e.word_or_named e.plain_atom e.atom e.signed e.product e.sum_sign e.summand e.sum e.comparison_sign e.comparison e.negated e.null_or_distinct e.is_test e.test e.negation e.conjunction e.expression e.whole_expression c.where_part c.given c.row_values c.from_table c.source c.column_list c.insert c.assignment c.update c.delete c.columns c.lock_mode c.lock c.select c.constraints c.constraint_mode c.set_constraints b.else_if b.otherwise b.if_statement b.raise b.return_ b.body_statement b.condition b.conditions b.handler b.handlers b.body b.block b.code k.kind k.constant k.initially k.behind_deferrable k.behind_not_deferrable k.initially_alone k.deferring k.given_timing k.perhaps_timing k.timing_without k.matching k.setting k.plain_action k.deletion k.update_setting k.action k.actions k.target k.not_null k.named_constraint k.others_then k.column_constraints k.other_column_constraints k.reference_end k.column_item k.table_primary_key k.table_unique k.table_foreign_key k.bare_table_constraint k.table_constraint k.item k.items k.create_table k.added k.alter_table
once_block zero = refl
once_block (suc room) = refl

once_constraints : (d : Bool) → refuses_once_by closes marks (rules (ColumnConstraints d)) ≡ true
unfolding closes marks rules public_name name names e.behind_dot e.behind_public e.column e.operation_or_column e.old_column e.new_column e.named e.word_or_named e.plain_atom e.atom e.signed e.product e.sum_sign e.summand e.sum e.comparison_sign e.comparison e.negated e.null_or_distinct e.is_test e.test e.negation e.conjunction e.expression e.whole_expression c.where_part c.given c.row_values c.from_table c.source c.column_list c.insert c.assignment c.update c.delete c.columns c.lock_mode c.lock c.select c.constraints c.constraint_mode c.set_constraints b.else_if b.otherwise b.if_statement b.raise b.return_ b.body_statement b.condition b.conditions b.handler b.handlers b.body b.block b.code k.kind k.constant k.initially k.behind_deferrable k.behind_not_deferrable k.initially_alone k.deferring k.given_timing k.perhaps_timing k.timing_without k.matching k.setting k.plain_action k.deletion k.update_setting k.action k.actions k.target k.not_null k.named_constraint k.others_then k.column_constraints k.other_column_constraints k.reference_end k.column_item k.table_primary_key k.table_unique k.table_foreign_key k.bare_table_constraint k.table_constraint k.item k.items k.create_table k.added k.alter_table
once_constraints true = refl
once_constraints false = refl

once_reference_end : (d : Bool) → refuses_once_by closes marks (rules (ReferenceEnd d)) ≡ true
unfolding closes marks rules public_name name names e.behind_dot e.behind_public e.column e.operation_or_column e.old_column e.new_column e.named e.word_or_named e.plain_atom e.atom e.signed e.product e.sum_sign e.summand e.sum e.comparison_sign e.comparison e.negated e.null_or_distinct e.is_test e.test e.negation e.conjunction e.expression e.whole_expression c.where_part c.given c.row_values c.from_table c.source c.column_list c.insert c.assignment c.update c.delete c.columns c.lock_mode c.lock c.select c.constraints c.constraint_mode c.set_constraints b.else_if b.otherwise b.if_statement b.raise b.return_ b.body_statement b.condition b.conditions b.handler b.handlers b.body b.block b.code k.kind k.constant k.initially k.behind_deferrable k.behind_not_deferrable k.initially_alone k.deferring k.given_timing k.perhaps_timing k.timing_without k.matching k.setting k.plain_action k.deletion k.update_setting k.action k.actions k.target k.not_null k.named_constraint k.others_then k.column_constraints k.other_column_constraints k.reference_end k.column_item k.table_primary_key k.table_unique k.table_foreign_key k.bare_table_constraint k.table_constraint k.item k.items k.create_table k.added k.alter_table
once_reference_end true = refl
once_reference_end false = refl

once_rules : (n : Nonterminal) → refuses_once_by closes marks (rules n) ≡ true
once_rules (Expression scope) = once_expression scope
once_rules (Block room) = once_block room
once_rules (ColumnConstraints has_default) = once_constraints has_default
once_rules (ReferenceEnd has_default) = once_reference_end has_default

close_so : (n : Nonterminal) (token : PlacedLexeme) → is_of (closes_by closes marks (rules n)) token ≡ true → is_of (closes n) token ≡ true
close_so n token = are_among_sound (closes_by closes marks (rules n)) (closes n) token (closes_rules n)

-- what a rule refuses behind a whole form begins so
pub rule_closes : {A : Type 0} (r : Rule A) → is_fit_by marks r ≡ true → ClosesSo (Spells r) (Bars r) (closes_by closes marks r)
rule_closes r fit = closes_of_rule rules marks rules_fit spelled closes close_so once_rules r fit

-- a rule refuses with one fault at one place
pub one_by_rule : {A : Type 0} (r : Rule A) → is_fit_by marks r ≡ true → refuses_once_by closes marks r ≡ true → HasOneFault (Bars r)
one_by_rule r fit once = one_of_rule rules marks rules_fit spelled closes close_so once_rules r fit once
