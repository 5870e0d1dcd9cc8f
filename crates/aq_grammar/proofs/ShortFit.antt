-- The words that the rules of the grammar name are short, so no token of a statement is too long.
use Rattle.std.proofs.Common.{◌≡◌, refl, ℕ, zero, suc, Bool, true, false}
use Rattle.aq_grammar.specs.Rules.{Nonterminal, Rule, Expression, Block, ColumnConstraints, ReferenceEnd}
use Rattle.aq_grammar.specs.declared.scope.Scope.{Scope}
use Rattle.aq_grammar.specs.declared.scope.Scope.TheVariants.{InStatement, InCondition, InCode}
use Rattle.aq_grammar.specs.Nonterminals.{rules, marks, Spells, Bars}
use Rattle.aq_grammar.specs.Sets.{is_fit_by}
use Rattle.aq_grammar.proofs.Fit.{rules_fit}
use Rattle.aq_grammar.proofs.Short.{has_short_words, SpellsShort, BarsShort, short_rule, barred_short_rule}
use Rattle.aq_grammar.specs.Forms.{name, names, public_name}
use Rattle.aq_grammar.specs.Expressions as e
use Rattle.aq_grammar.specs.Changes as c
use Rattle.aq_grammar.specs.Bodies as b
use Rattle.aq_grammar.specs.Transactions as t
use Rattle.aq_grammar.specs.Tables as k
use Rattle.aq_grammar.specs.Triggers as g
use Rattle.aq_grammar.specs.Statements.{supported_in_setup, supported_in_session, created, block_statement}

short_expression : (scope : Scope) → has_short_words (rules (Expression scope)) ≡ true
unfolding rules name e.behind_dot e.behind_public e.column e.operation_or_column e.old_column e.new_column e.named e.word_or_named e.plain_atom e.atom e.signed e.product e.sum_sign e.summand e.sum e.comparison_sign e.comparison e.negated e.null_or_distinct e.is_test e.test e.negation e.conjunction e.expression e.whole_expression c.where_part c.given c.row_values c.from_table c.source c.column_list c.insert c.assignment c.update c.delete c.columns c.lock_mode c.lock c.select c.constraints c.constraint_mode c.set_constraints b.else_if b.otherwise b.if_statement b.raise b.return_ b.body_statement b.condition b.conditions b.handler b.handlers b.body b.block b.code t.work t.isolation_level t.isolation t.begin t.start_transaction t.savepoint_name t.rollback t.savepoint t.release k.kind k.constant k.initially k.behind_deferrable k.behind_not_deferrable k.initially_alone k.deferring k.given_timing k.perhaps_timing k.timing_without k.matching k.setting k.plain_action k.deletion k.update_setting k.action k.actions k.target k.not_null k.named_constraint k.others_then k.column_constraints k.other_column_constraints k.reference_end k.column_item k.table_primary_key k.table_unique k.table_foreign_key k.bare_table_constraint k.table_constraint k.item k.items k.create_table k.added k.alter_table g.no_arguments g.create_function g.insert_event g.delete_event g.update_event g.events g.transition_tables g.referencing g.fires_for g.when_part g.executes g.watched g.fired g.create_trigger g.create_constraint_trigger
short_expression InStatement = refl
short_expression InCondition = refl
short_expression InCode = refl

short_block : (room : ℕ) → has_short_words (rules (Block room)) ≡ true
unfolding rules name names public_name e.behind_dot e.behind_public e.column e.operation_or_column e.old_column e.new_column e.named e.word_or_named e.plain_atom e.atom e.signed e.product e.sum_sign e.summand e.sum e.comparison_sign e.comparison e.negated e.null_or_distinct e.is_test e.test e.negation e.conjunction e.expression e.whole_expression c.where_part c.given c.row_values c.from_table c.source c.column_list c.insert c.assignment c.update c.delete c.columns c.lock_mode c.lock c.select c.constraints c.constraint_mode c.set_constraints b.else_if b.otherwise b.if_statement b.raise b.return_ b.body_statement b.condition b.conditions b.handler b.handlers b.body b.block b.code t.work t.isolation_level t.isolation t.begin t.start_transaction t.savepoint_name t.rollback t.savepoint t.release k.kind k.constant k.initially k.behind_deferrable k.behind_not_deferrable k.initially_alone k.deferring k.given_timing k.perhaps_timing k.timing_without k.matching k.setting k.plain_action k.deletion k.update_setting k.action k.actions k.target k.not_null k.named_constraint k.others_then k.column_constraints k.other_column_constraints k.reference_end k.column_item k.table_primary_key k.table_unique k.table_foreign_key k.bare_table_constraint k.table_constraint k.item k.items k.create_table k.added k.alter_table g.no_arguments g.create_function g.insert_event g.delete_event g.update_event g.events g.transition_tables g.referencing g.fires_for g.when_part g.executes g.watched g.fired g.create_trigger g.create_constraint_trigger
short_block zero = refl
short_block (suc room) = refl

short_constraints : (d : Bool) → has_short_words (rules (ColumnConstraints d)) ≡ true
unfolding rules public_name name names e.behind_dot e.behind_public e.column e.operation_or_column e.old_column e.new_column e.named e.word_or_named e.plain_atom e.atom e.signed e.product e.sum_sign e.summand e.sum e.comparison_sign e.comparison e.negated e.null_or_distinct e.is_test e.test e.negation e.conjunction e.expression e.whole_expression c.where_part c.given c.row_values c.from_table c.source c.column_list c.insert c.assignment c.update c.delete c.columns c.lock_mode c.lock c.select c.constraints c.constraint_mode c.set_constraints b.else_if b.otherwise b.if_statement b.raise b.return_ b.body_statement b.condition b.conditions b.handler b.handlers b.body b.block b.code t.work t.isolation_level t.isolation t.begin t.start_transaction t.savepoint_name t.rollback t.savepoint t.release k.kind k.constant k.initially k.behind_deferrable k.behind_not_deferrable k.initially_alone k.deferring k.given_timing k.perhaps_timing k.timing_without k.matching k.setting k.plain_action k.deletion k.update_setting k.action k.actions k.target k.not_null k.named_constraint k.others_then k.column_constraints k.other_column_constraints k.reference_end k.column_item k.table_primary_key k.table_unique k.table_foreign_key k.bare_table_constraint k.table_constraint k.item k.items k.create_table k.added k.alter_table g.no_arguments g.create_function g.insert_event g.delete_event g.update_event g.events g.transition_tables g.referencing g.fires_for g.when_part g.executes g.watched g.fired g.create_trigger g.create_constraint_trigger
short_constraints true = refl
short_constraints false = refl

short_reference_end : (d : Bool) → has_short_words (rules (ReferenceEnd d)) ≡ true
unfolding rules public_name name names e.behind_dot e.behind_public e.column e.operation_or_column e.old_column e.new_column e.named e.word_or_named e.plain_atom e.atom e.signed e.product e.sum_sign e.summand e.sum e.comparison_sign e.comparison e.negated e.null_or_distinct e.is_test e.test e.negation e.conjunction e.expression e.whole_expression c.where_part c.given c.row_values c.from_table c.source c.column_list c.insert c.assignment c.update c.delete c.columns c.lock_mode c.lock c.select c.constraints c.constraint_mode c.set_constraints b.else_if b.otherwise b.if_statement b.raise b.return_ b.body_statement b.condition b.conditions b.handler b.handlers b.body b.block b.code t.work t.isolation_level t.isolation t.begin t.start_transaction t.savepoint_name t.rollback t.savepoint t.release k.kind k.constant k.initially k.behind_deferrable k.behind_not_deferrable k.initially_alone k.deferring k.given_timing k.perhaps_timing k.timing_without k.matching k.setting k.plain_action k.deletion k.update_setting k.action k.actions k.target k.not_null k.named_constraint k.others_then k.column_constraints k.other_column_constraints k.reference_end k.column_item k.table_primary_key k.table_unique k.table_foreign_key k.bare_table_constraint k.table_constraint k.item k.items k.create_table k.added k.alter_table g.no_arguments g.create_function g.insert_event g.delete_event g.update_event g.events g.transition_tables g.referencing g.fires_for g.when_part g.executes g.watched g.fired g.create_trigger g.create_constraint_trigger
short_reference_end true = refl
short_reference_end false = refl

short_rules : (n : Nonterminal) → has_short_words (rules n) ≡ true
short_rules (Expression scope) = short_expression scope
short_rules (Block room) = short_block room
short_rules (ColumnConstraints has_default) = short_constraints has_default
short_rules (ReferenceEnd has_default) = short_reference_end has_default

pub short_session : has_short_words supported_in_session ≡ true
unfolding rules supported_in_session block_statement name names public_name e.behind_dot e.behind_public e.column e.operation_or_column e.old_column e.new_column e.named e.word_or_named e.plain_atom e.atom e.signed e.product e.sum_sign e.summand e.sum e.comparison_sign e.comparison e.negated e.null_or_distinct e.is_test e.test e.negation e.conjunction e.expression e.whole_expression c.where_part c.given c.row_values c.from_table c.source c.column_list c.insert c.assignment c.update c.delete c.columns c.lock_mode c.lock c.select c.constraints c.constraint_mode c.set_constraints b.else_if b.otherwise b.if_statement b.raise b.return_ b.body_statement b.condition b.conditions b.handler b.handlers b.body b.block b.code t.work t.isolation_level t.isolation t.begin t.start_transaction t.savepoint_name t.rollback t.savepoint t.release k.kind k.constant k.initially k.behind_deferrable k.behind_not_deferrable k.initially_alone k.deferring k.given_timing k.perhaps_timing k.timing_without k.matching k.setting k.plain_action k.deletion k.update_setting k.action k.actions k.target k.not_null k.named_constraint k.others_then k.column_constraints k.other_column_constraints k.reference_end k.column_item k.table_primary_key k.table_unique k.table_foreign_key k.bare_table_constraint k.table_constraint k.item k.items k.create_table k.added k.alter_table g.no_arguments g.create_function g.insert_event g.delete_event g.update_event g.events g.transition_tables g.referencing g.fires_for g.when_part g.executes g.watched g.fired g.create_trigger g.create_constraint_trigger
short_session = refl

pub short_setup : has_short_words supported_in_setup ≡ true
unfolding rules supported_in_setup created name names public_name e.behind_dot e.behind_public e.column e.operation_or_column e.old_column e.new_column e.named e.word_or_named e.plain_atom e.atom e.signed e.product e.sum_sign e.summand e.sum e.comparison_sign e.comparison e.negated e.null_or_distinct e.is_test e.test e.negation e.conjunction e.expression e.whole_expression c.where_part c.given c.row_values c.from_table c.source c.column_list c.insert c.assignment c.update c.delete c.columns c.lock_mode c.lock c.select c.constraints c.constraint_mode c.set_constraints b.else_if b.otherwise b.if_statement b.raise b.return_ b.body_statement b.condition b.conditions b.handler b.handlers b.body b.block b.code t.work t.isolation_level t.isolation t.begin t.start_transaction t.savepoint_name t.rollback t.savepoint t.release k.kind k.constant k.initially k.behind_deferrable k.behind_not_deferrable k.initially_alone k.deferring k.given_timing k.perhaps_timing k.timing_without k.matching k.setting k.plain_action k.deletion k.update_setting k.action k.actions k.target k.not_null k.named_constraint k.others_then k.column_constraints k.other_column_constraints k.reference_end k.column_item k.table_primary_key k.table_unique k.table_foreign_key k.bare_table_constraint k.table_constraint k.item k.items k.create_table k.added k.alter_table g.no_arguments g.create_function g.insert_event g.delete_event g.update_event g.events g.transition_tables g.referencing g.fires_for g.when_part g.executes g.watched g.fired g.create_trigger g.create_constraint_trigger
short_setup = refl

-- each token of a rule is short
pub short_form : {A : Type 0} (r : Rule A) → has_short_words r ≡ true → SpellsShort (Spells r)
short_form r is = short_rule rules short_rules r is

-- and what it refuses
pub short_barred : {A : Type 0} (r : Rule A) → is_fit_by marks r ≡ true → has_short_words r ≡ true → BarsShort (Bars r)
short_barred r fit is = barred_short_rule rules marks rules_fit short_rules r fit is
