-- The rules of statements have no token that is a heading of a script.
use Rattle.std.proofs.Common.{◌≡◌, zero, suc, Bool, true, false, ◌&&◌, refl}
use Rattle.aq_grammar.specs.declared.scope.Scope.TheVariants.{InStatement, InCondition, InCode}
use Rattle.aq_grammar.specs.Terminals.{Terminal, Keyword, Name, NameOf, NameBut, PlainName, Number, Count, Literal, LiteralInCode, Message, StateCode, Sign, Heading}
use Rattle.aq_grammar.specs.Rules.{Nonterminal, Expression, Block, ColumnConstraints, ReferenceEnd, Rule, Done, Token, Both, Either, Many, Differing, Call, Unless, Limited}
use Rattle.aq_grammar.specs.Nonterminals.{rules}
use Rattle.aq_grammar.specs.Statements.{setup_statement, session_statement, supported_in_setup, supported_in_session, created, block_statement}
use Rattle.aq_grammar.specs.Forms as f
use Rattle.aq_grammar.specs.Expressions as e
use Rattle.aq_grammar.specs.Changes as c
use Rattle.aq_grammar.specs.Bodies as b
use Rattle.aq_grammar.specs.Transactions as t
use Rattle.aq_grammar.specs.Tables as k
use Rattle.aq_grammar.specs.Triggers as g

abbrev pub is_no_heading : Terminal → Bool
is_no_heading (Keyword word) = true
is_no_heading Name = true
is_no_heading (NameOf name) = true
is_no_heading (NameBut name) = true
is_no_heading PlainName = true
is_no_heading Number = true
is_no_heading Count = true
is_no_heading (Heading directive) = false
is_no_heading Literal = true
is_no_heading LiteralInCode = true
is_no_heading Message = true
is_no_heading StateCode = true
is_no_heading (Sign symbol) = true

-- the rule has no token that is one
abbrev pub has_no_heading : {A : Type 0} → Rule A → Bool
has_no_heading (Done x) = true
has_no_heading (Token kind f) = is_no_heading kind
has_no_heading (Both f a b) = has_no_heading a && has_no_heading b
has_no_heading (Either kinds a b) = has_no_heading a && has_no_heading b
has_no_heading (Many kinds refusals f a) = has_no_heading a
has_no_heading (Differing f a name kinds b) = has_no_heading a && has_no_heading b
has_no_heading (Call nonterminal f) = true
has_no_heading (Unless refusals a) = has_no_heading a
has_no_heading (Limited most fault a) = has_no_heading a

pub rules_have_none : (n : Nonterminal) → has_no_heading (rules n) ≡ true
unfolding rules f.name f.names f.public_name e.behind_dot e.behind_public e.column e.operation_or_column e.old_column e.new_column e.named e.word_or_named e.plain_atom e.atom e.signed e.product e.sum_sign e.summand e.sum e.comparison_sign e.comparison e.negated e.null_or_distinct e.is_test e.test e.negation e.conjunction e.expression e.whole_expression c.where_part c.given c.row_values c.from_table c.source c.column_list c.insert c.assignment c.update c.delete c.columns c.lock_mode c.lock c.select c.constraints c.constraint_mode c.set_constraints b.else_if b.otherwise b.if_statement b.raise b.return_ b.body_statement b.condition b.conditions b.handler b.handlers b.body b.block b.code t.work t.isolation_level t.isolation t.begin t.start_transaction t.savepoint_name t.rollback t.savepoint t.release k.kind k.constant k.initially k.behind_deferrable k.behind_not_deferrable k.initially_alone k.deferring k.given_timing k.perhaps_timing k.timing_without k.matching k.setting k.plain_action k.deletion k.update_setting k.action k.actions k.target k.not_null k.named_constraint k.others_then k.column_constraints k.other_column_constraints k.reference_end k.column_item k.table_primary_key k.table_unique k.table_foreign_key k.bare_table_constraint k.table_constraint k.item k.items k.create_table k.added k.alter_table g.no_arguments g.create_function g.insert_event g.delete_event g.update_event g.events g.transition_tables g.referencing g.fires_for g.when_part g.executes g.watched g.fired g.create_trigger g.create_constraint_trigger
rules_have_none (Expression InStatement) = refl
rules_have_none (Expression InCondition) = refl
rules_have_none (Expression InCode) = refl
rules_have_none (Block zero) = refl
rules_have_none (Block (suc room)) = refl
rules_have_none (ColumnConstraints true) = refl
rules_have_none (ColumnConstraints false) = refl
rules_have_none (ReferenceEnd true) = refl
rules_have_none (ReferenceEnd false) = refl

pub session_statement_has_none : has_no_heading session_statement ≡ true
unfolding session_statement supported_in_session block_statement f.name f.names f.public_name e.behind_dot e.behind_public e.column e.operation_or_column e.old_column e.new_column e.named e.word_or_named e.plain_atom e.atom e.signed e.product e.sum_sign e.summand e.sum e.comparison_sign e.comparison e.negated e.null_or_distinct e.is_test e.test e.negation e.conjunction e.expression e.whole_expression c.where_part c.given c.row_values c.from_table c.source c.column_list c.insert c.assignment c.update c.delete c.columns c.lock_mode c.lock c.select c.constraints c.constraint_mode c.set_constraints b.else_if b.otherwise b.if_statement b.raise b.return_ b.body_statement b.condition b.conditions b.handler b.handlers b.body b.block b.code t.work t.isolation_level t.isolation t.begin t.start_transaction t.savepoint_name t.rollback t.savepoint t.release k.kind k.constant k.initially k.behind_deferrable k.behind_not_deferrable k.initially_alone k.deferring k.given_timing k.perhaps_timing k.timing_without k.matching k.setting k.plain_action k.deletion k.update_setting k.action k.actions k.target k.not_null k.named_constraint k.others_then k.column_constraints k.other_column_constraints k.reference_end k.column_item k.table_primary_key k.table_unique k.table_foreign_key k.bare_table_constraint k.table_constraint k.item k.items k.create_table k.added k.alter_table g.no_arguments g.create_function g.insert_event g.delete_event g.update_event g.events g.transition_tables g.referencing g.fires_for g.when_part g.executes g.watched g.fired g.create_trigger g.create_constraint_trigger
session_statement_has_none = refl

pub setup_statement_has_none : has_no_heading setup_statement ≡ true
unfolding setup_statement supported_in_setup created f.name f.names f.public_name e.behind_dot e.behind_public e.column e.operation_or_column e.old_column e.new_column e.named e.word_or_named e.plain_atom e.atom e.signed e.product e.sum_sign e.summand e.sum e.comparison_sign e.comparison e.negated e.null_or_distinct e.is_test e.test e.negation e.conjunction e.expression e.whole_expression c.where_part c.given c.row_values c.from_table c.source c.column_list c.insert c.assignment c.update c.delete c.columns c.lock_mode c.lock c.select c.constraints c.constraint_mode c.set_constraints b.else_if b.otherwise b.if_statement b.raise b.return_ b.body_statement b.condition b.conditions b.handler b.handlers b.body b.block b.code t.work t.isolation_level t.isolation t.begin t.start_transaction t.savepoint_name t.rollback t.savepoint t.release k.kind k.constant k.initially k.behind_deferrable k.behind_not_deferrable k.initially_alone k.deferring k.given_timing k.perhaps_timing k.timing_without k.matching k.setting k.plain_action k.deletion k.update_setting k.action k.actions k.target k.not_null k.named_constraint k.others_then k.column_constraints k.other_column_constraints k.reference_end k.column_item k.table_primary_key k.table_unique k.table_foreign_key k.bare_table_constraint k.table_constraint k.item k.items k.create_table k.added k.alter_table g.no_arguments g.create_function g.insert_event g.delete_event g.update_event g.events g.transition_tables g.referencing g.fires_for g.when_part g.executes g.watched g.fired g.create_trigger g.create_constraint_trigger
setup_statement_has_none = refl
