-- The grammar on small statements: what is read, and what is refused where.
use Rattle.std.proofs.Common.{◌≡◌, refl, ℕ, zero, suc, pos, true, false, map, List, [], ◌∷◌, length, take, drop, Option, Some, None, codes}
use Rattle.aq_base.specs.declared.value.Value.TheVariants.{Int}
use Rattle.aq_base.specs.declared.expr.Comparison.TheVariants.{Equal}
use Rattle.aq_base.specs.declared.expr.Expr.TheVariants.{Constant, Column, Unary, Binary}
use Rattle.aq_base.specs.declared.expr.UnaryOperator.TheVariants.{Not}
use Rattle.aq_base.specs.declared.expr.BinaryOperator.TheVariants.{Multiply, Add, Compare, And}
use Rattle.aq_base.specs.declared.data.Columns.TheVariants.{All}
use Rattle.aq_base.specs.declared.statement.Statement.TheVariants.{Select}
use Rattle.aq_lex.specs.declared.piece.Piece.{Piece}
use Rattle.aq_lex.specs.declared.piece.Piece.TheVariants.{Blank, Comment, Token}
use Rattle.aq_lex.specs.Lexing.{piece_at}
use Rattle.aq_lex.specs.Lexemes.{PlacedLexeme, lexeme_of}
use Rattle.aq_grammar.specs.Reading.{Read, Stop, Syntax, Refused}
use Rattle.aq_grammar.specs.Nonterminals.{reads, reads_called, rules}
use Rattle.aq_lex.specs.declared.token.Symbol.TheVariants.{Semicolon}
use Rattle.aq_grammar.specs.Terminals.{is_state_code}
use Rattle.aq_grammar.specs.Forms.{◌◂◌, sign, name, names, public_name, unsupported}
use Rattle.aq_grammar.specs.Expressions as e
use Rattle.aq_grammar.specs.Changes as c
use Rattle.aq_grammar.specs.Bodies as b
use Rattle.aq_grammar.specs.Transactions as t
use Rattle.aq_grammar.specs.Tables as k
use Rattle.aq_grammar.specs.Triggers as g
use Rattle.aq_grammar.specs.Statements.{setup_statement, session_statement, supported_in_setup, supported_in_session, created, block_statement}

found : Option (Piece × ℕ) → List ℕ → List PlacedLexeme → List PlacedLexeme
found None bytes others = []
found (Some (Blank, len)) bytes others = others
found (Some (Comment, len)) bytes others = others
found (Some (Token kind, len)) bytes others = record { line = 1; lexeme = lexeme_of kind (take len bytes) } ∷ others

len_of : Option (Piece × ℕ) → ℕ
len_of None = 0
len_of (Some (piece, len)) = len

-- the tokens of a line
lexed : ℕ → List ℕ → List PlacedLexeme
lexed zero bytes = []
lexed (suc most) bytes = found (piece_at false bytes) bytes (lexed most (drop (len_of (piece_at false bytes)) bytes))

text : List ℕ → List PlacedLexeme
text bytes = lexed (length bytes) bytes

precedence : reads session_statement (text (codes "select * from t where a+1*2=3 and not b;")) ≡ Read (Select (record {
  columns = All;
  table = codes "t";
  condition = Some (Binary (Binary (Binary (Column (codes "a")) Add (Binary (Constant (Int (pos 1))) Multiply (Constant (Int (pos 2))))) (Compare Equal) (Constant (Int (pos 3)))) And (Unary Not (Column (codes "b"))));
  lock = None;
})) (text (codes ";"))
unfolding text lexed found len_of piece_at reads_called rules name names public_name setup_statement session_statement supported_in_setup supported_in_session created block_statement e.behind_dot e.behind_public e.column e.operation_or_column e.old_column e.new_column e.named e.word_or_named e.plain_atom e.atom e.signed e.product e.sum_sign e.summand e.sum e.comparison_sign e.comparison e.negated e.null_or_distinct e.is_test e.test e.negation e.conjunction e.expression e.whole_expression c.where_part c.given c.row_values c.from_table c.source c.column_list c.insert c.assignment c.update c.delete c.columns c.lock_mode c.lock c.select c.constraints c.constraint_mode c.set_constraints b.else_if b.otherwise b.if_statement b.raise b.return_ b.body_statement b.condition b.conditions b.handler b.handlers b.body b.block b.code t.work t.isolation_level t.isolation t.begin t.start_transaction t.savepoint_name t.rollback t.savepoint t.release k.kind k.constant k.initially k.behind_deferrable k.behind_not_deferrable k.initially_alone k.deferring k.given_timing k.perhaps_timing k.timing_without k.matching k.setting k.plain_action k.deletion k.update_setting k.action k.actions k.target k.not_null k.named_constraint k.others_then k.column_constraints k.other_column_constraints k.reference_end k.column_item k.table_primary_key k.table_unique k.table_foreign_key k.bare_table_constraint k.table_constraint k.item k.items k.create_table k.added k.alter_table g.no_arguments g.create_function g.insert_event g.delete_event g.update_event g.events g.transition_tables g.referencing g.fires_for g.when_part g.executes g.watched g.fired g.create_trigger g.create_constraint_trigger
precedence = refl

-- ---- each form that is known and not supported, at its first word

refused_before_triggers : reads setup_statement (text (codes "create trigger x before insert on t")) ≡ Stop (Refused (unsupported (codes "BEFORE triggers are not supported"))) (text (codes "before insert on t"))
unfolding text lexed found len_of piece_at reads_called rules name names public_name setup_statement session_statement supported_in_setup supported_in_session created block_statement e.behind_dot e.behind_public e.column e.operation_or_column e.old_column e.new_column e.named e.word_or_named e.plain_atom e.atom e.signed e.product e.sum_sign e.summand e.sum e.comparison_sign e.comparison e.negated e.null_or_distinct e.is_test e.test e.negation e.conjunction e.expression e.whole_expression c.where_part c.given c.row_values c.from_table c.source c.column_list c.insert c.assignment c.update c.delete c.columns c.lock_mode c.lock c.select c.constraints c.constraint_mode c.set_constraints b.else_if b.otherwise b.if_statement b.raise b.return_ b.body_statement b.condition b.conditions b.handler b.handlers b.body b.block b.code t.work t.isolation_level t.isolation t.begin t.start_transaction t.savepoint_name t.rollback t.savepoint t.release k.kind k.constant k.initially k.behind_deferrable k.behind_not_deferrable k.initially_alone k.deferring k.given_timing k.perhaps_timing k.timing_without k.matching k.setting k.plain_action k.deletion k.update_setting k.action k.actions k.target k.not_null k.named_constraint k.others_then k.column_constraints k.other_column_constraints k.reference_end k.column_item k.table_primary_key k.table_unique k.table_foreign_key k.bare_table_constraint k.table_constraint k.item k.items k.create_table k.added k.alter_table g.no_arguments g.create_function g.insert_event g.delete_event g.update_event g.events g.transition_tables g.referencing g.fires_for g.when_part g.executes g.watched g.fired g.create_trigger g.create_constraint_trigger
refused_before_triggers = refl

refused_instead_of_triggers : reads setup_statement (text (codes "create constraint trigger x instead of insert on t")) ≡ Stop (Refused (unsupported (codes "INSTEAD OF triggers are not supported"))) (text (codes "instead of insert on t"))
unfolding text lexed found len_of piece_at reads_called rules name names public_name setup_statement session_statement supported_in_setup supported_in_session created block_statement e.behind_dot e.behind_public e.column e.operation_or_column e.old_column e.new_column e.named e.word_or_named e.plain_atom e.atom e.signed e.product e.sum_sign e.summand e.sum e.comparison_sign e.comparison e.negated e.null_or_distinct e.is_test e.test e.negation e.conjunction e.expression e.whole_expression c.where_part c.given c.row_values c.from_table c.source c.column_list c.insert c.assignment c.update c.delete c.columns c.lock_mode c.lock c.select c.constraints c.constraint_mode c.set_constraints b.else_if b.otherwise b.if_statement b.raise b.return_ b.body_statement b.condition b.conditions b.handler b.handlers b.body b.block b.code t.work t.isolation_level t.isolation t.begin t.start_transaction t.savepoint_name t.rollback t.savepoint t.release k.kind k.constant k.initially k.behind_deferrable k.behind_not_deferrable k.initially_alone k.deferring k.given_timing k.perhaps_timing k.timing_without k.matching k.setting k.plain_action k.deletion k.update_setting k.action k.actions k.target k.not_null k.named_constraint k.others_then k.column_constraints k.other_column_constraints k.reference_end k.column_item k.table_primary_key k.table_unique k.table_foreign_key k.bare_table_constraint k.table_constraint k.item k.items k.create_table k.added k.alter_table g.no_arguments g.create_function g.insert_event g.delete_event g.update_event g.events g.transition_tables g.referencing g.fires_for g.when_part g.executes g.watched g.fired g.create_trigger g.create_constraint_trigger
refused_instead_of_triggers = refl

refused_enabling_and_disabling_triggers : reads setup_statement (text (codes "alter table only public.t enable trigger x")) ≡ Stop (Refused (unsupported (codes "enabling and disabling triggers is not supported"))) (text (codes "alter table only public.t enable trigger x"))
unfolding text lexed found len_of piece_at reads_called rules name names public_name setup_statement session_statement supported_in_setup supported_in_session created block_statement e.behind_dot e.behind_public e.column e.operation_or_column e.old_column e.new_column e.named e.word_or_named e.plain_atom e.atom e.signed e.product e.sum_sign e.summand e.sum e.comparison_sign e.comparison e.negated e.null_or_distinct e.is_test e.test e.negation e.conjunction e.expression e.whole_expression c.where_part c.given c.row_values c.from_table c.source c.column_list c.insert c.assignment c.update c.delete c.columns c.lock_mode c.lock c.select c.constraints c.constraint_mode c.set_constraints b.else_if b.otherwise b.if_statement b.raise b.return_ b.body_statement b.condition b.conditions b.handler b.handlers b.body b.block b.code t.work t.isolation_level t.isolation t.begin t.start_transaction t.savepoint_name t.rollback t.savepoint t.release k.kind k.constant k.initially k.behind_deferrable k.behind_not_deferrable k.initially_alone k.deferring k.given_timing k.perhaps_timing k.timing_without k.matching k.setting k.plain_action k.deletion k.update_setting k.action k.actions k.target k.not_null k.named_constraint k.others_then k.column_constraints k.other_column_constraints k.reference_end k.column_item k.table_primary_key k.table_unique k.table_foreign_key k.bare_table_constraint k.table_constraint k.item k.items k.create_table k.added k.alter_table g.no_arguments g.create_function g.insert_event g.delete_event g.update_event g.events g.transition_tables g.referencing g.fires_for g.when_part g.executes g.watched g.fired g.create_trigger g.create_constraint_trigger
refused_enabling_and_disabling_triggers = refl

refused_enabling_and_disabling_triggers_2 : reads setup_statement (text (codes "alter table t disable trigger all")) ≡ Stop (Refused (unsupported (codes "enabling and disabling triggers is not supported"))) (text (codes "alter table t disable trigger all"))
unfolding text lexed found len_of piece_at reads_called rules name names public_name setup_statement session_statement supported_in_setup supported_in_session created block_statement e.behind_dot e.behind_public e.column e.operation_or_column e.old_column e.new_column e.named e.word_or_named e.plain_atom e.atom e.signed e.product e.sum_sign e.summand e.sum e.comparison_sign e.comparison e.negated e.null_or_distinct e.is_test e.test e.negation e.conjunction e.expression e.whole_expression c.where_part c.given c.row_values c.from_table c.source c.column_list c.insert c.assignment c.update c.delete c.columns c.lock_mode c.lock c.select c.constraints c.constraint_mode c.set_constraints b.else_if b.otherwise b.if_statement b.raise b.return_ b.body_statement b.condition b.conditions b.handler b.handlers b.body b.block b.code t.work t.isolation_level t.isolation t.begin t.start_transaction t.savepoint_name t.rollback t.savepoint t.release k.kind k.constant k.initially k.behind_deferrable k.behind_not_deferrable k.initially_alone k.deferring k.given_timing k.perhaps_timing k.timing_without k.matching k.setting k.plain_action k.deletion k.update_setting k.action k.actions k.target k.not_null k.named_constraint k.others_then k.column_constraints k.other_column_constraints k.reference_end k.column_item k.table_primary_key k.table_unique k.table_foreign_key k.bare_table_constraint k.table_constraint k.item k.items k.create_table k.added k.alter_table g.no_arguments g.create_function g.insert_event g.delete_event g.update_event g.events g.transition_tables g.referencing g.fires_for g.when_part g.executes g.watched g.fired g.create_trigger g.create_constraint_trigger
refused_enabling_and_disabling_triggers_2 = refl

refused_serializable : reads session_statement (text (codes "begin work isolation level serializable;")) ≡ Stop (Refused (unsupported (codes "SERIALIZABLE is not supported"))) (text (codes "isolation level serializable;"))
unfolding text lexed found len_of piece_at reads_called rules name names public_name setup_statement session_statement supported_in_setup supported_in_session created block_statement e.behind_dot e.behind_public e.column e.operation_or_column e.old_column e.new_column e.named e.word_or_named e.plain_atom e.atom e.signed e.product e.sum_sign e.summand e.sum e.comparison_sign e.comparison e.negated e.null_or_distinct e.is_test e.test e.negation e.conjunction e.expression e.whole_expression c.where_part c.given c.row_values c.from_table c.source c.column_list c.insert c.assignment c.update c.delete c.columns c.lock_mode c.lock c.select c.constraints c.constraint_mode c.set_constraints b.else_if b.otherwise b.if_statement b.raise b.return_ b.body_statement b.condition b.conditions b.handler b.handlers b.body b.block b.code t.work t.isolation_level t.isolation t.begin t.start_transaction t.savepoint_name t.rollback t.savepoint t.release k.kind k.constant k.initially k.behind_deferrable k.behind_not_deferrable k.initially_alone k.deferring k.given_timing k.perhaps_timing k.timing_without k.matching k.setting k.plain_action k.deletion k.update_setting k.action k.actions k.target k.not_null k.named_constraint k.others_then k.column_constraints k.other_column_constraints k.reference_end k.column_item k.table_primary_key k.table_unique k.table_foreign_key k.bare_table_constraint k.table_constraint k.item k.items k.create_table k.added k.alter_table g.no_arguments g.create_function g.insert_event g.delete_event g.update_event g.events g.transition_tables g.referencing g.fires_for g.when_part g.executes g.watched g.fired g.create_trigger g.create_constraint_trigger
refused_serializable = refl

refused_serializable_2 : reads session_statement (text (codes "start transaction isolation level serializable;")) ≡ Stop (Refused (unsupported (codes "SERIALIZABLE is not supported"))) (text (codes "isolation level serializable;"))
unfolding text lexed found len_of piece_at reads_called rules name names public_name setup_statement session_statement supported_in_setup supported_in_session created block_statement e.behind_dot e.behind_public e.column e.operation_or_column e.old_column e.new_column e.named e.word_or_named e.plain_atom e.atom e.signed e.product e.sum_sign e.summand e.sum e.comparison_sign e.comparison e.negated e.null_or_distinct e.is_test e.test e.negation e.conjunction e.expression e.whole_expression c.where_part c.given c.row_values c.from_table c.source c.column_list c.insert c.assignment c.update c.delete c.columns c.lock_mode c.lock c.select c.constraints c.constraint_mode c.set_constraints b.else_if b.otherwise b.if_statement b.raise b.return_ b.body_statement b.condition b.conditions b.handler b.handlers b.body b.block b.code t.work t.isolation_level t.isolation t.begin t.start_transaction t.savepoint_name t.rollback t.savepoint t.release k.kind k.constant k.initially k.behind_deferrable k.behind_not_deferrable k.initially_alone k.deferring k.given_timing k.perhaps_timing k.timing_without k.matching k.setting k.plain_action k.deletion k.update_setting k.action k.actions k.target k.not_null k.named_constraint k.others_then k.column_constraints k.other_column_constraints k.reference_end k.column_item k.table_primary_key k.table_unique k.table_foreign_key k.bare_table_constraint k.table_constraint k.item k.items k.create_table k.added k.alter_table g.no_arguments g.create_function g.insert_event g.delete_event g.update_event g.events g.transition_tables g.referencing g.fires_for g.when_part g.executes g.watched g.fired g.create_trigger g.create_constraint_trigger
refused_serializable_2 = refl

refused_match_partial : reads setup_statement (text (codes "create table t (a integer references p (id) match partial)")) ≡ Stop (Refused (unsupported (codes "MATCH PARTIAL is not supported"))) (text (codes "match partial)"))
unfolding text lexed found len_of piece_at reads_called rules name names public_name setup_statement session_statement supported_in_setup supported_in_session created block_statement e.behind_dot e.behind_public e.column e.operation_or_column e.old_column e.new_column e.named e.word_or_named e.plain_atom e.atom e.signed e.product e.sum_sign e.summand e.sum e.comparison_sign e.comparison e.negated e.null_or_distinct e.is_test e.test e.negation e.conjunction e.expression e.whole_expression c.where_part c.given c.row_values c.from_table c.source c.column_list c.insert c.assignment c.update c.delete c.columns c.lock_mode c.lock c.select c.constraints c.constraint_mode c.set_constraints b.else_if b.otherwise b.if_statement b.raise b.return_ b.body_statement b.condition b.conditions b.handler b.handlers b.body b.block b.code t.work t.isolation_level t.isolation t.begin t.start_transaction t.savepoint_name t.rollback t.savepoint t.release k.kind k.constant k.initially k.behind_deferrable k.behind_not_deferrable k.initially_alone k.deferring k.given_timing k.perhaps_timing k.timing_without k.matching k.setting k.plain_action k.deletion k.update_setting k.action k.actions k.target k.not_null k.named_constraint k.others_then k.column_constraints k.other_column_constraints k.reference_end k.column_item k.table_primary_key k.table_unique k.table_foreign_key k.bare_table_constraint k.table_constraint k.item k.items k.create_table k.added k.alter_table g.no_arguments g.create_function g.insert_event g.delete_event g.update_event g.events g.transition_tables g.referencing g.fires_for g.when_part g.executes g.watched g.fired g.create_trigger g.create_constraint_trigger
refused_match_partial = refl

refused_deferrable_unique_keys : reads setup_statement (text (codes "create table t (a integer primary key deferrable)")) ≡ Stop (Refused (unsupported (codes "deferrable unique keys are not supported"))) (text (codes "deferrable)"))
unfolding text lexed found len_of piece_at reads_called rules name names public_name setup_statement session_statement supported_in_setup supported_in_session created block_statement e.behind_dot e.behind_public e.column e.operation_or_column e.old_column e.new_column e.named e.word_or_named e.plain_atom e.atom e.signed e.product e.sum_sign e.summand e.sum e.comparison_sign e.comparison e.negated e.null_or_distinct e.is_test e.test e.negation e.conjunction e.expression e.whole_expression c.where_part c.given c.row_values c.from_table c.source c.column_list c.insert c.assignment c.update c.delete c.columns c.lock_mode c.lock c.select c.constraints c.constraint_mode c.set_constraints b.else_if b.otherwise b.if_statement b.raise b.return_ b.body_statement b.condition b.conditions b.handler b.handlers b.body b.block b.code t.work t.isolation_level t.isolation t.begin t.start_transaction t.savepoint_name t.rollback t.savepoint t.release k.kind k.constant k.initially k.behind_deferrable k.behind_not_deferrable k.initially_alone k.deferring k.given_timing k.perhaps_timing k.timing_without k.matching k.setting k.plain_action k.deletion k.update_setting k.action k.actions k.target k.not_null k.named_constraint k.others_then k.column_constraints k.other_column_constraints k.reference_end k.column_item k.table_primary_key k.table_unique k.table_foreign_key k.bare_table_constraint k.table_constraint k.item k.items k.create_table k.added k.alter_table g.no_arguments g.create_function g.insert_event g.delete_event g.update_event g.events g.transition_tables g.referencing g.fires_for g.when_part g.executes g.watched g.fired g.create_trigger g.create_constraint_trigger
refused_deferrable_unique_keys = refl

refused_deferrable_unique_keys_2 : reads setup_statement (text (codes "create table t (a integer unique not deferrable)")) ≡ Stop (Refused (unsupported (codes "deferrable unique keys are not supported"))) (text (codes "not deferrable)"))
unfolding text lexed found len_of piece_at reads_called rules name names public_name setup_statement session_statement supported_in_setup supported_in_session created block_statement e.behind_dot e.behind_public e.column e.operation_or_column e.old_column e.new_column e.named e.word_or_named e.plain_atom e.atom e.signed e.product e.sum_sign e.summand e.sum e.comparison_sign e.comparison e.negated e.null_or_distinct e.is_test e.test e.negation e.conjunction e.expression e.whole_expression c.where_part c.given c.row_values c.from_table c.source c.column_list c.insert c.assignment c.update c.delete c.columns c.lock_mode c.lock c.select c.constraints c.constraint_mode c.set_constraints b.else_if b.otherwise b.if_statement b.raise b.return_ b.body_statement b.condition b.conditions b.handler b.handlers b.body b.block b.code t.work t.isolation_level t.isolation t.begin t.start_transaction t.savepoint_name t.rollback t.savepoint t.release k.kind k.constant k.initially k.behind_deferrable k.behind_not_deferrable k.initially_alone k.deferring k.given_timing k.perhaps_timing k.timing_without k.matching k.setting k.plain_action k.deletion k.update_setting k.action k.actions k.target k.not_null k.named_constraint k.others_then k.column_constraints k.other_column_constraints k.reference_end k.column_item k.table_primary_key k.table_unique k.table_foreign_key k.bare_table_constraint k.table_constraint k.item k.items k.create_table k.added k.alter_table g.no_arguments g.create_function g.insert_event g.delete_event g.update_event g.events g.transition_tables g.referencing g.fires_for g.when_part g.executes g.watched g.fired g.create_trigger g.create_constraint_trigger
refused_deferrable_unique_keys_2 = refl

refused_deferrable_unique_keys_3 : reads setup_statement (text (codes "create table t (a integer, unique (a) initially deferred)")) ≡ Stop (Refused (unsupported (codes "deferrable unique keys are not supported"))) (text (codes "initially deferred)"))
unfolding text lexed found len_of piece_at reads_called rules name names public_name setup_statement session_statement supported_in_setup supported_in_session created block_statement e.behind_dot e.behind_public e.column e.operation_or_column e.old_column e.new_column e.named e.word_or_named e.plain_atom e.atom e.signed e.product e.sum_sign e.summand e.sum e.comparison_sign e.comparison e.negated e.null_or_distinct e.is_test e.test e.negation e.conjunction e.expression e.whole_expression c.where_part c.given c.row_values c.from_table c.source c.column_list c.insert c.assignment c.update c.delete c.columns c.lock_mode c.lock c.select c.constraints c.constraint_mode c.set_constraints b.else_if b.otherwise b.if_statement b.raise b.return_ b.body_statement b.condition b.conditions b.handler b.handlers b.body b.block b.code t.work t.isolation_level t.isolation t.begin t.start_transaction t.savepoint_name t.rollback t.savepoint t.release k.kind k.constant k.initially k.behind_deferrable k.behind_not_deferrable k.initially_alone k.deferring k.given_timing k.perhaps_timing k.timing_without k.matching k.setting k.plain_action k.deletion k.update_setting k.action k.actions k.target k.not_null k.named_constraint k.others_then k.column_constraints k.other_column_constraints k.reference_end k.column_item k.table_primary_key k.table_unique k.table_foreign_key k.bare_table_constraint k.table_constraint k.item k.items k.create_table k.added k.alter_table g.no_arguments g.create_function g.insert_event g.delete_event g.update_event g.events g.transition_tables g.referencing g.fires_for g.when_part g.executes g.watched g.fired g.create_trigger g.create_constraint_trigger
refused_deferrable_unique_keys_3 = refl

refused_exclusion_constraints : reads setup_statement (text (codes "create table t (exclude using gist (a with =))")) ≡ Stop (Refused (unsupported (codes "exclusion constraints are not supported"))) (text (codes "exclude using gist (a with =))"))
unfolding text lexed found len_of piece_at reads_called rules name names public_name setup_statement session_statement supported_in_setup supported_in_session created block_statement e.behind_dot e.behind_public e.column e.operation_or_column e.old_column e.new_column e.named e.word_or_named e.plain_atom e.atom e.signed e.product e.sum_sign e.summand e.sum e.comparison_sign e.comparison e.negated e.null_or_distinct e.is_test e.test e.negation e.conjunction e.expression e.whole_expression c.where_part c.given c.row_values c.from_table c.source c.column_list c.insert c.assignment c.update c.delete c.columns c.lock_mode c.lock c.select c.constraints c.constraint_mode c.set_constraints b.else_if b.otherwise b.if_statement b.raise b.return_ b.body_statement b.condition b.conditions b.handler b.handlers b.body b.block b.code t.work t.isolation_level t.isolation t.begin t.start_transaction t.savepoint_name t.rollback t.savepoint t.release k.kind k.constant k.initially k.behind_deferrable k.behind_not_deferrable k.initially_alone k.deferring k.given_timing k.perhaps_timing k.timing_without k.matching k.setting k.plain_action k.deletion k.update_setting k.action k.actions k.target k.not_null k.named_constraint k.others_then k.column_constraints k.other_column_constraints k.reference_end k.column_item k.table_primary_key k.table_unique k.table_foreign_key k.bare_table_constraint k.table_constraint k.item k.items k.create_table k.added k.alter_table g.no_arguments g.create_function g.insert_event g.delete_event g.update_event g.events g.transition_tables g.referencing g.fires_for g.when_part g.executes g.watched g.fired g.create_trigger g.create_constraint_trigger
refused_exclusion_constraints = refl

refused_exclusion_constraints_2 : reads setup_statement (text (codes "create table t (a integer constraint n exclude)")) ≡ Stop (Refused (unsupported (codes "exclusion constraints are not supported"))) (text (codes "exclude)"))
unfolding text lexed found len_of piece_at reads_called rules name names public_name setup_statement session_statement supported_in_setup supported_in_session created block_statement e.behind_dot e.behind_public e.column e.operation_or_column e.old_column e.new_column e.named e.word_or_named e.plain_atom e.atom e.signed e.product e.sum_sign e.summand e.sum e.comparison_sign e.comparison e.negated e.null_or_distinct e.is_test e.test e.negation e.conjunction e.expression e.whole_expression c.where_part c.given c.row_values c.from_table c.source c.column_list c.insert c.assignment c.update c.delete c.columns c.lock_mode c.lock c.select c.constraints c.constraint_mode c.set_constraints b.else_if b.otherwise b.if_statement b.raise b.return_ b.body_statement b.condition b.conditions b.handler b.handlers b.body b.block b.code t.work t.isolation_level t.isolation t.begin t.start_transaction t.savepoint_name t.rollback t.savepoint t.release k.kind k.constant k.initially k.behind_deferrable k.behind_not_deferrable k.initially_alone k.deferring k.given_timing k.perhaps_timing k.timing_without k.matching k.setting k.plain_action k.deletion k.update_setting k.action k.actions k.target k.not_null k.named_constraint k.others_then k.column_constraints k.other_column_constraints k.reference_end k.column_item k.table_primary_key k.table_unique k.table_foreign_key k.bare_table_constraint k.table_constraint k.item k.items k.create_table k.added k.alter_table g.no_arguments g.create_function g.insert_event g.delete_event g.update_event g.events g.transition_tables g.referencing g.fires_for g.when_part g.executes g.watched g.fired g.create_trigger g.create_constraint_trigger
refused_exclusion_constraints_2 = refl

refused_check_constraints : reads setup_statement (text (codes "create table t (a integer not null check (a > 0))")) ≡ Stop (Refused (unsupported (codes "CHECK constraints are not supported"))) (text (codes "check (a > 0))"))
unfolding text lexed found len_of piece_at reads_called rules name names public_name setup_statement session_statement supported_in_setup supported_in_session created block_statement e.behind_dot e.behind_public e.column e.operation_or_column e.old_column e.new_column e.named e.word_or_named e.plain_atom e.atom e.signed e.product e.sum_sign e.summand e.sum e.comparison_sign e.comparison e.negated e.null_or_distinct e.is_test e.test e.negation e.conjunction e.expression e.whole_expression c.where_part c.given c.row_values c.from_table c.source c.column_list c.insert c.assignment c.update c.delete c.columns c.lock_mode c.lock c.select c.constraints c.constraint_mode c.set_constraints b.else_if b.otherwise b.if_statement b.raise b.return_ b.body_statement b.condition b.conditions b.handler b.handlers b.body b.block b.code t.work t.isolation_level t.isolation t.begin t.start_transaction t.savepoint_name t.rollback t.savepoint t.release k.kind k.constant k.initially k.behind_deferrable k.behind_not_deferrable k.initially_alone k.deferring k.given_timing k.perhaps_timing k.timing_without k.matching k.setting k.plain_action k.deletion k.update_setting k.action k.actions k.target k.not_null k.named_constraint k.others_then k.column_constraints k.other_column_constraints k.reference_end k.column_item k.table_primary_key k.table_unique k.table_foreign_key k.bare_table_constraint k.table_constraint k.item k.items k.create_table k.added k.alter_table g.no_arguments g.create_function g.insert_event g.delete_event g.update_event g.events g.transition_tables g.referencing g.fires_for g.when_part g.executes g.watched g.fired g.create_trigger g.create_constraint_trigger
refused_check_constraints = refl

refused_check_constraints_2 : reads setup_statement (text (codes "alter table t add constraint n check (a > 0)")) ≡ Stop (Refused (unsupported (codes "CHECK constraints are not supported"))) (text (codes "check (a > 0)"))
unfolding text lexed found len_of piece_at reads_called rules name names public_name setup_statement session_statement supported_in_setup supported_in_session created block_statement e.behind_dot e.behind_public e.column e.operation_or_column e.old_column e.new_column e.named e.word_or_named e.plain_atom e.atom e.signed e.product e.sum_sign e.summand e.sum e.comparison_sign e.comparison e.negated e.null_or_distinct e.is_test e.test e.negation e.conjunction e.expression e.whole_expression c.where_part c.given c.row_values c.from_table c.source c.column_list c.insert c.assignment c.update c.delete c.columns c.lock_mode c.lock c.select c.constraints c.constraint_mode c.set_constraints b.else_if b.otherwise b.if_statement b.raise b.return_ b.body_statement b.condition b.conditions b.handler b.handlers b.body b.block b.code t.work t.isolation_level t.isolation t.begin t.start_transaction t.savepoint_name t.rollback t.savepoint t.release k.kind k.constant k.initially k.behind_deferrable k.behind_not_deferrable k.initially_alone k.deferring k.given_timing k.perhaps_timing k.timing_without k.matching k.setting k.plain_action k.deletion k.update_setting k.action k.actions k.target k.not_null k.named_constraint k.others_then k.column_constraints k.other_column_constraints k.reference_end k.column_item k.table_primary_key k.table_unique k.table_foreign_key k.bare_table_constraint k.table_constraint k.item k.items k.create_table k.added k.alter_table g.no_arguments g.create_function g.insert_event g.delete_event g.update_event g.events g.transition_tables g.referencing g.fires_for g.when_part g.executes g.watched g.fired g.create_trigger g.create_constraint_trigger
refused_check_constraints_2 = refl

refused_partitions : reads setup_statement (text (codes "create table t (a integer) partition by list (a)")) ≡ Stop (Refused (unsupported (codes "partitions are not supported"))) (text (codes "partition by list (a)"))
unfolding text lexed found len_of piece_at reads_called rules name names public_name setup_statement session_statement supported_in_setup supported_in_session created block_statement e.behind_dot e.behind_public e.column e.operation_or_column e.old_column e.new_column e.named e.word_or_named e.plain_atom e.atom e.signed e.product e.sum_sign e.summand e.sum e.comparison_sign e.comparison e.negated e.null_or_distinct e.is_test e.test e.negation e.conjunction e.expression e.whole_expression c.where_part c.given c.row_values c.from_table c.source c.column_list c.insert c.assignment c.update c.delete c.columns c.lock_mode c.lock c.select c.constraints c.constraint_mode c.set_constraints b.else_if b.otherwise b.if_statement b.raise b.return_ b.body_statement b.condition b.conditions b.handler b.handlers b.body b.block b.code t.work t.isolation_level t.isolation t.begin t.start_transaction t.savepoint_name t.rollback t.savepoint t.release k.kind k.constant k.initially k.behind_deferrable k.behind_not_deferrable k.initially_alone k.deferring k.given_timing k.perhaps_timing k.timing_without k.matching k.setting k.plain_action k.deletion k.update_setting k.action k.actions k.target k.not_null k.named_constraint k.others_then k.column_constraints k.other_column_constraints k.reference_end k.column_item k.table_primary_key k.table_unique k.table_foreign_key k.bare_table_constraint k.table_constraint k.item k.items k.create_table k.added k.alter_table g.no_arguments g.create_function g.insert_event g.delete_event g.update_event g.events g.transition_tables g.referencing g.fires_for g.when_part g.executes g.watched g.fired g.create_trigger g.create_constraint_trigger
refused_partitions = refl

refused_inheritance : reads setup_statement (text (codes "create table t (a integer) inherits (p)")) ≡ Stop (Refused (unsupported (codes "inheritance is not supported"))) (text (codes "inherits (p)"))
unfolding text lexed found len_of piece_at reads_called rules name names public_name setup_statement session_statement supported_in_setup supported_in_session created block_statement e.behind_dot e.behind_public e.column e.operation_or_column e.old_column e.new_column e.named e.word_or_named e.plain_atom e.atom e.signed e.product e.sum_sign e.summand e.sum e.comparison_sign e.comparison e.negated e.null_or_distinct e.is_test e.test e.negation e.conjunction e.expression e.whole_expression c.where_part c.given c.row_values c.from_table c.source c.column_list c.insert c.assignment c.update c.delete c.columns c.lock_mode c.lock c.select c.constraints c.constraint_mode c.set_constraints b.else_if b.otherwise b.if_statement b.raise b.return_ b.body_statement b.condition b.conditions b.handler b.handlers b.body b.block b.code t.work t.isolation_level t.isolation t.begin t.start_transaction t.savepoint_name t.rollback t.savepoint t.release k.kind k.constant k.initially k.behind_deferrable k.behind_not_deferrable k.initially_alone k.deferring k.given_timing k.perhaps_timing k.timing_without k.matching k.setting k.plain_action k.deletion k.update_setting k.action k.actions k.target k.not_null k.named_constraint k.others_then k.column_constraints k.other_column_constraints k.reference_end k.column_item k.table_primary_key k.table_unique k.table_foreign_key k.bare_table_constraint k.table_constraint k.item k.items k.create_table k.added k.alter_table g.no_arguments g.create_function g.insert_event g.delete_event g.update_event g.events g.transition_tables g.referencing g.fires_for g.when_part g.executes g.watched g.fired g.create_trigger g.create_constraint_trigger
refused_inheritance = refl

refused_truncate : reads session_statement (text (codes "truncate t;")) ≡ Stop (Refused (unsupported (codes "TRUNCATE is not supported"))) (text (codes "truncate t;"))
unfolding text lexed found len_of piece_at reads_called rules name names public_name setup_statement session_statement supported_in_setup supported_in_session created block_statement e.behind_dot e.behind_public e.column e.operation_or_column e.old_column e.new_column e.named e.word_or_named e.plain_atom e.atom e.signed e.product e.sum_sign e.summand e.sum e.comparison_sign e.comparison e.negated e.null_or_distinct e.is_test e.test e.negation e.conjunction e.expression e.whole_expression c.where_part c.given c.row_values c.from_table c.source c.column_list c.insert c.assignment c.update c.delete c.columns c.lock_mode c.lock c.select c.constraints c.constraint_mode c.set_constraints b.else_if b.otherwise b.if_statement b.raise b.return_ b.body_statement b.condition b.conditions b.handler b.handlers b.body b.block b.code t.work t.isolation_level t.isolation t.begin t.start_transaction t.savepoint_name t.rollback t.savepoint t.release k.kind k.constant k.initially k.behind_deferrable k.behind_not_deferrable k.initially_alone k.deferring k.given_timing k.perhaps_timing k.timing_without k.matching k.setting k.plain_action k.deletion k.update_setting k.action k.actions k.target k.not_null k.named_constraint k.others_then k.column_constraints k.other_column_constraints k.reference_end k.column_item k.table_primary_key k.table_unique k.table_foreign_key k.bare_table_constraint k.table_constraint k.item k.items k.create_table k.added k.alter_table g.no_arguments g.create_function g.insert_event g.delete_event g.update_event g.events g.transition_tables g.referencing g.fires_for g.when_part g.executes g.watched g.fired g.create_trigger g.create_constraint_trigger
refused_truncate = refl

refused_merge : reads setup_statement (text (codes "merge into t;")) ≡ Stop (Refused (unsupported (codes "MERGE is not supported"))) (text (codes "merge into t;"))
unfolding text lexed found len_of piece_at reads_called rules name names public_name setup_statement session_statement supported_in_setup supported_in_session created block_statement e.behind_dot e.behind_public e.column e.operation_or_column e.old_column e.new_column e.named e.word_or_named e.plain_atom e.atom e.signed e.product e.sum_sign e.summand e.sum e.comparison_sign e.comparison e.negated e.null_or_distinct e.is_test e.test e.negation e.conjunction e.expression e.whole_expression c.where_part c.given c.row_values c.from_table c.source c.column_list c.insert c.assignment c.update c.delete c.columns c.lock_mode c.lock c.select c.constraints c.constraint_mode c.set_constraints b.else_if b.otherwise b.if_statement b.raise b.return_ b.body_statement b.condition b.conditions b.handler b.handlers b.body b.block b.code t.work t.isolation_level t.isolation t.begin t.start_transaction t.savepoint_name t.rollback t.savepoint t.release k.kind k.constant k.initially k.behind_deferrable k.behind_not_deferrable k.initially_alone k.deferring k.given_timing k.perhaps_timing k.timing_without k.matching k.setting k.plain_action k.deletion k.update_setting k.action k.actions k.target k.not_null k.named_constraint k.others_then k.column_constraints k.other_column_constraints k.reference_end k.column_item k.table_primary_key k.table_unique k.table_foreign_key k.bare_table_constraint k.table_constraint k.item k.items k.create_table k.added k.alter_table g.no_arguments g.create_function g.insert_event g.delete_event g.update_event g.events g.transition_tables g.referencing g.fires_for g.when_part g.executes g.watched g.fired g.create_trigger g.create_constraint_trigger
refused_merge = refl

refused_on_conflict : reads session_statement (text (codes "insert into t values (1) on conflict do nothing;")) ≡ Stop (Refused (unsupported (codes "ON CONFLICT is not supported"))) (text (codes "on conflict do nothing;"))
unfolding text lexed found len_of piece_at reads_called rules name names public_name setup_statement session_statement supported_in_setup supported_in_session created block_statement e.behind_dot e.behind_public e.column e.operation_or_column e.old_column e.new_column e.named e.word_or_named e.plain_atom e.atom e.signed e.product e.sum_sign e.summand e.sum e.comparison_sign e.comparison e.negated e.null_or_distinct e.is_test e.test e.negation e.conjunction e.expression e.whole_expression c.where_part c.given c.row_values c.from_table c.source c.column_list c.insert c.assignment c.update c.delete c.columns c.lock_mode c.lock c.select c.constraints c.constraint_mode c.set_constraints b.else_if b.otherwise b.if_statement b.raise b.return_ b.body_statement b.condition b.conditions b.handler b.handlers b.body b.block b.code t.work t.isolation_level t.isolation t.begin t.start_transaction t.savepoint_name t.rollback t.savepoint t.release k.kind k.constant k.initially k.behind_deferrable k.behind_not_deferrable k.initially_alone k.deferring k.given_timing k.perhaps_timing k.timing_without k.matching k.setting k.plain_action k.deletion k.update_setting k.action k.actions k.target k.not_null k.named_constraint k.others_then k.column_constraints k.other_column_constraints k.reference_end k.column_item k.table_primary_key k.table_unique k.table_foreign_key k.bare_table_constraint k.table_constraint k.item k.items k.create_table k.added k.alter_table g.no_arguments g.create_function g.insert_event g.delete_event g.update_event g.events g.transition_tables g.referencing g.fires_for g.when_part g.executes g.watched g.fired g.create_trigger g.create_constraint_trigger
refused_on_conflict = refl

refused_returning : reads session_statement (text (codes "update t set a = 1 where b returning a;")) ≡ Stop (Refused (unsupported (codes "RETURNING is not supported"))) (text (codes "returning a;"))
unfolding text lexed found len_of piece_at reads_called rules name names public_name setup_statement session_statement supported_in_setup supported_in_session created block_statement e.behind_dot e.behind_public e.column e.operation_or_column e.old_column e.new_column e.named e.word_or_named e.plain_atom e.atom e.signed e.product e.sum_sign e.summand e.sum e.comparison_sign e.comparison e.negated e.null_or_distinct e.is_test e.test e.negation e.conjunction e.expression e.whole_expression c.where_part c.given c.row_values c.from_table c.source c.column_list c.insert c.assignment c.update c.delete c.columns c.lock_mode c.lock c.select c.constraints c.constraint_mode c.set_constraints b.else_if b.otherwise b.if_statement b.raise b.return_ b.body_statement b.condition b.conditions b.handler b.handlers b.body b.block b.code t.work t.isolation_level t.isolation t.begin t.start_transaction t.savepoint_name t.rollback t.savepoint t.release k.kind k.constant k.initially k.behind_deferrable k.behind_not_deferrable k.initially_alone k.deferring k.given_timing k.perhaps_timing k.timing_without k.matching k.setting k.plain_action k.deletion k.update_setting k.action k.actions k.target k.not_null k.named_constraint k.others_then k.column_constraints k.other_column_constraints k.reference_end k.column_item k.table_primary_key k.table_unique k.table_foreign_key k.bare_table_constraint k.table_constraint k.item k.items k.create_table k.added k.alter_table g.no_arguments g.create_function g.insert_event g.delete_event g.update_event g.events g.transition_tables g.referencing g.fires_for g.when_part g.executes g.watched g.fired g.create_trigger g.create_constraint_trigger
refused_returning = refl

refused_joins : reads session_statement (text (codes "select a from t , u;")) ≡ Stop (Refused (unsupported (codes "joins are not supported"))) (text (codes ", u;"))
unfolding text lexed found len_of piece_at reads_called rules name names public_name setup_statement session_statement supported_in_setup supported_in_session created block_statement e.behind_dot e.behind_public e.column e.operation_or_column e.old_column e.new_column e.named e.word_or_named e.plain_atom e.atom e.signed e.product e.sum_sign e.summand e.sum e.comparison_sign e.comparison e.negated e.null_or_distinct e.is_test e.test e.negation e.conjunction e.expression e.whole_expression c.where_part c.given c.row_values c.from_table c.source c.column_list c.insert c.assignment c.update c.delete c.columns c.lock_mode c.lock c.select c.constraints c.constraint_mode c.set_constraints b.else_if b.otherwise b.if_statement b.raise b.return_ b.body_statement b.condition b.conditions b.handler b.handlers b.body b.block b.code t.work t.isolation_level t.isolation t.begin t.start_transaction t.savepoint_name t.rollback t.savepoint t.release k.kind k.constant k.initially k.behind_deferrable k.behind_not_deferrable k.initially_alone k.deferring k.given_timing k.perhaps_timing k.timing_without k.matching k.setting k.plain_action k.deletion k.update_setting k.action k.actions k.target k.not_null k.named_constraint k.others_then k.column_constraints k.other_column_constraints k.reference_end k.column_item k.table_primary_key k.table_unique k.table_foreign_key k.bare_table_constraint k.table_constraint k.item k.items k.create_table k.added k.alter_table g.no_arguments g.create_function g.insert_event g.delete_event g.update_event g.events g.transition_tables g.referencing g.fires_for g.when_part g.executes g.watched g.fired g.create_trigger g.create_constraint_trigger
refused_joins = refl

refused_joins_2 : reads session_statement (text (codes "delete from t join u;")) ≡ Stop (Refused (unsupported (codes "joins are not supported"))) (text (codes "join u;"))
unfolding text lexed found len_of piece_at reads_called rules name names public_name setup_statement session_statement supported_in_setup supported_in_session created block_statement e.behind_dot e.behind_public e.column e.operation_or_column e.old_column e.new_column e.named e.word_or_named e.plain_atom e.atom e.signed e.product e.sum_sign e.summand e.sum e.comparison_sign e.comparison e.negated e.null_or_distinct e.is_test e.test e.negation e.conjunction e.expression e.whole_expression c.where_part c.given c.row_values c.from_table c.source c.column_list c.insert c.assignment c.update c.delete c.columns c.lock_mode c.lock c.select c.constraints c.constraint_mode c.set_constraints b.else_if b.otherwise b.if_statement b.raise b.return_ b.body_statement b.condition b.conditions b.handler b.handlers b.body b.block b.code t.work t.isolation_level t.isolation t.begin t.start_transaction t.savepoint_name t.rollback t.savepoint t.release k.kind k.constant k.initially k.behind_deferrable k.behind_not_deferrable k.initially_alone k.deferring k.given_timing k.perhaps_timing k.timing_without k.matching k.setting k.plain_action k.deletion k.update_setting k.action k.actions k.target k.not_null k.named_constraint k.others_then k.column_constraints k.other_column_constraints k.reference_end k.column_item k.table_primary_key k.table_unique k.table_foreign_key k.bare_table_constraint k.table_constraint k.item k.items k.create_table k.added k.alter_table g.no_arguments g.create_function g.insert_event g.delete_event g.update_event g.events g.transition_tables g.referencing g.fires_for g.when_part g.executes g.watched g.fired g.create_trigger g.create_constraint_trigger
refused_joins_2 = refl

refused_joins_3 : reads session_statement (text (codes "insert into t select a from u join v;")) ≡ Stop (Refused (unsupported (codes "joins are not supported"))) (text (codes "join v;"))
unfolding text lexed found len_of piece_at reads_called rules name names public_name setup_statement session_statement supported_in_setup supported_in_session created block_statement e.behind_dot e.behind_public e.column e.operation_or_column e.old_column e.new_column e.named e.word_or_named e.plain_atom e.atom e.signed e.product e.sum_sign e.summand e.sum e.comparison_sign e.comparison e.negated e.null_or_distinct e.is_test e.test e.negation e.conjunction e.expression e.whole_expression c.where_part c.given c.row_values c.from_table c.source c.column_list c.insert c.assignment c.update c.delete c.columns c.lock_mode c.lock c.select c.constraints c.constraint_mode c.set_constraints b.else_if b.otherwise b.if_statement b.raise b.return_ b.body_statement b.condition b.conditions b.handler b.handlers b.body b.block b.code t.work t.isolation_level t.isolation t.begin t.start_transaction t.savepoint_name t.rollback t.savepoint t.release k.kind k.constant k.initially k.behind_deferrable k.behind_not_deferrable k.initially_alone k.deferring k.given_timing k.perhaps_timing k.timing_without k.matching k.setting k.plain_action k.deletion k.update_setting k.action k.actions k.target k.not_null k.named_constraint k.others_then k.column_constraints k.other_column_constraints k.reference_end k.column_item k.table_primary_key k.table_unique k.table_foreign_key k.bare_table_constraint k.table_constraint k.item k.items k.create_table k.added k.alter_table g.no_arguments g.create_function g.insert_event g.delete_event g.update_event g.events g.transition_tables g.referencing g.fires_for g.when_part g.executes g.watched g.fired g.create_trigger g.create_constraint_trigger
refused_joins_3 = refl

refused_views : reads setup_statement (text (codes "create view v as select 1")) ≡ Stop (Refused (unsupported (codes "views are not supported"))) (text (codes "create view v as select 1"))
unfolding text lexed found len_of piece_at reads_called rules name names public_name setup_statement session_statement supported_in_setup supported_in_session created block_statement e.behind_dot e.behind_public e.column e.operation_or_column e.old_column e.new_column e.named e.word_or_named e.plain_atom e.atom e.signed e.product e.sum_sign e.summand e.sum e.comparison_sign e.comparison e.negated e.null_or_distinct e.is_test e.test e.negation e.conjunction e.expression e.whole_expression c.where_part c.given c.row_values c.from_table c.source c.column_list c.insert c.assignment c.update c.delete c.columns c.lock_mode c.lock c.select c.constraints c.constraint_mode c.set_constraints b.else_if b.otherwise b.if_statement b.raise b.return_ b.body_statement b.condition b.conditions b.handler b.handlers b.body b.block b.code t.work t.isolation_level t.isolation t.begin t.start_transaction t.savepoint_name t.rollback t.savepoint t.release k.kind k.constant k.initially k.behind_deferrable k.behind_not_deferrable k.initially_alone k.deferring k.given_timing k.perhaps_timing k.timing_without k.matching k.setting k.plain_action k.deletion k.update_setting k.action k.actions k.target k.not_null k.named_constraint k.others_then k.column_constraints k.other_column_constraints k.reference_end k.column_item k.table_primary_key k.table_unique k.table_foreign_key k.bare_table_constraint k.table_constraint k.item k.items k.create_table k.added k.alter_table g.no_arguments g.create_function g.insert_event g.delete_event g.update_event g.events g.transition_tables g.referencing g.fires_for g.when_part g.executes g.watched g.fired g.create_trigger g.create_constraint_trigger
refused_views = refl

refused_rules : reads setup_statement (text (codes "create rule r as on insert to t do nothing")) ≡ Stop (Refused (unsupported (codes "rules are not supported"))) (text (codes "create rule r as on insert to t do nothing"))
unfolding text lexed found len_of piece_at reads_called rules name names public_name setup_statement session_statement supported_in_setup supported_in_session created block_statement e.behind_dot e.behind_public e.column e.operation_or_column e.old_column e.new_column e.named e.word_or_named e.plain_atom e.atom e.signed e.product e.sum_sign e.summand e.sum e.comparison_sign e.comparison e.negated e.null_or_distinct e.is_test e.test e.negation e.conjunction e.expression e.whole_expression c.where_part c.given c.row_values c.from_table c.source c.column_list c.insert c.assignment c.update c.delete c.columns c.lock_mode c.lock c.select c.constraints c.constraint_mode c.set_constraints b.else_if b.otherwise b.if_statement b.raise b.return_ b.body_statement b.condition b.conditions b.handler b.handlers b.body b.block b.code t.work t.isolation_level t.isolation t.begin t.start_transaction t.savepoint_name t.rollback t.savepoint t.release k.kind k.constant k.initially k.behind_deferrable k.behind_not_deferrable k.initially_alone k.deferring k.given_timing k.perhaps_timing k.timing_without k.matching k.setting k.plain_action k.deletion k.update_setting k.action k.actions k.target k.not_null k.named_constraint k.others_then k.column_constraints k.other_column_constraints k.reference_end k.column_item k.table_primary_key k.table_unique k.table_foreign_key k.bare_table_constraint k.table_constraint k.item k.items k.create_table k.added k.alter_table g.no_arguments g.create_function g.insert_event g.delete_event g.update_event g.events g.transition_tables g.referencing g.fires_for g.when_part g.executes g.watched g.fired g.create_trigger g.create_constraint_trigger
refused_rules = refl

refused_ddl_outside_setup : reads session_statement (text (codes "create table t (a integer);")) ≡ Stop (Refused (unsupported (codes "DDL outside setup is not supported"))) (text (codes "create table t (a integer);"))
unfolding text lexed found len_of piece_at reads_called rules name names public_name setup_statement session_statement supported_in_setup supported_in_session created block_statement e.behind_dot e.behind_public e.column e.operation_or_column e.old_column e.new_column e.named e.word_or_named e.plain_atom e.atom e.signed e.product e.sum_sign e.summand e.sum e.comparison_sign e.comparison e.negated e.null_or_distinct e.is_test e.test e.negation e.conjunction e.expression e.whole_expression c.where_part c.given c.row_values c.from_table c.source c.column_list c.insert c.assignment c.update c.delete c.columns c.lock_mode c.lock c.select c.constraints c.constraint_mode c.set_constraints b.else_if b.otherwise b.if_statement b.raise b.return_ b.body_statement b.condition b.conditions b.handler b.handlers b.body b.block b.code t.work t.isolation_level t.isolation t.begin t.start_transaction t.savepoint_name t.rollback t.savepoint t.release k.kind k.constant k.initially k.behind_deferrable k.behind_not_deferrable k.initially_alone k.deferring k.given_timing k.perhaps_timing k.timing_without k.matching k.setting k.plain_action k.deletion k.update_setting k.action k.actions k.target k.not_null k.named_constraint k.others_then k.column_constraints k.other_column_constraints k.reference_end k.column_item k.table_primary_key k.table_unique k.table_foreign_key k.bare_table_constraint k.table_constraint k.item k.items k.create_table k.added k.alter_table g.no_arguments g.create_function g.insert_event g.delete_event g.update_event g.events g.transition_tables g.referencing g.fires_for g.when_part g.executes g.watched g.fired g.create_trigger g.create_constraint_trigger
refused_ddl_outside_setup = refl

refused_ddl_outside_setup_2 : reads session_statement (text (codes "alter table t add primary key (a);")) ≡ Stop (Refused (unsupported (codes "DDL outside setup is not supported"))) (text (codes "alter table t add primary key (a);"))
unfolding text lexed found len_of piece_at reads_called rules name names public_name setup_statement session_statement supported_in_setup supported_in_session created block_statement e.behind_dot e.behind_public e.column e.operation_or_column e.old_column e.new_column e.named e.word_or_named e.plain_atom e.atom e.signed e.product e.sum_sign e.summand e.sum e.comparison_sign e.comparison e.negated e.null_or_distinct e.is_test e.test e.negation e.conjunction e.expression e.whole_expression c.where_part c.given c.row_values c.from_table c.source c.column_list c.insert c.assignment c.update c.delete c.columns c.lock_mode c.lock c.select c.constraints c.constraint_mode c.set_constraints b.else_if b.otherwise b.if_statement b.raise b.return_ b.body_statement b.condition b.conditions b.handler b.handlers b.body b.block b.code t.work t.isolation_level t.isolation t.begin t.start_transaction t.savepoint_name t.rollback t.savepoint t.release k.kind k.constant k.initially k.behind_deferrable k.behind_not_deferrable k.initially_alone k.deferring k.given_timing k.perhaps_timing k.timing_without k.matching k.setting k.plain_action k.deletion k.update_setting k.action k.actions k.target k.not_null k.named_constraint k.others_then k.column_constraints k.other_column_constraints k.reference_end k.column_item k.table_primary_key k.table_unique k.table_foreign_key k.bare_table_constraint k.table_constraint k.item k.items k.create_table k.added k.alter_table g.no_arguments g.create_function g.insert_event g.delete_event g.update_event g.events g.transition_tables g.referencing g.fires_for g.when_part g.executes g.watched g.fired g.create_trigger g.create_constraint_trigger
refused_ddl_outside_setup_2 = refl

refused_data_statements_in_setup : reads setup_statement (text (codes "savepoint s")) ≡ Stop (Refused (unsupported (codes "data statements in setup are not supported"))) (text (codes "savepoint s"))
unfolding text lexed found len_of piece_at reads_called rules name names public_name setup_statement session_statement supported_in_setup supported_in_session created block_statement e.behind_dot e.behind_public e.column e.operation_or_column e.old_column e.new_column e.named e.word_or_named e.plain_atom e.atom e.signed e.product e.sum_sign e.summand e.sum e.comparison_sign e.comparison e.negated e.null_or_distinct e.is_test e.test e.negation e.conjunction e.expression e.whole_expression c.where_part c.given c.row_values c.from_table c.source c.column_list c.insert c.assignment c.update c.delete c.columns c.lock_mode c.lock c.select c.constraints c.constraint_mode c.set_constraints b.else_if b.otherwise b.if_statement b.raise b.return_ b.body_statement b.condition b.conditions b.handler b.handlers b.body b.block b.code t.work t.isolation_level t.isolation t.begin t.start_transaction t.savepoint_name t.rollback t.savepoint t.release k.kind k.constant k.initially k.behind_deferrable k.behind_not_deferrable k.initially_alone k.deferring k.given_timing k.perhaps_timing k.timing_without k.matching k.setting k.plain_action k.deletion k.update_setting k.action k.actions k.target k.not_null k.named_constraint k.others_then k.column_constraints k.other_column_constraints k.reference_end k.column_item k.table_primary_key k.table_unique k.table_foreign_key k.bare_table_constraint k.table_constraint k.item k.items k.create_table k.added k.alter_table g.no_arguments g.create_function g.insert_event g.delete_event g.update_event g.events g.transition_tables g.referencing g.fires_for g.when_part g.executes g.watched g.fired g.create_trigger g.create_constraint_trigger
refused_data_statements_in_setup = refl

refused_prepare_transaction : reads session_statement (text (codes "prepare transaction x;")) ≡ Stop (Refused (unsupported (codes "PREPARE TRANSACTION is not supported"))) (text (codes "prepare transaction x;"))
unfolding text lexed found len_of piece_at reads_called rules name names public_name setup_statement session_statement supported_in_setup supported_in_session created block_statement e.behind_dot e.behind_public e.column e.operation_or_column e.old_column e.new_column e.named e.word_or_named e.plain_atom e.atom e.signed e.product e.sum_sign e.summand e.sum e.comparison_sign e.comparison e.negated e.null_or_distinct e.is_test e.test e.negation e.conjunction e.expression e.whole_expression c.where_part c.given c.row_values c.from_table c.source c.column_list c.insert c.assignment c.update c.delete c.columns c.lock_mode c.lock c.select c.constraints c.constraint_mode c.set_constraints b.else_if b.otherwise b.if_statement b.raise b.return_ b.body_statement b.condition b.conditions b.handler b.handlers b.body b.block b.code t.work t.isolation_level t.isolation t.begin t.start_transaction t.savepoint_name t.rollback t.savepoint t.release k.kind k.constant k.initially k.behind_deferrable k.behind_not_deferrable k.initially_alone k.deferring k.given_timing k.perhaps_timing k.timing_without k.matching k.setting k.plain_action k.deletion k.update_setting k.action k.actions k.target k.not_null k.named_constraint k.others_then k.column_constraints k.other_column_constraints k.reference_end k.column_item k.table_primary_key k.table_unique k.table_foreign_key k.bare_table_constraint k.table_constraint k.item k.items k.create_table k.added k.alter_table g.no_arguments g.create_function g.insert_event g.delete_event g.update_event g.events g.transition_tables g.referencing g.fires_for g.when_part g.executes g.watched g.fired g.create_trigger g.create_constraint_trigger
refused_prepare_transaction = refl

refused_not_valid : reads setup_statement (text (codes "alter table t add foreign key (a) references p on delete cascade not valid")) ≡ Stop (Refused (unsupported (codes "NOT VALID is not supported"))) (text (codes "not valid"))
unfolding text lexed found len_of piece_at reads_called rules name names public_name setup_statement session_statement supported_in_setup supported_in_session created block_statement e.behind_dot e.behind_public e.column e.operation_or_column e.old_column e.new_column e.named e.word_or_named e.plain_atom e.atom e.signed e.product e.sum_sign e.summand e.sum e.comparison_sign e.comparison e.negated e.null_or_distinct e.is_test e.test e.negation e.conjunction e.expression e.whole_expression c.where_part c.given c.row_values c.from_table c.source c.column_list c.insert c.assignment c.update c.delete c.columns c.lock_mode c.lock c.select c.constraints c.constraint_mode c.set_constraints b.else_if b.otherwise b.if_statement b.raise b.return_ b.body_statement b.condition b.conditions b.handler b.handlers b.body b.block b.code t.work t.isolation_level t.isolation t.begin t.start_transaction t.savepoint_name t.rollback t.savepoint t.release k.kind k.constant k.initially k.behind_deferrable k.behind_not_deferrable k.initially_alone k.deferring k.given_timing k.perhaps_timing k.timing_without k.matching k.setting k.plain_action k.deletion k.update_setting k.action k.actions k.target k.not_null k.named_constraint k.others_then k.column_constraints k.other_column_constraints k.reference_end k.column_item k.table_primary_key k.table_unique k.table_foreign_key k.bare_table_constraint k.table_constraint k.item k.items k.create_table k.added k.alter_table g.no_arguments g.create_function g.insert_event g.delete_event g.update_event g.events g.transition_tables g.referencing g.fires_for g.when_part g.executes g.watched g.fired g.create_trigger g.create_constraint_trigger
refused_not_valid = refl

refused_not_valid_2 : reads setup_statement (text (codes "create table t (a integer references p not deferrable not valid)")) ≡ Stop (Refused (unsupported (codes "NOT VALID is not supported"))) (text (codes "not valid)"))
unfolding text lexed found len_of piece_at reads_called rules name names public_name setup_statement session_statement supported_in_setup supported_in_session created block_statement e.behind_dot e.behind_public e.column e.operation_or_column e.old_column e.new_column e.named e.word_or_named e.plain_atom e.atom e.signed e.product e.sum_sign e.summand e.sum e.comparison_sign e.comparison e.negated e.null_or_distinct e.is_test e.test e.negation e.conjunction e.expression e.whole_expression c.where_part c.given c.row_values c.from_table c.source c.column_list c.insert c.assignment c.update c.delete c.columns c.lock_mode c.lock c.select c.constraints c.constraint_mode c.set_constraints b.else_if b.otherwise b.if_statement b.raise b.return_ b.body_statement b.condition b.conditions b.handler b.handlers b.body b.block b.code t.work t.isolation_level t.isolation t.begin t.start_transaction t.savepoint_name t.rollback t.savepoint t.release k.kind k.constant k.initially k.behind_deferrable k.behind_not_deferrable k.initially_alone k.deferring k.given_timing k.perhaps_timing k.timing_without k.matching k.setting k.plain_action k.deletion k.update_setting k.action k.actions k.target k.not_null k.named_constraint k.others_then k.column_constraints k.other_column_constraints k.reference_end k.column_item k.table_primary_key k.table_unique k.table_foreign_key k.bare_table_constraint k.table_constraint k.item k.items k.create_table k.added k.alter_table g.no_arguments g.create_function g.insert_event g.delete_event g.update_event g.events g.transition_tables g.referencing g.fires_for g.when_part g.executes g.watched g.fired g.create_trigger g.create_constraint_trigger
refused_not_valid_2 = refl

refused_nowait : reads session_statement (text (codes "select a from t for update nowait;")) ≡ Stop (Refused (unsupported (codes "NOWAIT is not supported"))) (text (codes "nowait;"))
unfolding text lexed found len_of piece_at reads_called rules name names public_name setup_statement session_statement supported_in_setup supported_in_session created block_statement e.behind_dot e.behind_public e.column e.operation_or_column e.old_column e.new_column e.named e.word_or_named e.plain_atom e.atom e.signed e.product e.sum_sign e.summand e.sum e.comparison_sign e.comparison e.negated e.null_or_distinct e.is_test e.test e.negation e.conjunction e.expression e.whole_expression c.where_part c.given c.row_values c.from_table c.source c.column_list c.insert c.assignment c.update c.delete c.columns c.lock_mode c.lock c.select c.constraints c.constraint_mode c.set_constraints b.else_if b.otherwise b.if_statement b.raise b.return_ b.body_statement b.condition b.conditions b.handler b.handlers b.body b.block b.code t.work t.isolation_level t.isolation t.begin t.start_transaction t.savepoint_name t.rollback t.savepoint t.release k.kind k.constant k.initially k.behind_deferrable k.behind_not_deferrable k.initially_alone k.deferring k.given_timing k.perhaps_timing k.timing_without k.matching k.setting k.plain_action k.deletion k.update_setting k.action k.actions k.target k.not_null k.named_constraint k.others_then k.column_constraints k.other_column_constraints k.reference_end k.column_item k.table_primary_key k.table_unique k.table_foreign_key k.bare_table_constraint k.table_constraint k.item k.items k.create_table k.added k.alter_table g.no_arguments g.create_function g.insert_event g.delete_event g.update_event g.events g.transition_tables g.referencing g.fires_for g.when_part g.executes g.watched g.fired g.create_trigger g.create_constraint_trigger
refused_nowait = refl

refused_skip_locked : reads session_statement (text (codes "select a from t for key share skip locked;")) ≡ Stop (Refused (unsupported (codes "SKIP LOCKED is not supported"))) (text (codes "skip locked;"))
unfolding text lexed found len_of piece_at reads_called rules name names public_name setup_statement session_statement supported_in_setup supported_in_session created block_statement e.behind_dot e.behind_public e.column e.operation_or_column e.old_column e.new_column e.named e.word_or_named e.plain_atom e.atom e.signed e.product e.sum_sign e.summand e.sum e.comparison_sign e.comparison e.negated e.null_or_distinct e.is_test e.test e.negation e.conjunction e.expression e.whole_expression c.where_part c.given c.row_values c.from_table c.source c.column_list c.insert c.assignment c.update c.delete c.columns c.lock_mode c.lock c.select c.constraints c.constraint_mode c.set_constraints b.else_if b.otherwise b.if_statement b.raise b.return_ b.body_statement b.condition b.conditions b.handler b.handlers b.body b.block b.code t.work t.isolation_level t.isolation t.begin t.start_transaction t.savepoint_name t.rollback t.savepoint t.release k.kind k.constant k.initially k.behind_deferrable k.behind_not_deferrable k.initially_alone k.deferring k.given_timing k.perhaps_timing k.timing_without k.matching k.setting k.plain_action k.deletion k.update_setting k.action k.actions k.target k.not_null k.named_constraint k.others_then k.column_constraints k.other_column_constraints k.reference_end k.column_item k.table_primary_key k.table_unique k.table_foreign_key k.bare_table_constraint k.table_constraint k.item k.items k.create_table k.added k.alter_table g.no_arguments g.create_function g.insert_event g.delete_event g.update_event g.events g.transition_tables g.referencing g.fires_for g.when_part g.executes g.watched g.fired g.create_trigger g.create_constraint_trigger
refused_skip_locked = refl

refused_truncate_2 : reads setup_statement (text (codes "create function f() returns trigger language plpgsql as $$ begin if a then truncate t; end if; end $$")) ≡ Stop (Refused (unsupported (codes "TRUNCATE is not supported"))) (text (codes "truncate t; end if; end $$"))
unfolding text lexed found len_of piece_at reads_called rules name names public_name setup_statement session_statement supported_in_setup supported_in_session created block_statement e.behind_dot e.behind_public e.column e.operation_or_column e.old_column e.new_column e.named e.word_or_named e.plain_atom e.atom e.signed e.product e.sum_sign e.summand e.sum e.comparison_sign e.comparison e.negated e.null_or_distinct e.is_test e.test e.negation e.conjunction e.expression e.whole_expression c.where_part c.given c.row_values c.from_table c.source c.column_list c.insert c.assignment c.update c.delete c.columns c.lock_mode c.lock c.select c.constraints c.constraint_mode c.set_constraints b.else_if b.otherwise b.if_statement b.raise b.return_ b.body_statement b.condition b.conditions b.handler b.handlers b.body b.block b.code t.work t.isolation_level t.isolation t.begin t.start_transaction t.savepoint_name t.rollback t.savepoint t.release k.kind k.constant k.initially k.behind_deferrable k.behind_not_deferrable k.initially_alone k.deferring k.given_timing k.perhaps_timing k.timing_without k.matching k.setting k.plain_action k.deletion k.update_setting k.action k.actions k.target k.not_null k.named_constraint k.others_then k.column_constraints k.other_column_constraints k.reference_end k.column_item k.table_primary_key k.table_unique k.table_foreign_key k.bare_table_constraint k.table_constraint k.item k.items k.create_table k.added k.alter_table g.no_arguments g.create_function g.insert_event g.delete_event g.update_event g.events g.transition_tables g.referencing g.fires_for g.when_part g.executes g.watched g.fired g.create_trigger g.create_constraint_trigger
refused_truncate_2 = refl

refused_update_list : reads setup_statement (text (codes "create table t (a integer references p on update set null (a))")) ≡ Stop (Refused (unsupported (codes "a column list with SET NULL is only supported for ON DELETE actions"))) (text (codes "(a))"))
unfolding text lexed found len_of piece_at reads_called rules name names public_name setup_statement session_statement supported_in_setup supported_in_session created block_statement e.behind_dot e.behind_public e.column e.operation_or_column e.old_column e.new_column e.named e.word_or_named e.plain_atom e.atom e.signed e.product e.sum_sign e.summand e.sum e.comparison_sign e.comparison e.negated e.null_or_distinct e.is_test e.test e.negation e.conjunction e.expression e.whole_expression c.where_part c.given c.row_values c.from_table c.source c.column_list c.insert c.assignment c.update c.delete c.columns c.lock_mode c.lock c.select c.constraints c.constraint_mode c.set_constraints b.else_if b.otherwise b.if_statement b.raise b.return_ b.body_statement b.condition b.conditions b.handler b.handlers b.body b.block b.code t.work t.isolation_level t.isolation t.begin t.start_transaction t.savepoint_name t.rollback t.savepoint t.release k.kind k.constant k.initially k.behind_deferrable k.behind_not_deferrable k.initially_alone k.deferring k.given_timing k.perhaps_timing k.timing_without k.matching k.setting k.plain_action k.deletion k.update_setting k.action k.actions k.target k.not_null k.named_constraint k.others_then k.column_constraints k.other_column_constraints k.reference_end k.column_item k.table_primary_key k.table_unique k.table_foreign_key k.bare_table_constraint k.table_constraint k.item k.items k.create_table k.added k.alter_table g.no_arguments g.create_function g.insert_event g.delete_event g.update_event g.events g.transition_tables g.referencing g.fires_for g.when_part g.executes g.watched g.fired g.create_trigger g.create_constraint_trigger
refused_update_list = refl

refused_update_list_2 : reads setup_statement (text (codes "alter table t add foreign key (a) references p on delete set null (a) on update set default (a)")) ≡ Stop (Refused (unsupported (codes "a column list with SET DEFAULT is only supported for ON DELETE actions"))) (text (codes "(a)"))
unfolding text lexed found len_of piece_at reads_called rules name names public_name setup_statement session_statement supported_in_setup supported_in_session created block_statement e.behind_dot e.behind_public e.column e.operation_or_column e.old_column e.new_column e.named e.word_or_named e.plain_atom e.atom e.signed e.product e.sum_sign e.summand e.sum e.comparison_sign e.comparison e.negated e.null_or_distinct e.is_test e.test e.negation e.conjunction e.expression e.whole_expression c.where_part c.given c.row_values c.from_table c.source c.column_list c.insert c.assignment c.update c.delete c.columns c.lock_mode c.lock c.select c.constraints c.constraint_mode c.set_constraints b.else_if b.otherwise b.if_statement b.raise b.return_ b.body_statement b.condition b.conditions b.handler b.handlers b.body b.block b.code t.work t.isolation_level t.isolation t.begin t.start_transaction t.savepoint_name t.rollback t.savepoint t.release k.kind k.constant k.initially k.behind_deferrable k.behind_not_deferrable k.initially_alone k.deferring k.given_timing k.perhaps_timing k.timing_without k.matching k.setting k.plain_action k.deletion k.update_setting k.action k.actions k.target k.not_null k.named_constraint k.others_then k.column_constraints k.other_column_constraints k.reference_end k.column_item k.table_primary_key k.table_unique k.table_foreign_key k.bare_table_constraint k.table_constraint k.item k.items k.create_table k.added k.alter_table g.no_arguments g.create_function g.insert_event g.delete_event g.update_event g.events g.transition_tables g.referencing g.fires_for g.when_part g.executes g.watched g.fired g.create_trigger g.create_constraint_trigger
refused_update_list_2 = refl

-- ---- and what stands in no form

syntax_1 : reads (session_statement ◂ sign Semicolon) (text (codes "select * from t for nowait")) ≡ Stop Syntax (text (codes "nowait"))
unfolding text lexed found len_of piece_at reads_called rules name names public_name setup_statement session_statement supported_in_setup supported_in_session created block_statement e.behind_dot e.behind_public e.column e.operation_or_column e.old_column e.new_column e.named e.word_or_named e.plain_atom e.atom e.signed e.product e.sum_sign e.summand e.sum e.comparison_sign e.comparison e.negated e.null_or_distinct e.is_test e.test e.negation e.conjunction e.expression e.whole_expression c.where_part c.given c.row_values c.from_table c.source c.column_list c.insert c.assignment c.update c.delete c.columns c.lock_mode c.lock c.select c.constraints c.constraint_mode c.set_constraints b.else_if b.otherwise b.if_statement b.raise b.return_ b.body_statement b.condition b.conditions b.handler b.handlers b.body b.block b.code t.work t.isolation_level t.isolation t.begin t.start_transaction t.savepoint_name t.rollback t.savepoint t.release k.kind k.constant k.initially k.behind_deferrable k.behind_not_deferrable k.initially_alone k.deferring k.given_timing k.perhaps_timing k.timing_without k.matching k.setting k.plain_action k.deletion k.update_setting k.action k.actions k.target k.not_null k.named_constraint k.others_then k.column_constraints k.other_column_constraints k.reference_end k.column_item k.table_primary_key k.table_unique k.table_foreign_key k.bare_table_constraint k.table_constraint k.item k.items k.create_table k.added k.alter_table g.no_arguments g.create_function g.insert_event g.delete_event g.update_event g.events g.transition_tables g.referencing g.fires_for g.when_part g.executes g.watched g.fired g.create_trigger g.create_constraint_trigger
syntax_1 = refl

syntax_2 : reads (session_statement ◂ sign Semicolon) (text (codes "update t set a = 1 on conflict")) ≡ Stop Syntax (text (codes "on conflict"))
unfolding text lexed found len_of piece_at reads_called rules name names public_name setup_statement session_statement supported_in_setup supported_in_session created block_statement e.behind_dot e.behind_public e.column e.operation_or_column e.old_column e.new_column e.named e.word_or_named e.plain_atom e.atom e.signed e.product e.sum_sign e.summand e.sum e.comparison_sign e.comparison e.negated e.null_or_distinct e.is_test e.test e.negation e.conjunction e.expression e.whole_expression c.where_part c.given c.row_values c.from_table c.source c.column_list c.insert c.assignment c.update c.delete c.columns c.lock_mode c.lock c.select c.constraints c.constraint_mode c.set_constraints b.else_if b.otherwise b.if_statement b.raise b.return_ b.body_statement b.condition b.conditions b.handler b.handlers b.body b.block b.code t.work t.isolation_level t.isolation t.begin t.start_transaction t.savepoint_name t.rollback t.savepoint t.release k.kind k.constant k.initially k.behind_deferrable k.behind_not_deferrable k.initially_alone k.deferring k.given_timing k.perhaps_timing k.timing_without k.matching k.setting k.plain_action k.deletion k.update_setting k.action k.actions k.target k.not_null k.named_constraint k.others_then k.column_constraints k.other_column_constraints k.reference_end k.column_item k.table_primary_key k.table_unique k.table_foreign_key k.bare_table_constraint k.table_constraint k.item k.items k.create_table k.added k.alter_table g.no_arguments g.create_function g.insert_event g.delete_event g.update_event g.events g.transition_tables g.referencing g.fires_for g.when_part g.executes g.watched g.fired g.create_trigger g.create_constraint_trigger
syntax_2 = refl

syntax_3 : reads (session_statement ◂ sign Semicolon) (text (codes "select a from t returning a")) ≡ Stop Syntax (text (codes "returning a"))
unfolding text lexed found len_of piece_at reads_called rules name names public_name setup_statement session_statement supported_in_setup supported_in_session created block_statement e.behind_dot e.behind_public e.column e.operation_or_column e.old_column e.new_column e.named e.word_or_named e.plain_atom e.atom e.signed e.product e.sum_sign e.summand e.sum e.comparison_sign e.comparison e.negated e.null_or_distinct e.is_test e.test e.negation e.conjunction e.expression e.whole_expression c.where_part c.given c.row_values c.from_table c.source c.column_list c.insert c.assignment c.update c.delete c.columns c.lock_mode c.lock c.select c.constraints c.constraint_mode c.set_constraints b.else_if b.otherwise b.if_statement b.raise b.return_ b.body_statement b.condition b.conditions b.handler b.handlers b.body b.block b.code t.work t.isolation_level t.isolation t.begin t.start_transaction t.savepoint_name t.rollback t.savepoint t.release k.kind k.constant k.initially k.behind_deferrable k.behind_not_deferrable k.initially_alone k.deferring k.given_timing k.perhaps_timing k.timing_without k.matching k.setting k.plain_action k.deletion k.update_setting k.action k.actions k.target k.not_null k.named_constraint k.others_then k.column_constraints k.other_column_constraints k.reference_end k.column_item k.table_primary_key k.table_unique k.table_foreign_key k.bare_table_constraint k.table_constraint k.item k.items k.create_table k.added k.alter_table g.no_arguments g.create_function g.insert_event g.delete_event g.update_event g.events g.transition_tables g.referencing g.fires_for g.when_part g.executes g.watched g.fired g.create_trigger g.create_constraint_trigger
syntax_3 = refl

syntax_4 : reads (session_statement ◂ sign Semicolon) (text (codes "select a from t inner join u")) ≡ Stop Syntax (text (codes "inner join u"))
unfolding text lexed found len_of piece_at reads_called rules name names public_name setup_statement session_statement supported_in_setup supported_in_session created block_statement e.behind_dot e.behind_public e.column e.operation_or_column e.old_column e.new_column e.named e.word_or_named e.plain_atom e.atom e.signed e.product e.sum_sign e.summand e.sum e.comparison_sign e.comparison e.negated e.null_or_distinct e.is_test e.test e.negation e.conjunction e.expression e.whole_expression c.where_part c.given c.row_values c.from_table c.source c.column_list c.insert c.assignment c.update c.delete c.columns c.lock_mode c.lock c.select c.constraints c.constraint_mode c.set_constraints b.else_if b.otherwise b.if_statement b.raise b.return_ b.body_statement b.condition b.conditions b.handler b.handlers b.body b.block b.code t.work t.isolation_level t.isolation t.begin t.start_transaction t.savepoint_name t.rollback t.savepoint t.release k.kind k.constant k.initially k.behind_deferrable k.behind_not_deferrable k.initially_alone k.deferring k.given_timing k.perhaps_timing k.timing_without k.matching k.setting k.plain_action k.deletion k.update_setting k.action k.actions k.target k.not_null k.named_constraint k.others_then k.column_constraints k.other_column_constraints k.reference_end k.column_item k.table_primary_key k.table_unique k.table_foreign_key k.bare_table_constraint k.table_constraint k.item k.items k.create_table k.added k.alter_table g.no_arguments g.create_function g.insert_event g.delete_event g.update_event g.events g.transition_tables g.referencing g.fires_for g.when_part g.executes g.watched g.fired g.create_trigger g.create_constraint_trigger
syntax_4 = refl

syntax_5 : reads (setup_statement ◂ sign Semicolon) (text (codes "create table t (c integer not valid)")) ≡ Stop Syntax (text (codes "valid)"))
unfolding text lexed found len_of piece_at reads_called rules name names public_name setup_statement session_statement supported_in_setup supported_in_session created block_statement e.behind_dot e.behind_public e.column e.operation_or_column e.old_column e.new_column e.named e.word_or_named e.plain_atom e.atom e.signed e.product e.sum_sign e.summand e.sum e.comparison_sign e.comparison e.negated e.null_or_distinct e.is_test e.test e.negation e.conjunction e.expression e.whole_expression c.where_part c.given c.row_values c.from_table c.source c.column_list c.insert c.assignment c.update c.delete c.columns c.lock_mode c.lock c.select c.constraints c.constraint_mode c.set_constraints b.else_if b.otherwise b.if_statement b.raise b.return_ b.body_statement b.condition b.conditions b.handler b.handlers b.body b.block b.code t.work t.isolation_level t.isolation t.begin t.start_transaction t.savepoint_name t.rollback t.savepoint t.release k.kind k.constant k.initially k.behind_deferrable k.behind_not_deferrable k.initially_alone k.deferring k.given_timing k.perhaps_timing k.timing_without k.matching k.setting k.plain_action k.deletion k.update_setting k.action k.actions k.target k.not_null k.named_constraint k.others_then k.column_constraints k.other_column_constraints k.reference_end k.column_item k.table_primary_key k.table_unique k.table_foreign_key k.bare_table_constraint k.table_constraint k.item k.items k.create_table k.added k.alter_table g.no_arguments g.create_function g.insert_event g.delete_event g.update_event g.events g.transition_tables g.referencing g.fires_for g.when_part g.executes g.watched g.fired g.create_trigger g.create_constraint_trigger
syntax_5 = refl

syntax_6 : reads (setup_statement ◂ sign Semicolon) (text (codes "create table t (a integer primary key not null deferrable)")) ≡ Stop Syntax (text (codes "deferrable)"))
unfolding text lexed found len_of piece_at reads_called rules name names public_name setup_statement session_statement supported_in_setup supported_in_session created block_statement e.behind_dot e.behind_public e.column e.operation_or_column e.old_column e.new_column e.named e.word_or_named e.plain_atom e.atom e.signed e.product e.sum_sign e.summand e.sum e.comparison_sign e.comparison e.negated e.null_or_distinct e.is_test e.test e.negation e.conjunction e.expression e.whole_expression c.where_part c.given c.row_values c.from_table c.source c.column_list c.insert c.assignment c.update c.delete c.columns c.lock_mode c.lock c.select c.constraints c.constraint_mode c.set_constraints b.else_if b.otherwise b.if_statement b.raise b.return_ b.body_statement b.condition b.conditions b.handler b.handlers b.body b.block b.code t.work t.isolation_level t.isolation t.begin t.start_transaction t.savepoint_name t.rollback t.savepoint t.release k.kind k.constant k.initially k.behind_deferrable k.behind_not_deferrable k.initially_alone k.deferring k.given_timing k.perhaps_timing k.timing_without k.matching k.setting k.plain_action k.deletion k.update_setting k.action k.actions k.target k.not_null k.named_constraint k.others_then k.column_constraints k.other_column_constraints k.reference_end k.column_item k.table_primary_key k.table_unique k.table_foreign_key k.bare_table_constraint k.table_constraint k.item k.items k.create_table k.added k.alter_table g.no_arguments g.create_function g.insert_event g.delete_event g.update_event g.events g.transition_tables g.referencing g.fires_for g.when_part g.executes g.watched g.fired g.create_trigger g.create_constraint_trigger
syntax_6 = refl

syntax_7 : reads (setup_statement ◂ sign Semicolon) (text (codes "create table t (a integer default 1 default 2)")) ≡ Stop Syntax (text (codes "default 2)"))
unfolding text lexed found len_of piece_at reads_called rules name names public_name setup_statement session_statement supported_in_setup supported_in_session created block_statement e.behind_dot e.behind_public e.column e.operation_or_column e.old_column e.new_column e.named e.word_or_named e.plain_atom e.atom e.signed e.product e.sum_sign e.summand e.sum e.comparison_sign e.comparison e.negated e.null_or_distinct e.is_test e.test e.negation e.conjunction e.expression e.whole_expression c.where_part c.given c.row_values c.from_table c.source c.column_list c.insert c.assignment c.update c.delete c.columns c.lock_mode c.lock c.select c.constraints c.constraint_mode c.set_constraints b.else_if b.otherwise b.if_statement b.raise b.return_ b.body_statement b.condition b.conditions b.handler b.handlers b.body b.block b.code t.work t.isolation_level t.isolation t.begin t.start_transaction t.savepoint_name t.rollback t.savepoint t.release k.kind k.constant k.initially k.behind_deferrable k.behind_not_deferrable k.initially_alone k.deferring k.given_timing k.perhaps_timing k.timing_without k.matching k.setting k.plain_action k.deletion k.update_setting k.action k.actions k.target k.not_null k.named_constraint k.others_then k.column_constraints k.other_column_constraints k.reference_end k.column_item k.table_primary_key k.table_unique k.table_foreign_key k.bare_table_constraint k.table_constraint k.item k.items k.create_table k.added k.alter_table g.no_arguments g.create_function g.insert_event g.delete_event g.update_event g.events g.transition_tables g.referencing g.fires_for g.when_part g.executes g.watched g.fired g.create_trigger g.create_constraint_trigger
syntax_7 = refl

syntax_8 : reads (setup_statement ◂ sign Semicolon) (text (codes "create table t (a integer references p on delete cascade on delete cascade)")) ≡ Stop Syntax (text (codes "delete cascade)"))
unfolding text lexed found len_of piece_at reads_called rules name names public_name setup_statement session_statement supported_in_setup supported_in_session created block_statement e.behind_dot e.behind_public e.column e.operation_or_column e.old_column e.new_column e.named e.word_or_named e.plain_atom e.atom e.signed e.product e.sum_sign e.summand e.sum e.comparison_sign e.comparison e.negated e.null_or_distinct e.is_test e.test e.negation e.conjunction e.expression e.whole_expression c.where_part c.given c.row_values c.from_table c.source c.column_list c.insert c.assignment c.update c.delete c.columns c.lock_mode c.lock c.select c.constraints c.constraint_mode c.set_constraints b.else_if b.otherwise b.if_statement b.raise b.return_ b.body_statement b.condition b.conditions b.handler b.handlers b.body b.block b.code t.work t.isolation_level t.isolation t.begin t.start_transaction t.savepoint_name t.rollback t.savepoint t.release k.kind k.constant k.initially k.behind_deferrable k.behind_not_deferrable k.initially_alone k.deferring k.given_timing k.perhaps_timing k.timing_without k.matching k.setting k.plain_action k.deletion k.update_setting k.action k.actions k.target k.not_null k.named_constraint k.others_then k.column_constraints k.other_column_constraints k.reference_end k.column_item k.table_primary_key k.table_unique k.table_foreign_key k.bare_table_constraint k.table_constraint k.item k.items k.create_table k.added k.alter_table g.no_arguments g.create_function g.insert_event g.delete_event g.update_event g.events g.transition_tables g.referencing g.fires_for g.when_part g.executes g.watched g.fired g.create_trigger g.create_constraint_trigger
syntax_8 = refl

syntax_9 : reads (setup_statement ◂ sign Semicolon) (text (codes "create table t (a integer references p not deferrable initially deferred)")) ≡ Stop Syntax (text (codes "deferred)"))
unfolding text lexed found len_of piece_at reads_called rules name names public_name setup_statement session_statement supported_in_setup supported_in_session created block_statement e.behind_dot e.behind_public e.column e.operation_or_column e.old_column e.new_column e.named e.word_or_named e.plain_atom e.atom e.signed e.product e.sum_sign e.summand e.sum e.comparison_sign e.comparison e.negated e.null_or_distinct e.is_test e.test e.negation e.conjunction e.expression e.whole_expression c.where_part c.given c.row_values c.from_table c.source c.column_list c.insert c.assignment c.update c.delete c.columns c.lock_mode c.lock c.select c.constraints c.constraint_mode c.set_constraints b.else_if b.otherwise b.if_statement b.raise b.return_ b.body_statement b.condition b.conditions b.handler b.handlers b.body b.block b.code t.work t.isolation_level t.isolation t.begin t.start_transaction t.savepoint_name t.rollback t.savepoint t.release k.kind k.constant k.initially k.behind_deferrable k.behind_not_deferrable k.initially_alone k.deferring k.given_timing k.perhaps_timing k.timing_without k.matching k.setting k.plain_action k.deletion k.update_setting k.action k.actions k.target k.not_null k.named_constraint k.others_then k.column_constraints k.other_column_constraints k.reference_end k.column_item k.table_primary_key k.table_unique k.table_foreign_key k.bare_table_constraint k.table_constraint k.item k.items k.create_table k.added k.alter_table g.no_arguments g.create_function g.insert_event g.delete_event g.update_event g.events g.transition_tables g.referencing g.fires_for g.when_part g.executes g.watched g.fired g.create_trigger g.create_constraint_trigger
syntax_9 = refl

syntax_10 : reads (setup_statement ◂ sign Semicolon) (text (codes "create constraint trigger x after insert on t from u")) ≡ Stop Syntax (text (codes "from u"))
unfolding text lexed found len_of piece_at reads_called rules name names public_name setup_statement session_statement supported_in_setup supported_in_session created block_statement e.behind_dot e.behind_public e.column e.operation_or_column e.old_column e.new_column e.named e.word_or_named e.plain_atom e.atom e.signed e.product e.sum_sign e.summand e.sum e.comparison_sign e.comparison e.negated e.null_or_distinct e.is_test e.test e.negation e.conjunction e.expression e.whole_expression c.where_part c.given c.row_values c.from_table c.source c.column_list c.insert c.assignment c.update c.delete c.columns c.lock_mode c.lock c.select c.constraints c.constraint_mode c.set_constraints b.else_if b.otherwise b.if_statement b.raise b.return_ b.body_statement b.condition b.conditions b.handler b.handlers b.body b.block b.code t.work t.isolation_level t.isolation t.begin t.start_transaction t.savepoint_name t.rollback t.savepoint t.release k.kind k.constant k.initially k.behind_deferrable k.behind_not_deferrable k.initially_alone k.deferring k.given_timing k.perhaps_timing k.timing_without k.matching k.setting k.plain_action k.deletion k.update_setting k.action k.actions k.target k.not_null k.named_constraint k.others_then k.column_constraints k.other_column_constraints k.reference_end k.column_item k.table_primary_key k.table_unique k.table_foreign_key k.bare_table_constraint k.table_constraint k.item k.items k.create_table k.added k.alter_table g.no_arguments g.create_function g.insert_event g.delete_event g.update_event g.events g.transition_tables g.referencing g.fires_for g.when_part g.executes g.watched g.fired g.create_trigger g.create_constraint_trigger
syntax_10 = refl

syntax_11 : reads (setup_statement ◂ sign Semicolon) (text (codes "create trigger x after insert or insert on t")) ≡ Stop Syntax (text (codes "insert on t"))
unfolding text lexed found len_of piece_at reads_called rules name names public_name setup_statement session_statement supported_in_setup supported_in_session created block_statement e.behind_dot e.behind_public e.column e.operation_or_column e.old_column e.new_column e.named e.word_or_named e.plain_atom e.atom e.signed e.product e.sum_sign e.summand e.sum e.comparison_sign e.comparison e.negated e.null_or_distinct e.is_test e.test e.negation e.conjunction e.expression e.whole_expression c.where_part c.given c.row_values c.from_table c.source c.column_list c.insert c.assignment c.update c.delete c.columns c.lock_mode c.lock c.select c.constraints c.constraint_mode c.set_constraints b.else_if b.otherwise b.if_statement b.raise b.return_ b.body_statement b.condition b.conditions b.handler b.handlers b.body b.block b.code t.work t.isolation_level t.isolation t.begin t.start_transaction t.savepoint_name t.rollback t.savepoint t.release k.kind k.constant k.initially k.behind_deferrable k.behind_not_deferrable k.initially_alone k.deferring k.given_timing k.perhaps_timing k.timing_without k.matching k.setting k.plain_action k.deletion k.update_setting k.action k.actions k.target k.not_null k.named_constraint k.others_then k.column_constraints k.other_column_constraints k.reference_end k.column_item k.table_primary_key k.table_unique k.table_foreign_key k.bare_table_constraint k.table_constraint k.item k.items k.create_table k.added k.alter_table g.no_arguments g.create_function g.insert_event g.delete_event g.update_event g.events g.transition_tables g.referencing g.fires_for g.when_part g.executes g.watched g.fired g.create_trigger g.create_constraint_trigger
syntax_11 = refl

syntax_12 : reads (setup_statement ◂ sign Semicolon) (text (codes "create trigger x after update on t referencing old table as o new table as o for each row")) ≡ Stop Syntax (text (codes "o for each row"))
unfolding text lexed found len_of piece_at reads_called rules name names public_name setup_statement session_statement supported_in_setup supported_in_session created block_statement e.behind_dot e.behind_public e.column e.operation_or_column e.old_column e.new_column e.named e.word_or_named e.plain_atom e.atom e.signed e.product e.sum_sign e.summand e.sum e.comparison_sign e.comparison e.negated e.null_or_distinct e.is_test e.test e.negation e.conjunction e.expression e.whole_expression c.where_part c.given c.row_values c.from_table c.source c.column_list c.insert c.assignment c.update c.delete c.columns c.lock_mode c.lock c.select c.constraints c.constraint_mode c.set_constraints b.else_if b.otherwise b.if_statement b.raise b.return_ b.body_statement b.condition b.conditions b.handler b.handlers b.body b.block b.code t.work t.isolation_level t.isolation t.begin t.start_transaction t.savepoint_name t.rollback t.savepoint t.release k.kind k.constant k.initially k.behind_deferrable k.behind_not_deferrable k.initially_alone k.deferring k.given_timing k.perhaps_timing k.timing_without k.matching k.setting k.plain_action k.deletion k.update_setting k.action k.actions k.target k.not_null k.named_constraint k.others_then k.column_constraints k.other_column_constraints k.reference_end k.column_item k.table_primary_key k.table_unique k.table_foreign_key k.bare_table_constraint k.table_constraint k.item k.items k.create_table k.added k.alter_table g.no_arguments g.create_function g.insert_event g.delete_event g.update_event g.events g.transition_tables g.referencing g.fires_for g.when_part g.executes g.watched g.fired g.create_trigger g.create_constraint_trigger
syntax_12 = refl

syntax_13 : reads (session_statement ◂ sign Semicolon) (text (codes "insert into t values (a = b = c)")) ≡ Stop Syntax (text (codes "= c)"))
unfolding text lexed found len_of piece_at reads_called rules name names public_name setup_statement session_statement supported_in_setup supported_in_session created block_statement e.behind_dot e.behind_public e.column e.operation_or_column e.old_column e.new_column e.named e.word_or_named e.plain_atom e.atom e.signed e.product e.sum_sign e.summand e.sum e.comparison_sign e.comparison e.negated e.null_or_distinct e.is_test e.test e.negation e.conjunction e.expression e.whole_expression c.where_part c.given c.row_values c.from_table c.source c.column_list c.insert c.assignment c.update c.delete c.columns c.lock_mode c.lock c.select c.constraints c.constraint_mode c.set_constraints b.else_if b.otherwise b.if_statement b.raise b.return_ b.body_statement b.condition b.conditions b.handler b.handlers b.body b.block b.code t.work t.isolation_level t.isolation t.begin t.start_transaction t.savepoint_name t.rollback t.savepoint t.release k.kind k.constant k.initially k.behind_deferrable k.behind_not_deferrable k.initially_alone k.deferring k.given_timing k.perhaps_timing k.timing_without k.matching k.setting k.plain_action k.deletion k.update_setting k.action k.actions k.target k.not_null k.named_constraint k.others_then k.column_constraints k.other_column_constraints k.reference_end k.column_item k.table_primary_key k.table_unique k.table_foreign_key k.bare_table_constraint k.table_constraint k.item k.items k.create_table k.added k.alter_table g.no_arguments g.create_function g.insert_event g.delete_event g.update_event g.events g.transition_tables g.referencing g.fires_for g.when_part g.executes g.watched g.fired g.create_trigger g.create_constraint_trigger
syntax_13 = refl

syntax_14 : reads (session_statement ◂ sign Semicolon) (text (codes "delete from t where a = not b")) ≡ Stop Syntax (text (codes "not b"))
unfolding text lexed found len_of piece_at reads_called rules name names public_name setup_statement session_statement supported_in_setup supported_in_session created block_statement e.behind_dot e.behind_public e.column e.operation_or_column e.old_column e.new_column e.named e.word_or_named e.plain_atom e.atom e.signed e.product e.sum_sign e.summand e.sum e.comparison_sign e.comparison e.negated e.null_or_distinct e.is_test e.test e.negation e.conjunction e.expression e.whole_expression c.where_part c.given c.row_values c.from_table c.source c.column_list c.insert c.assignment c.update c.delete c.columns c.lock_mode c.lock c.select c.constraints c.constraint_mode c.set_constraints b.else_if b.otherwise b.if_statement b.raise b.return_ b.body_statement b.condition b.conditions b.handler b.handlers b.body b.block b.code t.work t.isolation_level t.isolation t.begin t.start_transaction t.savepoint_name t.rollback t.savepoint t.release k.kind k.constant k.initially k.behind_deferrable k.behind_not_deferrable k.initially_alone k.deferring k.given_timing k.perhaps_timing k.timing_without k.matching k.setting k.plain_action k.deletion k.update_setting k.action k.actions k.target k.not_null k.named_constraint k.others_then k.column_constraints k.other_column_constraints k.reference_end k.column_item k.table_primary_key k.table_unique k.table_foreign_key k.bare_table_constraint k.table_constraint k.item k.items k.create_table k.added k.alter_table g.no_arguments g.create_function g.insert_event g.delete_event g.update_event g.events g.transition_tables g.referencing g.fires_for g.when_part g.executes g.watched g.fired g.create_trigger g.create_constraint_trigger
syntax_14 = refl

syntax_15 : reads (session_statement ◂ sign Semicolon) (text (codes "delete from t where new.a = 1")) ≡ Stop Syntax (text (codes "new.a = 1"))
unfolding text lexed found len_of piece_at reads_called rules name names public_name setup_statement session_statement supported_in_setup supported_in_session created block_statement e.behind_dot e.behind_public e.column e.operation_or_column e.old_column e.new_column e.named e.word_or_named e.plain_atom e.atom e.signed e.product e.sum_sign e.summand e.sum e.comparison_sign e.comparison e.negated e.null_or_distinct e.is_test e.test e.negation e.conjunction e.expression e.whole_expression c.where_part c.given c.row_values c.from_table c.source c.column_list c.insert c.assignment c.update c.delete c.columns c.lock_mode c.lock c.select c.constraints c.constraint_mode c.set_constraints b.else_if b.otherwise b.if_statement b.raise b.return_ b.body_statement b.condition b.conditions b.handler b.handlers b.body b.block b.code t.work t.isolation_level t.isolation t.begin t.start_transaction t.savepoint_name t.rollback t.savepoint t.release k.kind k.constant k.initially k.behind_deferrable k.behind_not_deferrable k.initially_alone k.deferring k.given_timing k.perhaps_timing k.timing_without k.matching k.setting k.plain_action k.deletion k.update_setting k.action k.actions k.target k.not_null k.named_constraint k.others_then k.column_constraints k.other_column_constraints k.reference_end k.column_item k.table_primary_key k.table_unique k.table_foreign_key k.bare_table_constraint k.table_constraint k.item k.items k.create_table k.added k.alter_table g.no_arguments g.create_function g.insert_event g.delete_event g.update_event g.events g.transition_tables g.referencing g.fires_for g.when_part g.executes g.watched g.fired g.create_trigger g.create_constraint_trigger
syntax_15 = refl

syntax_16 : reads (session_statement ◂ sign Semicolon) (text (codes "select a from select")) ≡ Stop Syntax (text (codes "select"))
unfolding text lexed found len_of piece_at reads_called rules name names public_name setup_statement session_statement supported_in_setup supported_in_session created block_statement e.behind_dot e.behind_public e.column e.operation_or_column e.old_column e.new_column e.named e.word_or_named e.plain_atom e.atom e.signed e.product e.sum_sign e.summand e.sum e.comparison_sign e.comparison e.negated e.null_or_distinct e.is_test e.test e.negation e.conjunction e.expression e.whole_expression c.where_part c.given c.row_values c.from_table c.source c.column_list c.insert c.assignment c.update c.delete c.columns c.lock_mode c.lock c.select c.constraints c.constraint_mode c.set_constraints b.else_if b.otherwise b.if_statement b.raise b.return_ b.body_statement b.condition b.conditions b.handler b.handlers b.body b.block b.code t.work t.isolation_level t.isolation t.begin t.start_transaction t.savepoint_name t.rollback t.savepoint t.release k.kind k.constant k.initially k.behind_deferrable k.behind_not_deferrable k.initially_alone k.deferring k.given_timing k.perhaps_timing k.timing_without k.matching k.setting k.plain_action k.deletion k.update_setting k.action k.actions k.target k.not_null k.named_constraint k.others_then k.column_constraints k.other_column_constraints k.reference_end k.column_item k.table_primary_key k.table_unique k.table_foreign_key k.bare_table_constraint k.table_constraint k.item k.items k.create_table k.added k.alter_table g.no_arguments g.create_function g.insert_event g.delete_event g.update_event g.events g.transition_tables g.referencing g.fires_for g.when_part g.executes g.watched g.fired g.create_trigger g.create_constraint_trigger
syntax_16 = refl

-- the text behind SQLSTATE
codes_of_errors : map is_state_code (codes "23505" ∷ codes "P0001" ∷ codes "22000" ∷ codes "ab123" ∷ codes "2350" ∷ codes "235050" ∷ codes "2350 " ∷ [])
    ≡ true ∷ true ∷ false ∷ false ∷ false ∷ false ∷ false ∷ []
codes_of_errors = refl

syntax_17 : reads (setup_statement ◂ sign Semicolon) (text (codes "create function f() returns trigger as $$ begin exception when others or division_by_zero")) ≡ Stop Syntax (text (codes "division_by_zero"))
unfolding text lexed found len_of piece_at reads_called rules name names public_name setup_statement session_statement supported_in_setup supported_in_session created block_statement e.behind_dot e.behind_public e.column e.operation_or_column e.old_column e.new_column e.named e.word_or_named e.plain_atom e.atom e.signed e.product e.sum_sign e.summand e.sum e.comparison_sign e.comparison e.negated e.null_or_distinct e.is_test e.test e.negation e.conjunction e.expression e.whole_expression c.where_part c.given c.row_values c.from_table c.source c.column_list c.insert c.assignment c.update c.delete c.columns c.lock_mode c.lock c.select c.constraints c.constraint_mode c.set_constraints b.else_if b.otherwise b.if_statement b.raise b.return_ b.body_statement b.condition b.conditions b.handler b.handlers b.body b.block b.code t.work t.isolation_level t.isolation t.begin t.start_transaction t.savepoint_name t.rollback t.savepoint t.release k.kind k.constant k.initially k.behind_deferrable k.behind_not_deferrable k.initially_alone k.deferring k.given_timing k.perhaps_timing k.timing_without k.matching k.setting k.plain_action k.deletion k.update_setting k.action k.actions k.target k.not_null k.named_constraint k.others_then k.column_constraints k.other_column_constraints k.reference_end k.column_item k.table_primary_key k.table_unique k.table_foreign_key k.bare_table_constraint k.table_constraint k.item k.items k.create_table k.added k.alter_table g.no_arguments g.create_function g.insert_event g.delete_event g.update_event g.events g.transition_tables g.referencing g.fires_for g.when_part g.executes g.watched g.fired g.create_trigger g.create_constraint_trigger
syntax_17 = refl

syntax_18 : reads (setup_statement ◂ sign Semicolon) (text (codes "create table t (a integer references p on delete cascade (a))")) ≡ Stop Syntax (text (codes "(a))"))
unfolding text lexed found len_of piece_at reads_called rules name names public_name setup_statement session_statement supported_in_setup supported_in_session created block_statement e.behind_dot e.behind_public e.column e.operation_or_column e.old_column e.new_column e.named e.word_or_named e.plain_atom e.atom e.signed e.product e.sum_sign e.summand e.sum e.comparison_sign e.comparison e.negated e.null_or_distinct e.is_test e.test e.negation e.conjunction e.expression e.whole_expression c.where_part c.given c.row_values c.from_table c.source c.column_list c.insert c.assignment c.update c.delete c.columns c.lock_mode c.lock c.select c.constraints c.constraint_mode c.set_constraints b.else_if b.otherwise b.if_statement b.raise b.return_ b.body_statement b.condition b.conditions b.handler b.handlers b.body b.block b.code t.work t.isolation_level t.isolation t.begin t.start_transaction t.savepoint_name t.rollback t.savepoint t.release k.kind k.constant k.initially k.behind_deferrable k.behind_not_deferrable k.initially_alone k.deferring k.given_timing k.perhaps_timing k.timing_without k.matching k.setting k.plain_action k.deletion k.update_setting k.action k.actions k.target k.not_null k.named_constraint k.others_then k.column_constraints k.other_column_constraints k.reference_end k.column_item k.table_primary_key k.table_unique k.table_foreign_key k.bare_table_constraint k.table_constraint k.item k.items k.create_table k.added k.alter_table g.no_arguments g.create_function g.insert_event g.delete_event g.update_event g.events g.transition_tables g.referencing g.fires_for g.when_part g.executes g.watched g.fired g.create_trigger g.create_constraint_trigger
syntax_18 = refl
