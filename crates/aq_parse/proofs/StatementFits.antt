-- The rules of statements, by the place where one stands.
use Rattle.std.proofs.Common.{◌≡◌, true, List, refl}
use Rattle.std.proofs.lemmas.Bool.{and_from}
use Rattle.aq_base.specs.declared.statement.Statement.{Statement}
use Rattle.aq_lex.specs.Lexemes.{PlacedLexeme}
use Rattle.aq_grammar.specs.Rules.{Begins}
use Rattle.aq_grammar.specs.Sets.{heads, is_fit_by}
use Rattle.aq_grammar.specs.Nonterminals.{rules, marks, Spells, Bars}
use Rattle.aq_grammar.specs.Forms.{name, names, public_name}
use Rattle.aq_grammar.specs.Expressions as e
use Rattle.aq_grammar.specs.Changes as c
use Rattle.aq_grammar.specs.Bodies as b
use Rattle.aq_grammar.specs.Transactions as t
use Rattle.aq_grammar.specs.Tables as k
use Rattle.aq_grammar.specs.Triggers as g
use Rattle.aq_grammar.specs.Pairs.{HasSubquery}
use Rattle.aq_grammar.specs.Statements.{setup_statement, session_statement, supported_in_setup, supported_in_session, created, block_statement, refused_in_setup, refused_in_session}
use Rattle.aq_grammar.proofs.Fit.{setup_statement_fits, session_statement_fits}
use Rattle.aq_grammar.proofs.PairsFit.{no_subquery_in_setup, no_subquery_in_session}
use Rattle.aq_grammar.proofs.Short.{AreShort, BarsShort, are_short_kinds, has_short_words}
use Rattle.aq_grammar.proofs.ShortFit.{short_setup, short_session, short_form, short_barred}
use Rattle.aq_grammar.proofs.RefusedAt.{HasOneFault}
use Rattle.aq_grammar.proofs.OneFaultRules.{refuses_once_by}
use Rattle.aq_grammar.proofs.OneFaultFit.{closes, one_by_rule}
use Rattle.aq_parse.specs.declared.statements.Place.{Place}
use Rattle.aq_parse.specs.declared.statements.Place.TheVariants.{Setup, Session}
use Rattle.aq_parse.specs.Statements.{statement_of}

pub statement_fits : (place : Place) → is_fit_by marks (statement_of place) ≡ true
statement_fits Setup = setup_statement_fits
statement_fits Session = session_statement_fits

words_of_setup : has_short_words setup_statement ≡ true
unfolding setup_statement
words_of_setup = and_from (are_short_kinds (heads refused_in_setup)) (has_short_words supported_in_setup) refl short_setup

words_of_session : has_short_words session_statement ≡ true
unfolding session_statement
words_of_session = and_from (are_short_kinds (heads refused_in_session)) (has_short_words supported_in_session) refl short_session

statement_words : (place : Place) → has_short_words (statement_of place) ≡ true
statement_words Setup = words_of_setup
statement_words Session = words_of_session

-- each token of a statement is short
pub statement_short : (place : Place) (x : Statement) (u : List PlacedLexeme) → Spells (statement_of place) x u → AreShort u
statement_short place = short_form (statement_of place) (statement_words place)

-- what is refused in a statement is short
pub statement_barred_short : (place : Place) → BarsShort (Bars (statement_of place))
statement_barred_short place = short_barred (statement_of place) (statement_fits place) (statement_words place)

-- no subquery stands in a beginning of a statement
pub no_subquery_begun : (place : Place) (u : List PlacedLexeme) → Begins (Spells (statement_of place)) u → HasSubquery u → ⊥
no_subquery_begun Setup = no_subquery_in_setup
no_subquery_begun Session = no_subquery_in_session

-- ---- at one place a statement is refused with one fault

once_in_setup : refuses_once_by closes marks setup_statement ≡ true
unfolding setup_statement closes marks rules supported_in_setup created name names public_name e.behind_dot e.behind_public e.column e.operation_or_column e.old_column e.new_column e.named e.word_or_named e.plain_atom e.atom e.signed e.product e.sum_sign e.summand e.sum e.comparison_sign e.comparison e.negated e.null_or_distinct e.is_test e.test e.negation e.conjunction e.expression e.whole_expression c.where_part c.given c.row_values c.from_table c.source c.column_list c.insert c.assignment c.update c.delete c.columns c.lock_mode c.lock c.select c.constraints c.constraint_mode c.set_constraints b.else_if b.otherwise b.if_statement b.raise b.return_ b.body_statement b.condition b.conditions b.handler b.handlers b.body b.block b.code k.kind k.constant k.initially k.behind_deferrable k.behind_not_deferrable k.initially_alone k.deferring k.given_timing k.perhaps_timing k.timing_without k.matching k.setting k.plain_action k.deletion k.update_setting k.action k.actions k.target k.not_null k.named_constraint k.others_then k.column_constraints k.other_column_constraints k.reference_end k.column_item k.table_primary_key k.table_unique k.table_foreign_key k.bare_table_constraint k.table_constraint k.item k.items k.create_table k.added k.alter_table g.no_arguments g.create_function g.insert_event g.delete_event g.update_event g.events g.transition_tables g.referencing g.fires_for g.when_part g.executes g.watched g.fired g.create_trigger g.create_constraint_trigger
once_in_setup = refl

once_in_session : refuses_once_by closes marks session_statement ≡ true
unfolding session_statement closes marks rules supported_in_session block_statement name names public_name e.behind_dot e.behind_public e.column e.operation_or_column e.old_column e.new_column e.named e.word_or_named e.plain_atom e.atom e.signed e.product e.sum_sign e.summand e.sum e.comparison_sign e.comparison e.negated e.null_or_distinct e.is_test e.test e.negation e.conjunction e.expression e.whole_expression c.where_part c.given c.row_values c.from_table c.source c.column_list c.insert c.assignment c.update c.delete c.columns c.lock_mode c.lock c.select c.constraints c.constraint_mode c.set_constraints t.work t.isolation_level t.isolation t.begin t.start_transaction t.savepoint_name t.rollback t.savepoint t.release
once_in_session = refl

refused_once : (place : Place) → refuses_once_by closes marks (statement_of place) ≡ true
refused_once Setup = once_in_setup
refused_once Session = once_in_session

pub statement_one_fault : (place : Place) → HasOneFault (Bars (statement_of place))
statement_one_fault place = one_by_rule (statement_of place) (statement_fits place) (refused_once place)
