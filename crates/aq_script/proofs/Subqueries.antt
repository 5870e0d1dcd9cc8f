-- No subquery stands in a beginning of a script.
use Rattle.std.proofs.Common.{◌≡◌, true, Option, List, [], ◌∷◌, ◌++◌, refl, inl, inr}
use Rattle.aq_base.specs.declared.script.Placed.{Placed}
use Rattle.aq_base.specs.declared.script.SessionText.{SessionText}
use Rattle.aq_base.specs.declared.script.Item.{Item}
use Rattle.aq_base.specs.declared.script.Script.{Script}
use Rattle.aq_lex.specs.declared.token.Symbol.TheVariants.{Semicolon}
use Rattle.aq_lex.specs.declared.token.Directive.TheVariants.{Setup, Session}
use Rattle.aq_lex.specs.Lexemes.{PlacedLexeme}
use Rattle.aq_grammar.specs.Terminals.{PlainName, Sign, Heading}
use Rattle.aq_grammar.specs.Rules.{Rule, Begins}
use Rattle.aq_grammar.specs.Sets.{of_both, marks_by, is_fit_by}
use Rattle.aq_grammar.specs.Pairs.{HasSubquery, ends_by, has_no_subquery_by}
use Rattle.aq_grammar.specs.Forms.{◌▸◌, name, names, public_name}
use Rattle.aq_grammar.specs.Nonterminals.{rules, marks, ends, Spells}
use Rattle.aq_grammar.specs.Statements.{supported_in_setup, supported_in_session, created, block_statement}
use Rattle.aq_grammar.specs.Expressions as e
use Rattle.aq_grammar.specs.Changes as c
use Rattle.aq_grammar.specs.Bodies as b
use Rattle.aq_grammar.specs.Transactions as t
use Rattle.aq_grammar.specs.Tables as k
use Rattle.aq_grammar.specs.Triggers as g
use Rattle.aq_grammar.proofs.Keeping.{begun_by}
use Rattle.aq_grammar.proofs.Fit.{rules_fit}
use Rattle.aq_grammar.proofs.Pairs.{EndSo, BeginSo, HaveNoSubquery, subquery_of_beginning, ended_rule, no_subquery_rule, ends_nothing, ends_both, ends_each, free_nothing, free_both, free_each}
use Rattle.aq_grammar.proofs.PairsFit.{end_so, free_rules}
use Rattle.aq_script.specs.Sections.{Section, in_setup, in_session, ended, heading, session_name, item, schedule, script_of, refused_sessions, SpellsPlaced, SpellsStatements, SpellsSetup, SpellsSession, SpellsSessions, SpellsScript}
use Rattle.aq_script.proofs.Fit.{SectionFits, session_fits, setup_fits, schedule_fits, sessions_marks}
use Rattle.aq_script.proofs.Statements.{ended_fits, placed_has, statements_has}
use Rattle.aq_script.proofs.Sections.{SpellsSaid, SpellsName, as_session}
use Rattle.aq_script.proofs.Scripts.{SpellsBehindSetup, with_schedule, at_first, each_session_has, schedule_has, behind_setup_has}

rule_ended : {A : Type 0} (r : Rule A) → is_fit_by marks r ≡ true → (x : A) → EndSo (Spells r x) (ends_by ends marks r)
rule_ended r fit = ended_rule rules marks ends rules_fit end_so r fit

rule_free : {A : Type 0} (r : Rule A) → is_fit_by marks r ≡ true → has_no_subquery_by ends marks r ≡ true → (x : A) → HaveNoSubquery (Spells r x)
rule_free r fit free = no_subquery_rule rules marks ends rules_fit end_so free_rules r fit free

free_in_session : has_no_subquery_by ends marks (ended in_session) ≡ true
unfolding ends marks rules supported_in_session block_statement name names public_name e.behind_dot e.behind_public e.column e.operation_or_column e.old_column e.new_column e.named e.word_or_named e.plain_atom e.atom e.signed e.product e.sum_sign e.summand e.sum e.comparison_sign e.comparison e.negated e.null_or_distinct e.is_test e.test e.negation e.conjunction e.expression e.whole_expression c.where_part c.given c.row_values c.from_table c.source c.column_list c.insert c.assignment c.update c.delete c.columns c.lock_mode c.lock c.select c.constraints c.constraint_mode c.set_constraints t.work t.isolation_level t.isolation t.begin t.start_transaction t.savepoint_name t.rollback t.savepoint t.release
free_in_session = refl

free_in_setup : has_no_subquery_by ends marks (ended in_setup) ≡ true
unfolding ends marks rules supported_in_setup created name names public_name e.behind_dot e.behind_public e.column e.operation_or_column e.old_column e.new_column e.named e.word_or_named e.plain_atom e.atom e.signed e.product e.sum_sign e.summand e.sum e.comparison_sign e.comparison e.negated e.null_or_distinct e.is_test e.test e.negation e.conjunction e.expression e.whole_expression c.where_part c.given c.row_values c.from_table c.source c.column_list c.insert c.assignment c.update c.delete c.columns c.lock_mode c.lock c.select c.constraints c.constraint_mode c.set_constraints b.else_if b.otherwise b.if_statement b.raise b.return_ b.body_statement b.condition b.conditions b.handler b.handlers b.body b.block b.code k.kind k.constant k.initially k.behind_deferrable k.behind_not_deferrable k.initially_alone k.deferring k.given_timing k.perhaps_timing k.timing_without k.matching k.setting k.plain_action k.deletion k.update_setting k.action k.actions k.target k.not_null k.named_constraint k.others_then k.column_constraints k.other_column_constraints k.reference_end k.column_item k.table_primary_key k.table_unique k.table_foreign_key k.bare_table_constraint k.table_constraint k.item k.items k.create_table k.added k.alter_table g.no_arguments g.create_function g.insert_event g.delete_event g.update_event g.events g.transition_tables g.referencing g.fires_for g.when_part g.executes g.watched g.fired g.create_trigger g.create_constraint_trigger
free_in_setup = refl

-- ---- statements

module _ (section : Section) (fits : SectionFits section) (free : has_no_subquery_by ends marks (ended section) ≡ true) where
  statements_end : (xs : List Placed) → EndSo (SpellsStatements section xs) (Sign Semicolon ∷ [])
  statements_end =
      ends_each (SpellsPlaced section) (Sign Semicolon ∷ []) (λ placed u token s. rule_ended (ended section) (ended_fits section fits) placed.statement u token s.0)

  statements_free : (xs : List Placed) → HaveNoSubquery (SpellsStatements section xs)
  statements_free =
      free_each (SpellsPlaced section) (Sign Semicolon ∷ []) (marks_by marks (ended section)).begins (λ placed. begun_by (placed_has section fits).keeps placed)
      (λ placed u token s. rule_ended (ended section) (ended_fits section fits) placed.statement u token s.0) refl
      (λ placed u s. rule_free (ended section) (ended_fits section fits) free placed.statement u s.0)

  statements_begin : (xs : List Placed) → BeginSo (SpellsStatements section xs) (marks_by marks (ended section)).begins
  statements_begin xs = begun_by (statements_has section fits 0).keeps xs

-- ---- the setup

said_end : (setup : List Placed) → EndSo (SpellsSaid setup) (Sign Semicolon ∷ Heading Setup ∷ [])
said_end =
    ends_both (λ said statements. statements) (Spells (heading Setup)) (λ said. SpellsStatements in_setup) (Heading Setup ∷ []) (Sign Semicolon ∷ []) true
    (rule_ended (heading Setup) refl) (λ said. statements_end in_setup setup_fits free_in_setup) (λ said xs s. refl)

said_free : (setup : List Placed) → HaveNoSubquery (SpellsSaid setup)
said_free =
    free_both (λ said statements. statements) (Spells (heading Setup)) (λ said. SpellsStatements in_setup) (Heading Setup ∷ []) (marks_by marks (ended in_setup)).begins
    (rule_ended (heading Setup) refl) (λ said. statements_begin in_setup setup_fits free_in_setup) refl (rule_free (heading Setup) refl refl)
    (λ said. statements_free in_setup setup_fits free_in_setup)

setup_end : (setup : List Placed) → EndSo (SpellsSetup setup) (Sign Semicolon ∷ Heading Setup ∷ [])
setup_end setup u token (inl s) = ends_nothing (Sign Semicolon ∷ Heading Setup ∷ []) u token s.1
setup_end setup u token (inr s) = said_end setup u token s

setup_free : (setup : List Placed) → HaveNoSubquery (SpellsSetup setup)
setup_free setup u (inl s) sub = free_nothing u s.1 sub
setup_free setup u (inr s) sub = said_free setup u s sub

-- ---- sessions

session_end : (session : SessionText) → EndSo (SpellsSession session) (Sign Semicolon ∷ PlainName ∷ [])
session_end =
    ends_both as_session SpellsName (λ name. SpellsStatements in_session) (PlainName ∷ []) (Sign Semicolon ∷ []) true
    (rule_ended (heading Session ▸ session_name) refl) (λ name. statements_end in_session session_fits free_in_session) (λ name xs s. refl)

session_free : (session : SessionText) → HaveNoSubquery (SpellsSession session)
session_free =
    free_both as_session SpellsName (λ name. SpellsStatements in_session) (PlainName ∷ []) (marks_by marks (ended in_session)).begins
    (rule_ended (heading Session ▸ session_name) refl) (λ name. statements_begin in_session session_fits free_in_session) refl
    (rule_free (heading Session ▸ session_name) refl refl) (λ name. statements_free in_session session_fits free_in_session)

session_begin : (session : SessionText) → BeginSo (SpellsSession session) (Heading Session ∷ [])
session_begin session = begun_by (each_session_has (at_first 0)).keeps session

sessions_end : (sessions : List SessionText) → EndSo (SpellsSessions sessions) (Sign Semicolon ∷ PlainName ∷ [])
sessions_end = ends_each SpellsSession (Sign Semicolon ∷ PlainName ∷ []) session_end

sessions_free : (sessions : List SessionText) → HaveNoSubquery (SpellsSessions sessions)
sessions_free = free_each SpellsSession (Sign Semicolon ∷ PlainName ∷ []) (Heading Session ∷ []) session_begin session_end refl session_free

-- ---- scripts

free_schedule : has_no_subquery_by ends marks schedule ≡ true
unfolding schedule item
free_schedule = refl

behind_setup_free : (x : List SessionText × Option (List Item)) → HaveNoSubquery (SpellsBehindSetup x)
behind_setup_free =
    free_both with_schedule SpellsSessions (λ sessions. Spells schedule) (Sign Semicolon ∷ PlainName ∷ []) (marks_by marks schedule).begins sessions_end
    (λ sessions x. begun_by schedule_has.keeps x) refl sessions_free (λ sessions. rule_free schedule schedule_fits free_schedule)

pub script_free : (script : Script) → HaveNoSubquery (SpellsScript script)
script_free =
    free_both script_of SpellsSetup (λ setup. SpellsBehindSetup) (Sign Semicolon ∷ Heading Setup ∷ [])
    (of_both (sessions_marks (refused_sessions 0)) (marks_by marks schedule)).begins setup_end (λ setup x. begun_by (behind_setup_has 0).keeps x) refl setup_free
    (λ setup. behind_setup_free)

-- a beginning of a script has no subquery
pub no_subquery_begun : (u : List PlacedLexeme) → Begins SpellsScript u → HasSubquery u → ⊥
no_subquery_begun u (behind, script, s) sub = script_free script (u ++ behind) s (subquery_of_beginning u behind sub)
