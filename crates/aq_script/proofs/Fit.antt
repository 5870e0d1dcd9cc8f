-- One token of lookahead is enough for statements with their `;`, and for the schedule.
use Rattle.std.proofs.Common.{◌≡◌, ℕ, Bool, true, false, List, [], ◌∷◌, ◌++◌, map, codes, if◌then◌else◌, nat_lt, refl}
use Rattle.aq_lex.specs.declared.token.Directive.TheVariants.{Setup, Session, Schedule}
use Rattle.aq_grammar.specs.Terminals.{Heading}
use Rattle.aq_grammar.specs.Rules.{Refusal, Many}
use Rattle.aq_grammar.specs.Sets.{Marks, heads, of_nothing, of_both, of_either, of_many, marks_by, is_fit_by, many_fit, both_fit, are_apart}
use Rattle.aq_grammar.specs.Forms.{◌▸◌, limit, name, names, public_name}
use Rattle.aq_grammar.specs.Nonterminals.{rules, marks}
use Rattle.aq_grammar.specs.Statements.{supported_in_setup, supported_in_session, created, block_statement}
use Rattle.aq_grammar.specs.Expressions as e
use Rattle.aq_grammar.specs.Changes as c
use Rattle.aq_grammar.specs.Bodies as b
use Rattle.aq_grammar.specs.Transactions as t
use Rattle.aq_grammar.specs.Tables as k
use Rattle.aq_grammar.specs.Triggers as g
use Rattle.aq_grammar.proofs.Short.{are_short_kinds}
use Rattle.aq_script.specs.Sections.{Section, in_setup, in_session, kinds_of, ended, heading, session_name, item, schedule, statement_limit, session_limit, refused_sessions}
use Rattle.aq_script.specs.Parsing.{refused_behind}

-- where as many statements stand as there may be, or fewer
abbrev refused_if : Section → Bool → List Refusal
refused_if section fewer =
    (if fewer then [] else map (λ kind. record { words = kind ∷ []; fault = limit (codes "more than 65536 statements") }) (kinds_of section)) ++ section.refused

session_repeated : (fewer : Bool) → is_fit_by marks (Many (kinds_of in_session) (refused_if in_session fewer) (λ xs. xs) (ended in_session)) ≡ true
unfolding marks rules supported_in_session block_statement name names public_name e.behind_dot e.behind_public e.column e.operation_or_column e.old_column e.new_column e.named e.word_or_named e.plain_atom e.atom e.signed e.product e.sum_sign e.summand e.sum e.comparison_sign e.comparison e.negated e.null_or_distinct e.is_test e.test e.negation e.conjunction e.expression e.whole_expression c.where_part c.given c.row_values c.from_table c.source c.column_list c.insert c.assignment c.update c.delete c.columns c.lock_mode c.lock c.select c.constraints c.constraint_mode c.set_constraints t.work t.isolation_level t.isolation t.begin t.start_transaction t.savepoint_name t.rollback t.savepoint t.release
session_repeated true = refl
session_repeated false = refl

setup_repeated : (fewer : Bool) → is_fit_by marks (Many (kinds_of in_setup) (refused_if in_setup fewer) (λ xs. xs) (ended in_setup)) ≡ true
unfolding marks rules supported_in_setup created name names public_name e.behind_dot e.behind_public e.column e.operation_or_column e.old_column e.new_column e.named e.word_or_named e.plain_atom e.atom e.signed e.product e.sum_sign e.summand e.sum e.comparison_sign e.comparison e.negated e.null_or_distinct e.is_test e.test e.negation e.conjunction e.expression e.whole_expression c.where_part c.given c.row_values c.from_table c.source c.column_list c.insert c.assignment c.update c.delete c.columns c.lock_mode c.lock c.select c.constraints c.constraint_mode c.set_constraints b.else_if b.otherwise b.if_statement b.raise b.return_ b.body_statement b.condition b.conditions b.handler b.handlers b.body b.block b.code k.kind k.constant k.initially k.behind_deferrable k.behind_not_deferrable k.initially_alone k.deferring k.given_timing k.perhaps_timing k.timing_without k.matching k.setting k.plain_action k.deletion k.update_setting k.action k.actions k.target k.not_null k.named_constraint k.others_then k.column_constraints k.other_column_constraints k.reference_end k.column_item k.table_primary_key k.table_unique k.table_foreign_key k.bare_table_constraint k.table_constraint k.item k.items k.create_table k.added k.alter_table g.no_arguments g.create_function g.insert_event g.delete_event g.update_event g.events g.transition_tables g.referencing g.fires_for g.when_part g.executes g.watched g.fired g.create_trigger g.create_constraint_trigger
setup_repeated true = refl
setup_repeated false = refl

pub item_fits : is_fit_by marks item ≡ true
unfolding item
item_fits = refl

pub schedule_fits : is_fit_by marks schedule ≡ true
unfolding schedule item
schedule_fits = refl

-- statements of a section, each with its `;`, can be told apart by one token, wherever they stand
pub record SectionFits (section : Section) : Type 0 where
  pub repeated : (statements : ℕ) → is_fit_by marks (Many (kinds_of section) (refused_behind section statements) (λ xs. xs) (ended section)) ≡ true
  pub no_heading : (statements : ℕ) → are_apart (heads (refused_behind section statements)) (Heading Session ∷ Heading Schedule ∷ []) ≡ true
  pub short_words : (statements : ℕ) → are_short_kinds (heads (refused_behind section statements)) ≡ true

session_no_heading : (fewer : Bool) → are_apart (heads (refused_if in_session fewer)) (Heading Session ∷ Heading Schedule ∷ []) ≡ true
session_no_heading true = refl
session_no_heading false = refl

setup_no_heading : (fewer : Bool) → are_apart (heads (refused_if in_setup fewer)) (Heading Session ∷ Heading Schedule ∷ []) ≡ true
setup_no_heading true = refl
setup_no_heading false = refl

session_short : (fewer : Bool) → are_short_kinds (heads (refused_if in_session fewer)) ≡ true
session_short true = refl
session_short false = refl

setup_short : (fewer : Bool) → are_short_kinds (heads (refused_if in_setup fewer)) ≡ true
setup_short true = refl
setup_short false = refl

pub session_fits : SectionFits in_session
session_fits =
    record {
      repeated = λ statements. session_repeated (nat_lt statements statement_limit);
      no_heading = λ statements. session_no_heading (nat_lt statements statement_limit);
      short_words = λ statements. session_short (nat_lt statements statement_limit);
    }

pub setup_fits : SectionFits in_setup
setup_fits =
    record {
      repeated = λ statements. setup_repeated (nat_lt statements statement_limit);
      no_heading = λ statements. setup_no_heading (nat_lt statements statement_limit);
      short_words = λ statements. setup_short (nat_lt statements statement_limit);
    }

-- ---- the marks of sections, which hang on none before them

abbrev pub name_marks : Marks
name_marks = record (marks_by marks (heading Session ▸ session_name)) { is_plain = false }

-- statements one after the other, whatever is refused
abbrev pub behind_heading : Section → Marks
behind_heading section = of_many [] (marks_by marks (ended section))

abbrev pub session_marks : Marks
session_marks = record (of_both name_marks (behind_heading in_session)) { is_plain = false }

abbrev pub setup_marks : Marks
setup_marks = record (of_either (of_both (marks_by marks (heading Setup)) (behind_heading in_setup)) of_nothing) { is_plain = false }

abbrev pub sessions_marks : List Refusal → Marks
sessions_marks refusals = record (of_many refusals session_marks) { is_plain = false }

abbrev refused_sessions_if : Bool → List Refusal
refused_sessions_if fewer = if fewer then [] else record { words = Heading Session ∷ []; fault = limit (codes "more than 16 sessions") } ∷ []

sessions_repeated : (fewer : Bool) → many_fit (Heading Session ∷ []) (refused_sessions_if fewer) session_marks ≡ true
unfolding marks rules supported_in_session block_statement name names public_name e.behind_dot e.behind_public e.column e.operation_or_column e.old_column e.new_column e.named e.word_or_named e.plain_atom e.atom e.signed e.product e.sum_sign e.summand e.sum e.comparison_sign e.comparison e.negated e.null_or_distinct e.is_test e.test e.negation e.conjunction e.expression e.whole_expression c.where_part c.given c.row_values c.from_table c.source c.column_list c.insert c.assignment c.update c.delete c.columns c.lock_mode c.lock c.select c.constraints c.constraint_mode c.set_constraints t.work t.isolation_level t.isolation t.begin t.start_transaction t.savepoint_name t.rollback t.savepoint t.release
sessions_repeated true = refl
sessions_repeated false = refl

schedule_behind : (fewer : Bool) → both_fit (sessions_marks (refused_sessions_if fewer)) (marks_by marks schedule) ≡ true
unfolding marks rules supported_in_session block_statement name names public_name schedule item e.behind_dot e.behind_public e.column e.operation_or_column e.old_column e.new_column e.named e.word_or_named e.plain_atom e.atom e.signed e.product e.sum_sign e.summand e.sum e.comparison_sign e.comparison e.negated e.null_or_distinct e.is_test e.test e.negation e.conjunction e.expression e.whole_expression c.where_part c.given c.row_values c.from_table c.source c.column_list c.insert c.assignment c.update c.delete c.columns c.lock_mode c.lock c.select c.constraints c.constraint_mode c.set_constraints t.work t.isolation_level t.isolation t.begin t.start_transaction t.savepoint_name t.rollback t.savepoint t.release
schedule_behind true = refl
schedule_behind false = refl

sessions_behind : (fewer : Bool) → both_fit setup_marks (of_both (sessions_marks (refused_sessions_if fewer)) (marks_by marks schedule)) ≡ true
unfolding marks rules supported_in_setup created name names public_name supported_in_session block_statement schedule item e.behind_dot e.behind_public e.column e.operation_or_column e.old_column e.new_column e.named e.word_or_named e.plain_atom e.atom e.signed e.product e.sum_sign e.summand e.sum e.comparison_sign e.comparison e.negated e.null_or_distinct e.is_test e.test e.negation e.conjunction e.expression e.whole_expression c.where_part c.given c.row_values c.from_table c.source c.column_list c.insert c.assignment c.update c.delete c.columns c.lock_mode c.lock c.select c.constraints c.constraint_mode c.set_constraints b.else_if b.otherwise b.if_statement b.raise b.return_ b.body_statement b.condition b.conditions b.handler b.handlers b.body b.block b.code t.work t.isolation_level t.isolation t.begin t.start_transaction t.savepoint_name t.rollback t.savepoint t.release k.kind k.constant k.initially k.behind_deferrable k.behind_not_deferrable k.initially_alone k.deferring k.given_timing k.perhaps_timing k.timing_without k.matching k.setting k.plain_action k.deletion k.update_setting k.action k.actions k.target k.not_null k.named_constraint k.others_then k.column_constraints k.other_column_constraints k.reference_end k.column_item k.table_primary_key k.table_unique k.table_foreign_key k.bare_table_constraint k.table_constraint k.item k.items k.create_table k.added k.alter_table g.no_arguments g.create_function g.insert_event g.delete_event g.update_event g.events g.transition_tables g.referencing g.fires_for g.when_part g.executes g.watched g.fired g.create_trigger g.create_constraint_trigger
sessions_behind true = refl
sessions_behind false = refl

-- behind so many sessions
pub sessions_fit : (sessions : ℕ) → many_fit (Heading Session ∷ []) (refused_sessions sessions) session_marks ≡ true
sessions_fit sessions = sessions_repeated (nat_lt sessions session_limit)

pub schedule_fits_behind : (sessions : ℕ) → both_fit (sessions_marks (refused_sessions sessions)) (marks_by marks schedule) ≡ true
schedule_fits_behind sessions = schedule_behind (nat_lt sessions session_limit)

pub sessions_fit_behind : (sessions : ℕ) → both_fit setup_marks (of_both (sessions_marks (refused_sessions sessions)) (marks_by marks schedule)) ≡ true
sessions_fit_behind sessions = sessions_behind (nat_lt sessions session_limit)
