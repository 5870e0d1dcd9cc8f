-- At one place a script is refused with one fault.
use Rattle.std.proofs.Common.{◌≡◌, ℕ, ◌+◌, Bool, true, false, List, [], ◌∷◌, ◌++◌, length, refl, sym, ap, ap₂, ◌∙◌, subst, inl, inr, nat_lt, codes, if◌then◌else◌}
use Rattle.aq_base.specs.Names.{Text as Bytes}
use Rattle.aq_base.specs.declared.fault.SqlFault.{SqlFault}
use Rattle.aq_base.specs.declared.script.Placed.{Placed}
use Rattle.aq_base.specs.declared.script.SessionText.{SessionText}
use Rattle.aq_lex.specs.declared.token.Directive.TheVariants.{Setup, Session, Schedule}
use Rattle.aq_lex.specs.Lexemes.{PlacedLexeme}
use Rattle.aq_grammar.specs.Terminals.{Terminal, Heading, begins, text_of}
use Rattle.aq_grammar.specs.Rules.{Form, Bar, Begins, BarsNone, BarsHere}
use Rattle.aq_grammar.specs.Sets.{of_both, marks_by, heads}
use Rattle.aq_grammar.specs.Nonterminals.{rules, marks, Spells, Bars}
use Rattle.aq_grammar.specs.Forms.{limit, name, names, public_name}
use Rattle.aq_grammar.specs.Statements.{supported_in_setup, supported_in_session, created, block_statement}
use Rattle.aq_grammar.specs.Expressions as e
use Rattle.aq_grammar.specs.Changes as c
use Rattle.aq_grammar.specs.Bodies as b
use Rattle.aq_grammar.specs.Transactions as t
use Rattle.aq_grammar.specs.Tables as k
use Rattle.aq_grammar.specs.Triggers as g
use Rattle.aq_grammar.proofs.Apart.{begins_front}
use Rattle.aq_grammar.proofs.Cuts.{Same, Longer, Shorter, compare}
use Rattle.aq_grammar.proofs.Keeping.{BarsEither, refusals_open}
use Rattle.aq_grammar.proofs.RightForms.{begins_whole, begins_first}
use Rattle.aq_grammar.proofs.Each.{BarsEach, each_has}
use Rattle.aq_grammar.proofs.RefusedAt.{HasOneFault}
use Rattle.aq_grammar.proofs.OneFault.{apart_begins, one_both, closes_both, one_each, closes_each, each_count, one_unless}
use Rattle.aq_grammar.proofs.OneFaultRules.{refuses_once_by}
use Rattle.aq_grammar.proofs.OneFaultFit.{closes, rule_closes, one_by_rule}
use Rattle.aq_script.specs.Sections.{Section, in_setup, in_session, kinds_of, ended, heading, session_name, item, schedule, script_of, session_limit, refused_names, refused_sessions, SpellsPlaced, SpellsStatements, SpellsSetup, SpellsSession, BarsStatements, BarsSetup, BarsName, BarsSessions, BarsScript}
use Rattle.aq_script.specs.Parsing.{Before, and_session, refused_behind}
use Rattle.aq_script.proofs.Fit.{SectionFits, session_fits, setup_fits, name_marks, session_marks, sessions_marks}
use Rattle.aq_script.proofs.Marked.{no_more}
use Rattle.aq_script.proofs.Statements.{one_more, ended_fits, repeats, statements_fit, statements_back}
use Rattle.aq_script.proofs.Sections.{heading_has, SpellsSaid, SpellsName, as_session, BarsWithin, BarsEitherName, setup_fit, setup_has, name_fit, name_bars_back, name_has, session_fit}
use Rattle.aq_script.proofs.Scripts.{SpellsBehindSetup, BarsBehindSetup, BarsAll, at_first, refused_after, bars_after, sessions_repeat, each_session_has, sessions_fits, sessions_back, schedule_has, schedule_plain, behind_setup_has, script_fit, bars_back}

-- a form that refuses no more
one_of_fewer : (bars fewer : Bar) → ((u rest : List PlacedLexeme) (fault : SqlFault) → fewer u rest fault → bars u rest fault) → HasOneFault bars → HasOneFault fewer
one_of_fewer bars fewer within one_of u rest one two bar other = one_of u rest one two (within u rest one bar) (within u rest two other)

one_of_none : HasOneFault BarsNone
one_of_none u rest one two bar other = absurd bar

-- no section begins there
abbrev NoHeading : List PlacedLexeme → Type 0
NoHeading rest = begins (Heading Session ∷ Heading Schedule ∷ []) rest ≡ true → ⊥

-- ---- statements

once_in_session : refuses_once_by closes marks (ended in_session) ≡ true
unfolding closes marks rules supported_in_session block_statement name names public_name e.behind_dot e.behind_public e.column e.operation_or_column e.old_column e.new_column e.named e.word_or_named e.plain_atom e.atom e.signed e.product e.sum_sign e.summand e.sum e.comparison_sign e.comparison e.negated e.null_or_distinct e.is_test e.test e.negation e.conjunction e.expression e.whole_expression c.where_part c.given c.row_values c.from_table c.source c.column_list c.insert c.assignment c.update c.delete c.columns c.lock_mode c.lock c.select c.constraints c.constraint_mode c.set_constraints t.work t.isolation_level t.isolation t.begin t.start_transaction t.savepoint_name t.rollback t.savepoint t.release
once_in_session = refl

once_in_setup : refuses_once_by closes marks (ended in_setup) ≡ true
unfolding closes marks rules supported_in_setup created name names public_name e.behind_dot e.behind_public e.column e.operation_or_column e.old_column e.new_column e.named e.word_or_named e.plain_atom e.atom e.signed e.product e.sum_sign e.summand e.sum e.comparison_sign e.comparison e.negated e.null_or_distinct e.is_test e.test e.negation e.conjunction e.expression e.whole_expression c.where_part c.given c.row_values c.from_table c.source c.column_list c.insert c.assignment c.update c.delete c.columns c.lock_mode c.lock c.select c.constraints c.constraint_mode c.set_constraints b.else_if b.otherwise b.if_statement b.raise b.return_ b.body_statement b.condition b.conditions b.handler b.handlers b.body b.block b.code k.kind k.constant k.initially k.behind_deferrable k.behind_not_deferrable k.initially_alone k.deferring k.given_timing k.perhaps_timing k.timing_without k.matching k.setting k.plain_action k.deletion k.update_setting k.action k.actions k.target k.not_null k.named_constraint k.others_then k.column_constraints k.other_column_constraints k.reference_end k.column_item k.table_primary_key k.table_unique k.table_foreign_key k.bare_table_constraint k.table_constraint k.item k.items k.create_table k.added k.alter_table g.no_arguments g.create_function g.insert_event g.delete_event g.update_event g.events g.transition_tables g.referencing g.fires_for g.when_part g.executes g.watched g.fired g.create_trigger g.create_constraint_trigger
once_in_setup = refl

module _ (section : Section) (fits : SectionFits section) (once : refuses_once_by closes marks (ended section) ≡ true) where
  -- behind a `;` nothing of the statement is refused
  ended_closes : (placed : Placed) (u rest : List PlacedLexeme) (fault : SqlFault) → SpellsPlaced section placed u → Bars (ended section) u rest fault → ⊥
  ended_closes placed u [] fault s bar = let begun = rule_closes (ended section) (ended_fits section fits) placed.statement u [] fault s.0 bar in cc
  ended_closes placed u (token ∷ rest) fault s bar = let begun = rule_closes (ended section) (ended_fits section fits) placed.statement u (token ∷ rest) fault s.0 bar in cc

  statements_one : (statements : ℕ) → HasOneFault (BarsStatements section statements)
  statements_one statements =
      one_of_fewer (BarsEach one_more (refused_behind section) (SpellsPlaced section) (λ before. Bars (ended section)) statements) (BarsStatements section statements)
      (statements_back section fits statements)
      (one_each (kinds_of section) one_more (refused_behind section) (SpellsPlaced section) (λ before. Bars (ended section)) (statements_fit section fits) (λ before x y u s t. refl)
      (λ before x u rest one two s bar other. ended_closes x u rest one s bar) (λ before. one_by_rule (ended section) (ended_fits section fits) once) statements)

  statements_close : (statements : ℕ) (xs : List Placed) (u rest : List PlacedLexeme) (fault : SqlFault) → SpellsStatements section xs u → BarsStatements section statements u rest fault
      → NoHeading rest
  statements_close statements xs u rest fault s bar =
      closes_each (kinds_of section) one_more (refused_behind section) (SpellsPlaced section) (λ before. Bars (ended section)) (statements_fit section fits) NoHeading
      (λ before x v behind why t barred. absurd (ended_closes x v behind why t barred))
      (λ before behind why is.
      apart_begins (heads (refused_behind section before)) (Heading Session ∷ Heading Schedule ∷ []) behind (fits.no_heading before)
      (refusals_open (refused_behind section before) behind why (repeats section fits before).worded is))
      xs statements u rest fault s (statements_back section fits statements u rest fault bar)

  statements_count : (xs ys : List Placed) (u : List PlacedLexeme) → SpellsStatements section xs u → SpellsStatements section ys u → length xs ≡ length ys
  statements_count = each_count (kinds_of section) one_more (refused_behind section) (SpellsPlaced section) (λ before. Bars (ended section)) (statements_fit section fits) 0

-- ---- the setup

setup_one : HasOneFault BarsSetup
setup_one =
    one_both (λ said statements. statements) (Spells (heading Setup)) (λ said. SpellsStatements in_setup) BarsNone (λ said. BarsStatements in_setup 0) setup_fit
    (λ x y u s t v rest fault bar. bar) (λ x u rest one two s bar other. bar) one_of_none (λ said. statements_one in_setup setup_fits once_in_setup 0)

nothing_begins : (tokens : List PlacedLexeme) → begins [] tokens ≡ true → ⊥
nothing_begins [] h = cc
nothing_begins (token ∷ tokens) h = cc

setup_close : (setup : List Placed) (u rest : List PlacedLexeme) (fault : SqlFault) → SpellsSetup setup u → BarsSetup u rest fault → NoHeading rest
setup_close setup u rest fault (inl s) bar =
    absurd (nothing_begins rest (setup_has.keeps.opened rest fault (subst (λ (w : List PlacedLexeme). BarsSetup w rest fault) s.1 bar)))
setup_close setup u rest fault (inr s) bar =
    closes_both (λ said statements. statements) (Spells (heading Setup)) (λ said. SpellsStatements in_setup) BarsNone (λ said. BarsStatements in_setup 0) setup_fit
    (λ x y v t w z more why barred. barred) NoHeading (λ x z v behind why t empty barred. absurd barred)
    (λ x z v behind why t barred. statements_close in_setup setup_fits once_in_setup 0 z v behind why t barred) setup u rest fault s bar

-- two cuts behind a heading are one
heading_cut : {A : Type 0} (First : Form A) (ended : (x : A) (front : List PlacedLexeme) (token : PlacedLexeme) → First x front → Begins First (front ++ token ∷ []) → ⊥)
    (x y : A) (front behind other rest : List PlacedLexeme) → First x front → First y other → front ++ behind ≡ other ++ rest → (front ≡ other) × (behind ≡ rest)
heading_cut First ended x y front behind other rest s t e = elim (compare front behind other rest e) [
  | Same q r ↦ (q, r)
  | Longer token more q r ↦ absurd (ended y other token t (begins_first First other token more (subst (λ (w : List PlacedLexeme). Begins First w) q (begins_whole First x front s))))
  | Shorter token more q r ↦ absurd (ended x front token s (begins_first First front token more (subst (λ (w : List PlacedLexeme). Begins First w) q (begins_whole First y other t))))
]

said_count : (xs ys : List Placed) (u : List PlacedLexeme) → SpellsSaid xs u → SpellsSaid ys u → length xs ≡ length ys
said_count xs ys u (front, behind, said, zs, s, each, e, is) (other, rest, told, ws, t, others, p, is2) =
    let cut = heading_cut (Spells (heading Setup)) (no_more (Spells (heading Setup)) BarsNone (marks_by marks (heading Setup)) (heading_has Setup) refl) said told front behind other rest s t (sym e ∙ p) in
    ap length is ∙ statements_count in_setup setup_fits once_in_setup zs ws behind each (subst (λ (w : List PlacedLexeme). SpellsStatements in_setup ws w) (sym cut.1) others)
    ∙ sym (ap length is2)

said_not_empty : (xs : List Placed) → SpellsSaid xs [] → ⊥
said_not_empty xs ([], behind, said, zs, t, each, e, is) = (heading_has Setup).keeps.not_empty refl said t
said_not_empty xs (token ∷ front, behind, said, zs, t, each, e, is) = cc

-- the same tokens are a setup of so many statements in one way only
setup_count : (xs ys : List Placed) (u : List PlacedLexeme) → SpellsSetup xs u → SpellsSetup ys u → length xs ≡ length ys
setup_count xs ys u (inl s) (inl t) = ap length s.0 ∙ sym (ap length t.0)
setup_count xs ys u (inl s) (inr t) = absurd (said_not_empty ys (subst (λ (w : List PlacedLexeme). SpellsSaid ys w) s.1 t))
setup_count xs ys u (inr s) (inl t) = absurd (said_not_empty xs (subst (λ (w : List PlacedLexeme). SpellsSaid xs w) t.1 s))
setup_count xs ys u (inr s) (inr t) = said_count xs ys u s t

-- ---- sessions

abbrev BarsNamed : List Bytes → Bar
BarsNamed names = BarsEither (BarsHere (refused_names names)) BarsNone

name_one : (names : List Bytes) → HasOneFault (BarsName names)
name_one names =
    one_of_fewer (BarsEitherName names) (BarsName names) (name_bars_back names)
    (one_both (λ said name. name) (Spells (heading Session)) (λ said. Spells session_name) BarsNone (λ said. BarsNamed names) (name_fit names)
    (λ x y u s t v rest fault bar. bar) (λ x u rest one two s bar other. bar) one_of_none
    (λ said. one_unless (refused_names names) BarsNone (λ rest one two here bar. bar) one_of_none))

named_not_barred : (names : List Bytes) (name : Bytes) (u rest : List PlacedLexeme) (fault : SqlFault) → Spells session_name name u → BarsNamed names u rest fault → ⊥
named_not_barred names name u rest fault (token, fit, is, e) (inl here) = let none = here.0 in cc
named_not_barred names name u rest fault s (inr bar) = bar

name_closes : (names : List Bytes) (name : Bytes) (u rest : List PlacedLexeme) (fault : SqlFault) → SpellsName name u → BarsName names u rest fault → ⊥
name_closes names name u rest fault s bar =
    closes_both (λ said name. name) (Spells (heading Session)) (λ said. Spells session_name) BarsNone (λ said. BarsNamed names) (name_fit names)
    (λ x y v t w z more why barred. barred) (λ behind. ⊥) (λ x z v behind why t empty barred. barred)
    (λ x z v behind why t barred. named_not_barred names z v behind why t barred) name u rest fault s (name_bars_back names u rest fault bar)

session_one : (statements : ℕ) (names : List Bytes) → HasOneFault (BarsWithin statements names)
session_one statements names =
    one_both as_session SpellsName (λ name. SpellsStatements in_session) (BarsName names) (λ name. BarsStatements in_session statements) (session_fit statements names)
    (λ x y u s t v rest fault bar. bar) (λ x u rest one two s bar other. name_closes names x u rest one s bar) (name_one names)
    (λ name. statements_one in_session session_fits once_in_session statements)

session_close : (statements : ℕ) (names : List Bytes) (session : SessionText) (u rest : List PlacedLexeme) (fault : SqlFault) → SpellsSession session u
    → BarsWithin statements names u rest fault → NoHeading rest
session_close statements names session u rest fault s bar =
    closes_both as_session SpellsName (λ name. SpellsStatements in_session) (BarsName names) (λ name. BarsStatements in_session statements) (session_fit statements names)
    (λ x y v t w z more why barred. barred) NoHeading (λ x z v behind why t empty barred. absurd (name_closes names x v behind why t barred))
    (λ x z v behind why t barred. statements_close in_session session_fits once_in_session statements z v behind why t barred) session u rest fault s bar

name_no_more : (name : Bytes) (front : List PlacedLexeme) (token : PlacedLexeme) → SpellsName name front → Begins SpellsName (front ++ token ∷ []) → ⊥
name_no_more = no_more SpellsName (BarsName []) name_marks (name_has []) refl

one_name : (one two : Bytes) (u : List PlacedLexeme) → SpellsName one u → SpellsName two u → one ≡ two
one_name one two u (front, behind, said, x, (h, hf, hx, he), (n, nf, nx, ne), e, is) (other, rest, told, y, (k, kf, kx, ke), (m, mf, mx, me), p, is2) =
    let first : u ≡ h ∷ n ∷ [] = e ∙ ap₂ (λ (v w : List PlacedLexeme). v ++ w) he ne in
    let second : u ≡ k ∷ m ∷ [] = p ∙ ap₂ (λ (v w : List PlacedLexeme). v ++ w) ke me in
    let same : n ≡ m = cc in
    is ∙ nx ∙ ap text_of same ∙ sym mx ∙ sym is2

session_next : (before : Before) (x y : SessionText) (u : List PlacedLexeme) → SpellsSession x u → SpellsSession y u → and_session before x ≡ and_session before y
session_next before x y u (front, behind, name, xs, s, each, e, is) (other, rest, told, ys, t, others, p, is2) =
    let cut = heading_cut SpellsName name_no_more name told front behind other rest s t (sym e ∙ p) in
    let names : name ≡ told = one_name name told front s (subst (λ (w : List PlacedLexeme). SpellsName told w) (sym cut.0) t) in
    let count : length xs ≡ length ys =
    statements_count in_session session_fits once_in_session xs ys behind each (subst (λ (w : List PlacedLexeme). SpellsStatements in_session ys w) (sym cut.1) others) in
    ap (and_session before) is
    ∙ ap₂ (λ (n : ℕ) (text : Bytes). let r : Before = record { statements = before.statements + n; names = before.names ++ text ∷ [] } in r) count names
    ∙ sym (ap (and_session before) is2)

sessions_open_if : (fewer : Bool) (rest : List PlacedLexeme)
    → begins (heads (if fewer then [] else record { words = Heading Session ∷ []; fault = limit (codes "more than 16 sessions") } ∷ [])) rest ≡ true
    → begins (Heading Session ∷ Heading Schedule ∷ []) rest ≡ true
sessions_open_if true rest h = absurd (nothing_begins rest h)
sessions_open_if false rest h = begins_front (Heading Session ∷ []) (Heading Schedule ∷ []) rest h

sessions_open : (sessions : ℕ) (rest : List PlacedLexeme) → begins (heads (refused_sessions sessions)) rest ≡ true → begins (Heading Session ∷ Heading Schedule ∷ []) rest ≡ true
sessions_open sessions rest h = sessions_open_if (nat_lt sessions session_limit) rest h

sessions_closed : (before : Before) (x : SessionText) (u rest : List PlacedLexeme) (one two : SqlFault) → SpellsSession x u → bars_after before u rest one
    → BarsEach and_session refused_after SpellsSession bars_after (and_session before x) [] rest two → ⊥
sessions_closed before x u rest one two s bar other =
    let next = and_session before x in
    let opened = (each_has and_session refused_after SpellsSession bars_after session_marks each_session_has sessions_repeat next).keeps.opened rest two other in
    session_close before.statements before.names x u rest one s bar (sessions_open (length next.names) rest opened)

sessions_one : (statements : ℕ) → HasOneFault (BarsSessions statements)
sessions_one statements =
    one_of_fewer (BarsEach and_session refused_after SpellsSession bars_after (at_first statements)) (BarsSessions statements) (sessions_back statements)
    (one_each (Heading Session ∷ []) and_session refused_after SpellsSession bars_after sessions_fits session_next sessions_closed
    (λ before. session_one before.statements before.names) (at_first statements))

-- ---- scripts

behind_setup_one : (statements : ℕ) → HasOneFault (BarsBehindSetup statements)
behind_setup_one statements u rest one two (inl bar) (inl other) = sessions_one statements u rest one two bar other
behind_setup_one statements u rest one two (inr bar) other = absurd (schedule_has.keeps.plain schedule_plain bar.1 rest one bar.5)
behind_setup_one statements u rest one two (inl bar) (inr other) = absurd (schedule_has.keeps.plain schedule_plain other.1 rest two other.5)

behind_setup_opens : (of_both (sessions_marks (refused_sessions 0)) (marks_by marks schedule)).opens ≡ []
unfolding schedule item
behind_setup_opens = refl

behind_setup_quiet : (statements : ℕ) (rest : List PlacedLexeme) (fault : SqlFault) → BarsBehindSetup statements [] rest fault → ⊥
behind_setup_quiet statements rest fault bar =
    nothing_begins rest (subst (λ (kinds : List Terminal). begins kinds rest ≡ true) behind_setup_opens ((behind_setup_has statements).keeps.opened rest fault bar))

pub script_one : HasOneFault BarsScript
script_one =
    one_of_fewer BarsAll BarsScript bars_back
    (one_both script_of SpellsSetup (λ setup. SpellsBehindSetup) BarsSetup (λ setup. BarsBehindSetup (length setup)) script_fit
    (λ x y u s t v rest fault bar. subst (λ (n : ℕ). BarsBehindSetup n v rest fault) (sym (setup_count x y u s t)) bar)
    (λ x u rest one two s bar other. behind_setup_quiet (length x) rest two other) setup_one (λ setup. behind_setup_one (length setup)))
