-- Sessions one after the other, and scripts, are read as by their rules.
use Rattle.std.proofs.Common.{◌≡◌, ℕ, ◌+◌, true, List, [], ◌∷◌, ◌++◌, length, Option, refl, sym, ap₂, ◌∙◌, subst, inl, inr, arith, le_refl}
use Rattle.std.proofs.lemmas.List.{append_assoc, append-nil}
use Rattle.std.proofs.lemmas.List.Sums.{sum_by-cons}
use Rattle.aq_base.specs.Names.{Text as Bytes}
use Rattle.aq_base.specs.declared.fault.SqlFault.{SqlFault}
use Rattle.aq_base.specs.declared.script.SessionText.{SessionText}
use Rattle.aq_base.specs.declared.script.Item.{Item}
use Rattle.aq_lex.specs.declared.token.Directive.TheVariants.{Session}
use Rattle.aq_lex.specs.Lexemes.{PlacedLexeme}
use Rattle.aq_grammar.specs.Terminals.{Heading}
use Rattle.aq_grammar.specs.Rules.{Form, Bar, Refusal, SpellsBoth, BarsBoth}
use Rattle.aq_grammar.specs.Reading.{read_both}
use Rattle.aq_grammar.specs.Sets.{of_both, marks_by}
use Rattle.aq_grammar.specs.Nonterminals.{marks, reads, Spells, Bars}
use Rattle.aq_grammar.proofs.Languages.{HasMarks, IsRight}
use Rattle.aq_grammar.proofs.Keeping.{AreRepeated, are_repeated}
use Rattle.aq_grammar.proofs.RightForms.{alike_right}
use Rattle.aq_grammar.proofs.RightBoth.{BothFit, right_both}
use Rattle.aq_grammar.proofs.RightFit.{both_of_marks}
use Rattle.aq_grammar.proofs.Grammar.{is_read_right}
use Rattle.aq_script.specs.Sections.{item, schedule, script_of, refused_sessions, statements_in, names_of, SpellsSetup, SpellsSession, SpellsSessions, SpellsScript, BarsSetup, BarsSession, BarsSessions, BarsScript}
use Rattle.aq_script.specs.Parsing.{Before, and_session, read_setup, read_session, read_all_sessions, read_script}
use Rattle.aq_grammar.proofs.Each.{after, BarsEach, EachFit, each_fit, each_has}
use Rattle.aq_script.proofs.Each.{right_each_behind}
use Rattle.aq_script.proofs.Fit.{schedule_fits, session_marks, setup_marks, sessions_marks, sessions_fit, schedule_fits_behind, sessions_fit_behind}
use Rattle.aq_script.proofs.Marked.{rule_has, has_fewer, has_both}
use Rattle.aq_script.proofs.Sections.{BarsWithin, setup_right, setup_has, session_right, session_has}

-- ---- sessions

abbrev pub refused_after : Before → List Refusal
refused_after before = refused_sessions (length before.names)

abbrev pub bars_after : Before → Bar
bars_after before = BarsWithin before.statements before.names

after_sessions : (before : Before) (sessions : List SessionText)
    → after and_session before sessions ≡ record { statements = before.statements + statements_in sessions; names = before.names ++ names_of sessions }
after_sessions before [] =
    let same : before.statements ≡ before.statements + 0 = omega arith in
    ap₂ (λ (n : ℕ) (names : List Bytes). let r : Before = record { statements = n; names = names } in r) same (sym (append-nil before.names))
after_sessions before (session ∷ sessions) =
    let count = sum_by-cons (λ (x : SessionText). length x.statements) session sessions in
    let same : (before.statements + length session.statements) + statements_in sessions ≡ before.statements + statements_in (session ∷ sessions) = omega arith in
    after_sessions (and_session before session) sessions
    ∙ ap₂ (λ (n : ℕ) (names : List Bytes). let r : Before = record { statements = n; names = names } in r) same
    (append_assoc before.names (session.name ∷ []) (names_of sessions))

pub sessions_repeat : (before : Before) → AreRepeated (refused_after before) session_marks
sessions_repeat before = are_repeated (Heading Session ∷ []) (refused_after before) session_marks (sessions_fit (length before.names))

pub each_session_has : (before : Before) → HasMarks SpellsSession (bars_after before) session_marks
each_session_has before = session_has before.statements before.names

pub sessions_fits : EachFit (Heading Session ∷ []) and_session refused_after SpellsSession bars_after
sessions_fits = each_fit and_session refused_after SpellsSession bars_after session_marks each_session_has sessions_repeat (Heading Session ∷ []) refl

abbrev pub at_first : ℕ → Before
at_first statements = record { statements = statements; names = [] }

sessions_from : (statements : ℕ) (u rest : List PlacedLexeme) (fault : SqlFault)
    → BarsEach and_session refused_after SpellsSession bars_after (at_first statements) u rest fault → BarsSessions statements u rest fault
sessions_from statements u rest fault (front, behind, sessions, s, e, bar) =
    (front, behind, sessions, s, e, subst (λ (b : Before). BarsSession b.statements b.names behind rest fault) (after_sessions (at_first statements) sessions) bar)

pub sessions_back : (statements : ℕ) (u rest : List PlacedLexeme) (fault : SqlFault) → BarsSessions statements u rest fault
    → BarsEach and_session refused_after SpellsSession bars_after (at_first statements) u rest fault
sessions_back statements u rest fault (front, behind, sessions, s, e, bar) =
    (front, behind, sessions, s, e, subst (λ (b : Before). BarsSession b.statements b.names behind rest fault) (sym (after_sessions (at_first statements) sessions)) bar)

pub sessions_right : (statements : ℕ) (tokens : List PlacedLexeme) → IsRight SpellsSessions (BarsSessions statements) tokens (read_all_sessions statements tokens)
sessions_right statements tokens =
    alike_right SpellsSessions SpellsSessions (BarsEach and_session refused_after SpellsSession bars_after (at_first statements)) (BarsSessions statements) tokens
    (read_all_sessions statements tokens)
    (record { spelled = λ x u s. s; spelled_back = λ x u s. s; barred = sessions_from statements; barred_back = sessions_back statements })
    (right_each_behind (Heading Session ∷ []) and_session refused_after SpellsSession bars_after sessions_fits (λ before. read_session before.statements before.names)
    (λ before all. session_right before.statements before.names all) (length tokens) (at_first statements) tokens (le_refl (length tokens)))

pub sessions_has : (statements : ℕ) → HasMarks SpellsSessions (BarsSessions statements) (sessions_marks (refused_sessions 0))
sessions_has statements =
    has_fewer (BarsSessions statements) (sessions_back statements)
    (each_has and_session refused_after SpellsSession bars_after session_marks each_session_has sessions_repeat (at_first statements))

-- ---- scripts

pub schedule_has : HasMarks (Spells schedule) (Bars schedule) (marks_by marks schedule)
schedule_has = rule_has schedule schedule_fits

pub schedule_plain : (marks_by marks schedule).is_plain ≡ true
unfolding schedule item
schedule_plain = refl

abbrev pub with_schedule : List SessionText → Option (List Item) → List SessionText × Option (List Item)
with_schedule sessions items = (sessions, items)

abbrev pub SpellsBehindSetup : Form (List SessionText × Option (List Item))
SpellsBehindSetup = SpellsBoth with_schedule SpellsSessions (λ sessions. Spells schedule)

abbrev pub BarsBehindSetup : ℕ → Bar
BarsBehindSetup statements = BarsBoth SpellsSessions (BarsSessions statements) (λ sessions. Bars schedule)

schedule_fit : (statements : ℕ) → BothFit SpellsSessions (λ sessions. Spells schedule) (BarsSessions statements) (λ sessions. Bars schedule)
schedule_fit statements =
    both_of_marks SpellsSessions (λ sessions. Spells schedule) (BarsSessions statements) (λ sessions. Bars schedule) (sessions_marks (refused_sessions 0)) (marks_by marks schedule)
    (sessions_has statements) (λ sessions. schedule_has) (schedule_fits_behind 0)

behind_setup_right : (statements : ℕ) (tokens : List PlacedLexeme)
    → IsRight SpellsBehindSetup (BarsBehindSetup statements) tokens (read_both with_schedule (read_all_sessions statements) (λ sessions. reads schedule) tokens)
behind_setup_right statements tokens =
    right_both with_schedule SpellsSessions (λ sessions. Spells schedule) (BarsSessions statements) (λ sessions. Bars schedule) (schedule_fit statements)
    (read_all_sessions statements) (λ sessions. reads schedule) tokens (sessions_right statements tokens)
    (λ sessions front rest e s. is_read_right schedule schedule_fits rest)

pub behind_setup_has : (statements : ℕ) → HasMarks SpellsBehindSetup (BarsBehindSetup statements) (of_both (sessions_marks (refused_sessions 0)) (marks_by marks schedule))
behind_setup_has statements = has_both with_schedule (sessions_has statements) schedule_has (schedule_fits_behind 0)

pub script_fit : BothFit SpellsSetup (λ setup. SpellsBehindSetup) BarsSetup (λ setup. BarsBehindSetup (length setup))
script_fit =
    both_of_marks SpellsSetup (λ setup. SpellsBehindSetup) BarsSetup (λ setup. BarsBehindSetup (length setup)) setup_marks
    (of_both (sessions_marks (refused_sessions 0)) (marks_by marks schedule)) setup_has (λ setup. behind_setup_has (length setup)) (sessions_fit_behind 0)

abbrev pub BarsAll : Bar
BarsAll = BarsBoth SpellsSetup BarsSetup (λ setup. BarsBehindSetup (length setup))

-- nothing is refused in the schedule
bars_from : (u rest : List PlacedLexeme) (fault : SqlFault) → BarsAll u rest fault → BarsScript u rest fault
bars_from u rest fault (inl bar) = inl bar
bars_from u rest fault (inr (front, behind, setup, s, e, inl bar)) = inr (front, behind, setup, s, e, bar)
bars_from u rest fault (inr (front, behind, setup, s, e, inr bar)) = absurd (schedule_has.keeps.plain schedule_plain bar.1 rest fault bar.5)

pub bars_back : (u rest : List PlacedLexeme) (fault : SqlFault) → BarsScript u rest fault → BarsAll u rest fault
bars_back u rest fault (inl bar) = inl bar
bars_back u rest fault (inr (front, behind, setup, s, e, bar)) = inr (front, behind, setup, s, e, inl bar)

pub script_right : (tokens : List PlacedLexeme) → IsRight SpellsScript BarsScript tokens (read_script tokens)
script_right tokens =
    alike_right SpellsScript SpellsScript BarsAll BarsScript tokens (read_script tokens)
    (record { spelled = λ x u s. s; spelled_back = λ x u s. s; barred = bars_from; barred_back = bars_back })
    (right_both script_of SpellsSetup (λ setup. SpellsBehindSetup) BarsSetup (λ setup. BarsBehindSetup (length setup)) script_fit
    read_setup (λ setup. read_both with_schedule (read_all_sessions (length setup)) (λ sessions. reads schedule)) tokens (setup_right tokens)
    (λ setup front rest e s. behind_setup_right (length setup) rest))
