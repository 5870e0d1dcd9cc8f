-- The setup section and a session are read as by their rules.
use Rattle.std.proofs.Common.{◌≡◌, ℕ, true, List, [], ◌∷◌, refl, subst, inl, inr}
use Rattle.aq_base.specs.Names.{Text as Bytes}
use Rattle.aq_base.specs.declared.fault.SqlFault.{SqlFault}
use Rattle.aq_base.specs.declared.script.Placed.{Placed}
use Rattle.aq_base.specs.declared.script.SessionText.{SessionText}
use Rattle.aq_lex.specs.declared.token.Directive.{Directive}
use Rattle.aq_lex.specs.declared.token.Directive.TheVariants.{Setup, Session}
use Rattle.aq_lex.specs.Lexemes.{PlacedLexeme}
use Rattle.aq_grammar.specs.Terminals.{Heading}
use Rattle.aq_grammar.specs.Rules.{Form, Bar, SpellsNothing, SpellsBoth, BarsNone, BarsHere, BarsBoth}
use Rattle.aq_grammar.specs.Reading.{Read, read_both, read_unless}
use Rattle.aq_grammar.specs.Sets.{have_words, marks_by}
use Rattle.aq_grammar.specs.Forms.{◌▸◌}
use Rattle.aq_grammar.specs.Nonterminals.{marks, reads, Spells, Bars}
use Rattle.aq_grammar.proofs.Languages.{HasMarks, IsBehindBeginning, IsRight}
use Rattle.aq_grammar.proofs.Cuts.{parts_of_nothing}
use Rattle.aq_grammar.proofs.Keeping.{SpellsEither, BarsEither}
use Rattle.aq_grammar.proofs.Beginning.{barred_both, barred_unless}
use Rattle.aq_grammar.proofs.RightForms.{AreAlike, alike_right}
use Rattle.aq_grammar.proofs.RightParts.{right_nothing}
use Rattle.aq_grammar.proofs.RightChoice.{right_either, right_unless}
use Rattle.aq_grammar.proofs.RightBoth.{BothFit, right_both}
use Rattle.aq_grammar.proofs.RightMany.{StartsWith, both_or_nothing}
use Rattle.aq_grammar.proofs.RightFit.{starts_of_marks}
use Rattle.aq_grammar.proofs.Grammar.{is_read_right}
use Rattle.aq_script.specs.Sections.{in_setup, in_session, heading, session_name, refused_names, SpellsStatements, SpellsSetup, SpellsSession, BarsStatements, BarsSetup, BarsName}
use Rattle.aq_script.specs.Parsing.{read_all_statements, read_setup, read_name, read_session}
use Rattle.aq_script.proofs.Fit.{session_fits, setup_fits, name_marks, behind_heading, session_marks, setup_marks}
use Rattle.aq_script.proofs.Marked.{rule_has, has_others, has_no_bars, has_alike, has_both, has_or_nothing, behind_ended}
use Rattle.aq_script.proofs.Statements.{statements_right, statements_has}

pub heading_has : (directive : Directive) → HasMarks (Spells (heading directive)) BarsNone (marks_by marks (heading directive))
heading_has directive = rule_has (heading directive) refl

-- a form that begins with a token refuses nothing where it begins, unless it does so before the token
quiet_behind : {A : Type 0} (First : Form A) (second : A → Bar) → ((x : A) → First x [] → ⊥) → (rest : List PlacedLexeme) (fault : SqlFault)
    → BarsBoth First BarsNone second [] rest fault → ⊥
quiet_behind First second some rest fault (inl bar) = bar
quiet_behind First second some rest fault (inr bar) =
    some bar.2 (subst (λ (u : List PlacedLexeme). First bar.2 u) (parts_of_nothing bar.0 bar.1 bar.4).0 bar.3)

-- ---- the setup

abbrev pub SpellsSaid : Form (List Placed)
SpellsSaid = SpellsBoth (λ said statements. statements) (Spells (heading Setup)) (λ said. SpellsStatements in_setup)

pub setup_fit : BothFit (Spells (heading Setup)) (λ said. SpellsStatements in_setup) BarsNone (λ said. BarsStatements in_setup 0)
setup_fit =
    behind_ended (Spells (heading Setup)) BarsNone (marks_by marks (heading Setup)) (heading_has Setup) refl (λ said. SpellsStatements in_setup) (λ said. BarsStatements in_setup 0)
    (λ said. ([], [], refl)) (λ said. (statements_has in_setup setup_fits 0).barred)

setup_from : (setup : List Placed) (u : List PlacedLexeme) → SpellsEither SpellsSaid (SpellsNothing []) setup u → SpellsSetup setup u
setup_from setup u (inl s) = inr s
setup_from setup u (inr s) = inl s

setup_back : (setup : List Placed) (u : List PlacedLexeme) → SpellsSetup setup u → SpellsEither SpellsSaid (SpellsNothing []) setup u
setup_back setup u (inl s) = inr s
setup_back setup u (inr s) = inl s

setup_bars : (u rest : List PlacedLexeme) (fault : SqlFault) → BarsEither BarsSetup BarsNone u rest fault → BarsSetup u rest fault
setup_bars u rest fault (inl bar) = bar
setup_bars u rest fault (inr bar) = absurd bar

setup_alike : AreAlike (SpellsEither SpellsSaid (SpellsNothing [])) SpellsSetup (BarsEither BarsSetup BarsNone) BarsSetup
setup_alike =
    record { spelled = setup_from; spelled_back = setup_back; barred = setup_bars; barred_back = λ u rest fault bar. inl bar }

setup_starts : StartsWith (Heading Setup ∷ []) (Spells (heading Setup)) BarsNone
setup_starts = starts_of_marks (Heading Setup ∷ []) (Spells (heading Setup)) BarsNone (marks_by marks (heading Setup)) (heading_has Setup) refl refl refl

pub setup_right : (tokens : List PlacedLexeme) → IsRight SpellsSetup BarsSetup tokens (read_setup tokens)
setup_right tokens =
    alike_right (SpellsEither SpellsSaid (SpellsNothing [])) SpellsSetup (BarsEither BarsSetup BarsNone) BarsSetup tokens (read_setup tokens) setup_alike
    (right_either (Heading Setup ∷ []) SpellsSaid (SpellsNothing []) BarsSetup BarsNone
    (both_or_nothing (λ said statements. statements) (Spells (heading Setup)) (λ said. SpellsStatements in_setup) BarsNone (λ said. BarsStatements in_setup 0) setup_fit
    (Heading Setup ∷ []) setup_starts [])
    (read_both (λ said statements. statements) (reads (heading Setup)) (λ said. read_all_statements in_setup 0)) (λ all. Read [] all) tokens
    (right_both (λ said statements. statements) (Spells (heading Setup)) (λ said. SpellsStatements in_setup) BarsNone (λ said. BarsStatements in_setup 0) setup_fit
    (reads (heading Setup)) (λ said. read_all_statements in_setup 0) tokens (is_read_right (heading Setup) refl tokens)
    (λ said front rest e s. statements_right in_setup setup_fits 0 rest))
    (right_nothing [] tokens))

-- statements, as if nothing were refused
pub setup_statements : HasMarks (SpellsStatements in_setup) BarsNone (behind_heading in_setup)
setup_statements = has_no_bars (behind_heading in_setup) refl refl refl (statements_has in_setup setup_fits 0)

pub session_statements : HasMarks (SpellsStatements in_session) BarsNone (behind_heading in_session)
session_statements = has_no_bars (behind_heading in_session) refl refl refl (statements_has in_session session_fits 0)

setup_barred : IsBehindBeginning SpellsSetup BarsSetup
setup_barred u rest fault bar =
    let b = barred_both (λ said statements. statements) (Spells (heading Setup)) BarsNone (λ said. SpellsStatements in_setup) (λ said. BarsStatements in_setup 0) (heading_has Setup).barred
    (λ said. ([], [], refl)) (λ said. (statements_has in_setup setup_fits 0).barred) u rest fault bar in
    (b.0, b.1, inr b.2)

pub setup_has : HasMarks SpellsSetup BarsSetup setup_marks
setup_has =
    has_others BarsSetup (quiet_behind (Spells (heading Setup)) (λ said. BarsStatements in_setup 0) ((heading_has Setup).keeps.not_empty refl)) setup_barred
    (has_alike SpellsSetup setup_from setup_back
    (has_or_nothing [] (has_both (λ said statements. statements) (heading_has Setup) setup_statements refl)
    (record { whole = refl; apart = refl; first_opens_none = refl; second_opens_none = refl })))

-- ---- a session

-- the names of sessions before are words
pub names_have_words : (names : List Bytes) → have_words (refused_names names) ≡ true
names_have_words [] = refl
names_have_words (name ∷ names) = names_have_words names

abbrev pub SpellsName : Form Bytes
SpellsName = Spells (heading Session ▸ session_name)

plain_name_has : HasMarks (Spells session_name) BarsNone (marks_by marks session_name)
plain_name_has = rule_has session_name refl

pub name_fit : (names : List Bytes) → BothFit (Spells (heading Session)) (λ said. Spells session_name) BarsNone (λ said. BarsEither (BarsHere (refused_names names)) BarsNone)
name_fit names =
    behind_ended (Spells (heading Session)) BarsNone (marks_by marks (heading Session)) (heading_has Session) refl (λ said. Spells session_name)
    (λ said. BarsEither (BarsHere (refused_names names)) BarsNone) (λ said. plain_name_has.some)
    (λ said. barred_unless (Spells session_name) BarsNone (refused_names names) plain_name_has.some plain_name_has.barred)

abbrev pub BarsEitherName : List Bytes → Bar
BarsEitherName names = BarsBoth (Spells (heading Session)) BarsNone (λ said. BarsEither (BarsHere (refused_names names)) BarsNone)

name_bars : (names : List Bytes) (u rest : List PlacedLexeme) (fault : SqlFault) → BarsEitherName names u rest fault → BarsName names u rest fault
name_bars names u rest fault (inl bar) = inl bar
name_bars names u rest fault (inr (front, behind, said, s, e, inl bar)) = inr (front, behind, said, s, e, bar)
name_bars names u rest fault (inr (front, behind, said, s, e, inr bar)) = absurd bar

pub name_bars_back : (names : List Bytes) (u rest : List PlacedLexeme) (fault : SqlFault) → BarsName names u rest fault → BarsEitherName names u rest fault
name_bars_back names u rest fault (inl bar) = inl bar
name_bars_back names u rest fault (inr (front, behind, said, s, e, bar)) = inr (front, behind, said, s, e, inl bar)

name_right : (names : List Bytes) (tokens : List PlacedLexeme) → IsRight SpellsName (BarsName names) tokens (read_name names tokens)
name_right names tokens =
    alike_right SpellsName SpellsName (BarsEitherName names) (BarsName names) tokens (read_name names tokens)
    (record { spelled = λ x u s. s; spelled_back = λ x u s. s; barred = name_bars names; barred_back = name_bars_back names })
    (right_both (λ said name. name) (Spells (heading Session)) (λ said. Spells session_name) BarsNone (λ said. BarsEither (BarsHere (refused_names names)) BarsNone) (name_fit names)
    (reads (heading Session)) (λ said. read_unless (refused_names names) (reads session_name)) tokens (is_read_right (heading Session) refl tokens)
    (λ said front rest e s. right_unless (refused_names names) (Spells session_name) BarsNone (reads session_name) rest plain_name_has.some (is_read_right session_name refl rest)))

name_barred : (names : List Bytes) → IsBehindBeginning SpellsName (BarsName names)
name_barred names u rest fault bar =
    barred_both (λ said name. name) (Spells (heading Session)) BarsNone (λ said. Spells session_name) (λ said. BarsEither (BarsHere (refused_names names)) BarsNone) (heading_has Session).barred
    (λ said. plain_name_has.some) (name_fit names).barred_second u rest fault (name_bars_back names u rest fault bar)

name_quiet : (names : List Bytes) (rest : List PlacedLexeme) (fault : SqlFault) → BarsName names [] rest fault → ⊥
name_quiet names = quiet_behind (Spells (heading Session)) (λ said. BarsHere (refused_names names)) ((heading_has Session).keeps.not_empty refl)

pub any_name_has : HasMarks SpellsName (Bars (heading Session ▸ session_name)) (marks_by marks (heading Session ▸ session_name))
any_name_has = rule_has (heading Session ▸ session_name) refl

pub name_has : (names : List Bytes) → HasMarks SpellsName (BarsName names) name_marks
name_has names = has_others (BarsName names) (name_quiet names) (name_barred names) any_name_has

abbrev pub as_session : Bytes → List Placed → SessionText
as_session name statements = record { name = name; statements = statements }

pub session_fit : (statements : ℕ) (names : List Bytes) → BothFit SpellsName (λ name. SpellsStatements in_session) (BarsName names) (λ name. BarsStatements in_session statements)
session_fit statements names =
    behind_ended SpellsName (BarsName names) name_marks (name_has names) refl (λ name. SpellsStatements in_session) (λ name. BarsStatements in_session statements)
    (λ name. ([], [], refl)) (λ name. (statements_has in_session session_fits statements).barred)

-- what is refused within a session, behind so many statements and sessions of these names
abbrev pub BarsWithin : ℕ → List Bytes → Bar
BarsWithin statements names = BarsBoth SpellsName (BarsName names) (λ name. BarsStatements in_session statements)

pub session_right : (statements : ℕ) (names : List Bytes) (tokens : List PlacedLexeme) → IsRight SpellsSession (BarsWithin statements names) tokens (read_session statements names tokens)
session_right statements names tokens =
    right_both as_session SpellsName (λ name. SpellsStatements in_session) (BarsName names) (λ name. BarsStatements in_session statements) (session_fit statements names)
    (read_name names) (λ name. read_all_statements in_session statements) tokens (name_right names tokens)
    (λ name front rest e s. statements_right in_session session_fits statements rest)

session_quiet : (statements : ℕ) (names : List Bytes) (rest : List PlacedLexeme) (fault : SqlFault) → BarsWithin statements names [] rest fault → ⊥
session_quiet statements names rest fault (inl bar) = name_quiet names rest fault bar
session_quiet statements names rest fault (inr bar) =
    any_name_has.keeps.not_empty refl bar.2 (subst (λ (u : List PlacedLexeme). SpellsName bar.2 u) (parts_of_nothing bar.0 bar.1 bar.4).0 bar.3)

pub session_has : (statements : ℕ) (names : List Bytes) → HasMarks SpellsSession (BarsWithin statements names) session_marks
session_has statements names =
    has_others (BarsWithin statements names) (session_quiet statements names)
    (barred_both as_session SpellsName (BarsName names) (λ name. SpellsStatements in_session) (λ name. BarsStatements in_session statements) (name_barred names)
    (λ name. ([], [], refl)) (λ name. (statements_has in_session session_fits statements).barred))
    (has_both as_session any_name_has session_statements refl)
