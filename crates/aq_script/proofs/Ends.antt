-- In a script nothing is refused where no token comes, and no token is too long.
use Rattle.std.proofs.Common.{◌≡◌, ℕ, ◌+◌, Bool, true, false, not, List, [], ◌∷◌, length, codes, if◌then◌else◌, nat_lt, refl, sym, subst, ◌∙◌, inl, inr}
use Rattle.std.proofs.lemmas.Bool.{and_from, and_parts}
use Rattle.std.specs.List.{list_all}
use Rattle.aq_base.specs.Names.{Text as Bytes, is_short, is_reserved}
use Rattle.aq_base.specs.declared.script.SessionText.{SessionText}
use Rattle.aq_lex.specs.declared.token.Directive.TheVariants.{Setup, Session}
use Rattle.aq_lex.specs.Lexemes.{PlacedLexeme, Lexeme, Word}
use Rattle.aq_grammar.specs.Terminals.{Heading, is_plain_name, lexeme_text}
use Rattle.aq_grammar.specs.Sets.{heads}
use Rattle.aq_grammar.specs.Forms.{◌▸◌, limit}
use Rattle.aq_grammar.specs.Nonterminals.{rules, marks, Spells}
use Rattle.aq_grammar.proofs.Fit.{rules_fit}
use Rattle.aq_grammar.proofs.AtEnd.{IsFreeAtEnd, free_at_end, refusals_at_end}
use Rattle.aq_grammar.proofs.Short.{AreShort, SpellsShort, BarsShort, are_short_kinds, has_short_words, refusals_short, short_of_both, short_of_each}
use Rattle.aq_grammar.proofs.ShortFit.{short_session, short_setup, short_form, short_barred}
use Rattle.aq_script.specs.Sections.{Section, in_setup, in_session, ended, heading, session_name, item, schedule, script_of, session_limit, refused_names, refused_sessions, statements_in, names_of, SpellsPlaced, SpellsStatements, SpellsSetup, SpellsSession, SpellsSessions, SpellsScript, BarsStatements, BarsSetup, BarsSession, BarsScript}
use Rattle.aq_script.specs.Parsing.{refused_behind}
use Rattle.aq_script.proofs.Fit.{SectionFits, session_fits, setup_fits}
use Rattle.aq_script.proofs.Statements.{ended_fits, repeats}
use Rattle.aq_script.proofs.Sections.{SpellsSaid, SpellsName, as_session, names_have_words}
use Rattle.aq_script.proofs.Scripts.{SpellsBehindSetup, with_schedule, sessions_repeat}

-- ---- where no token comes

module _ (section : Section) (fits : SectionFits section) where
  statements_free_at_end : (statements : ℕ) → IsFreeAtEnd (BarsStatements section statements)
  statements_free_at_end statements u fault (front, behind, others, s, e, inl bar) = free_at_end rules marks rules_fit (ended section) (ended_fits section fits) behind fault bar
  statements_free_at_end statements u fault (front, behind, others, s, e, inr bar) =
      refusals_at_end (refused_behind section (statements + length others)) fault (repeats section fits (statements + length others)).worded bar.1

setup_free_at_end : IsFreeAtEnd BarsSetup
setup_free_at_end u fault (inl bar) = bar
setup_free_at_end u fault (inr bar) = statements_free_at_end in_setup setup_fits 0 bar.1 fault bar.5

session_free_at_end : (statements : ℕ) (names : List Bytes) → IsFreeAtEnd (BarsSession statements names)
session_free_at_end statements names u fault (inl (inl (inl bar))) = bar
session_free_at_end statements names u fault (inl (inl (inr bar))) = let here = bar.5 in refusals_at_end (refused_names names) fault (names_have_words names) here.1
session_free_at_end statements names u fault (inl (inr bar)) = statements_free_at_end in_session session_fits statements bar.1 fault bar.5
session_free_at_end statements names u fault (inr here) =
    refusals_at_end (refused_sessions (length names)) fault (sessions_repeat (record { statements = statements; names = names })).worded here.1

pub script_free_at_end : IsFreeAtEnd BarsScript
script_free_at_end u fault (inl bar) = setup_free_at_end u fault bar
script_free_at_end u fault (inr (front, behind, setup, s, e, (before, last, sessions, h, d, bar))) = session_free_at_end _ _ last fault bar

-- ---- too long tokens

short_statements : (section : Section) → has_short_words section.statement ≡ true → SpellsShort (SpellsStatements section)
short_statements section words =
    short_of_each (SpellsPlaced section) (λ placed u s. short_form (ended section) (and_from (has_short_words section.statement) true words refl) placed.statement u s.0)

short_said : SpellsShort SpellsSaid
short_said = short_of_both (λ said statements. statements) (Spells (heading Setup)) (λ said. SpellsStatements in_setup) (short_form (heading Setup) refl) (λ said. short_statements in_setup short_setup)

short_setup_section : SpellsShort SpellsSetup
short_setup_section setup u (inl s) = subst AreShort (sym s.1) tt
short_setup_section setup u (inr s) = short_said setup u s

short_one_session : SpellsShort SpellsSession
short_one_session =
    short_of_both as_session SpellsName (λ name. SpellsStatements in_session) (short_form (heading Session ▸ session_name) refl) (λ name. short_statements in_session short_session)

short_schedule : has_short_words schedule ≡ true
unfolding schedule item
short_schedule = refl

-- each token of a script is short
pub script_short : SpellsShort SpellsScript
script_short =
    short_of_both script_of SpellsSetup (λ setup. SpellsBehindSetup) short_setup_section
    (λ setup. short_of_both with_schedule SpellsSessions (λ sessions. Spells schedule) (short_of_each SpellsSession short_one_session) (λ sessions. short_form schedule short_schedule))

-- ---- what is refused is not too long

module _ (section : Section) (fits : SectionFits section) (words : has_short_words section.statement ≡ true) where
  statements_barred_short : (statements : ℕ) → BarsShort (BarsStatements section statements)
  statements_barred_short statements u token rest fault (front, behind, others, s, e, inl bar) =
      short_barred (ended section) (ended_fits section fits) (and_from (has_short_words section.statement) true words refl) behind token rest fault bar
  statements_barred_short statements u token rest fault (front, behind, others, s, e, inr here) =
      let count = statements + length others in
      refusals_short (refused_behind section count) token rest fault (fits.short_words count) (repeats section fits count).worded here.1

setup_barred_short : BarsShort BarsSetup
setup_barred_short u token rest fault (inl bar) = absurd bar
setup_barred_short u token rest fault (inr bar) = statements_barred_short in_setup setup_fits short_setup 0 bar.1 token rest fault bar.5

abbrev AreShortNames : List Bytes → Type 0
AreShortNames names = list_all is_short names ≡ true

names_short : (names : List Bytes) → AreShortNames names → are_short_kinds (heads (refused_names names)) ≡ true
names_short [] short = refl
names_short (name ∷ names) short =
    let (first, others) = and_parts (is_short name) (list_all is_short names) short in
    and_from (is_short name) (are_short_kinds (heads (refused_names names))) first (names_short names others)

plain_name_short : (lexeme : Lexeme) → is_plain_name lexeme ≡ true → is_short (lexeme_text lexeme) ≡ true
plain_name_short (Word text) is = (and_parts (is_short text) (not (is_reserved text)) is).0
plain_name_short lexeme is = cc

session_name_short : (name : Bytes) (u : List PlacedLexeme) → SpellsName name u → is_short name ≡ true
session_name_short name u (front, behind, said, x, s, (token, fit, e, cut), p, is) =
    subst (λ (text : Bytes). is_short text ≡ true) (sym (is ∙ e)) (plain_name_short token.lexeme fit)

one_session_name : (session : SessionText) (u : List PlacedLexeme) → SpellsSession session u → is_short session.name ≡ true
one_session_name session u (front, behind, name, xs, s, each, e, is) =
    subst (λ (x : SessionText). is_short x.name ≡ true) (sym is) (session_name_short name front s)

session_names_short : (sessions : List SessionText) (u : List PlacedLexeme) → SpellsSessions sessions u → AreShortNames (names_of sessions)
session_names_short [] u s = refl
session_names_short (session ∷ sessions) u (front, behind, s, each, e) =
    and_from (is_short session.name) (list_all is_short (names_of sessions)) (one_session_name session front s) (session_names_short sessions behind each)

sessions_words_if : (fewer : Bool) → are_short_kinds (heads (if fewer then [] else record { words = Heading Session ∷ []; fault = limit (codes "more than 16 sessions") } ∷ [])) ≡ true
sessions_words_if true = refl
sessions_words_if false = refl

sessions_words : (sessions : ℕ) → are_short_kinds (heads (refused_sessions sessions)) ≡ true
sessions_words sessions = sessions_words_if (nat_lt sessions session_limit)

session_barred_short : (statements : ℕ) (names : List Bytes) → AreShortNames names → BarsShort (BarsSession statements names)
session_barred_short statements names short u token rest fault (inl (inl (inl bar))) = absurd bar
session_barred_short statements names short u token rest fault (inl (inl (inr bar))) =
    let here = bar.5 in refusals_short (refused_names names) token rest fault (names_short names short) (names_have_words names) here.1
session_barred_short statements names short u token rest fault (inl (inr bar)) = statements_barred_short in_session session_fits short_session statements bar.1 token rest fault bar.5
session_barred_short statements names short u token rest fault (inr here) =
    refusals_short (refused_sessions (length names)) token rest fault (sessions_words (length names))
    (sessions_repeat (record { statements = statements; names = names })).worded here.1

-- the first token of what is refused in a script is short
pub script_barred_short : BarsShort BarsScript
script_barred_short u token rest fault (inl bar) = setup_barred_short u token rest fault bar
script_barred_short u token rest fault (inr (front, behind, setup, s, e, (before, last, sessions, h, d, bar))) =
    session_barred_short (length setup + statements_in sessions) (names_of sessions) (session_names_short sessions before h) last token rest fault bar
