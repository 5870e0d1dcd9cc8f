-- The sessions of a script are read again from their lines.
use Rattle.std.proofs.Common.{◌≡◌, ℕ, suc, ◌≤◌, ◌+◌, Bool, true, false, ◌&&◌, List, [], ◌∷◌, ◌++◌, length, flat_map, map, Option, Some, None, inl, refl, sym, ap, ap₂, ◌∙◌, subst, arith, if◌then◌else◌, length-append}
use Rattle.std.proofs.lemmas.List.{length-map}
use Rattle.std.specs.Prelude.{nat_lt, codes, ◌||◌}
use Rattle.aq_base.specs.Names.{Text as Bytes}
use Rattle.aq_base.specs.declared.script.Placed.{Placed}
use Rattle.aq_base.specs.declared.script.SessionText.{SessionText}
use Rattle.aq_lex.specs.declared.token.Directive.TheVariants.{Session, Schedule}
use Rattle.aq_lex.specs.Lexemes.{PlacedLexeme, Lexeme, Word, QuotedName, Integer, Text, Symbol, Directive, is_word}
use Rattle.aq_grammar.specs.Terminals.{Terminal, Heading, PlainName, fits, begins, is_plain_name, text_of, lexeme_text}
use Rattle.aq_grammar.specs.Rules.{Refusal, refused}
use Rattle.aq_grammar.specs.Reading.{Outcome, Read, Stop, Syntax, Reader, stop_or, read_unless, read_token}
use Rattle.aq_grammar.specs.Forms.{limit}
use Rattle.aq_grammar.specs.Nonterminals.{reads}
use Rattle.aq_grammar.proofs.Languages.{rest_of}
use Rattle.aq_script.specs.Sections.{in_session, heading, session_name, SpellsSession, SpellsSessions, session_limit, refused_sessions, refused_names, repeated_name}
use Rattle.aq_script.specs.Parsing.{Before, and_session, read_all_statements, read_name, read_session, read_all_sessions}
use Rattle.aq_script.proofs.Sections.{session_right}
use Rattle.aq_texts.specs.Written.{Written, Name, Heading as Heading_token, is_bare}
use Rattle.aq_forms.proofs.Sound.{IsSound, HasText, HaveTexts}
use Rattle.aq_forms.proofs.Laid.{lexeme_of, laid}
use Rattle.aq_forms.proofs.Free.{ReadsOrLimit}
use Rattle.aq_forms.proofs.Names.{plain_named, name_text_is, bare_lexeme, plain_lexeme}
use Rattle.aq_canon.specs.Same.{statement_alone, session_alone}
use Rattle.aq_canon.proofs.Outcomes.{both_parts, both_again}
use Rattle.aq_canon.proofs.Repeated.{IsAgain, AreSameEach, each_again, stop_parts}
use Rattle.aq_canon.proofs.Statements.{AreReadAgain, HeadingNext, AtEnd, AtSession, AtSchedule, placed_tokens, EachSound, statements_again, session_ends_free, texts_behind, laid_length}
use Rattle.aq_script.proofs.ReadStatements.{section_fits}
use Rattle.aq_parse.specs.declared.statements.Place.TheVariants as places

-- a schedule, or the end
pub data ScheduleNext : List PlacedLexeme → Type 0 where
  Ends : ScheduleNext []
  Schedules : (line : ℕ) (others : List PlacedLexeme) → ScheduleNext (record { line = line; lexeme = Directive Schedule } ∷ others)

heading_next : (rest : List PlacedLexeme) → ScheduleNext rest → HeadingNext rest
heading_next [] Ends = AtEnd
heading_next rest (Schedules line others) = AtSchedule line others

abbrev pub session_tokens : SessionText → List Written
session_tokens session = Heading_token Session ∷ Name session.name ∷ flat_map placed_tokens session.statements

abbrev pub SameSession : SessionText → SessionText → Type 0
SameSession a b = (session_alone a ≡ session_alone b) × IsSound (lexeme_of (Name b.name)) × EachSound b.statements

-- the tokens of each can be printed
abbrev pub EachSoundSession : List SessionText → Type 0
EachSoundSession [] = Unit {0}
EachSoundSession (x ∷ xs) = (IsSound (lexeme_of (Name x.name)) × EachSound x.statements) × EachSoundSession xs

-- a token that is read
pub token_parts : {A : Type 0} (kind : Terminal) (f : PlacedLexeme → A) (tokens rest : List PlacedLexeme) (x : A) → read_token kind f tokens ≡ Read x rest
    → (token : PlacedLexeme) × (tokens ≡ token ∷ rest) × (fits kind token ≡ true) × (x ≡ f token)
token_parts kind f [] rest x e = cc
token_parts {A} kind f (token ∷ tokens) rest x e = by_test (fits kind token) refl e
  where
    Parts : Type 0
    Parts = (found : PlacedLexeme) × (token ∷ tokens ≡ found ∷ rest) × (fits kind found ≡ true) × (x ≡ f found)

    by_test : (test : Bool) → fits kind token ≡ test → (if test then Read (f token) tokens else Stop Syntax (token ∷ tokens)) ≡ Read x rest → Parts
    by_test true fit e =
        let same : tokens ≡ rest = cc in
        let value : x ≡ f token = cc in
        (token, ap (λ (u : List PlacedLexeme). token ∷ u) same, fit, value)
    by_test false fit e = cc

-- names of sessions are told by the first lexeme alone
names_told : (names : List Bytes) (token other : PlacedLexeme) (rest others : List PlacedLexeme) → token.lexeme ≡ other.lexeme
    → refused (refused_names names) (token ∷ rest) ≡ refused (refused_names names) (other ∷ others)
names_told [] token other rest others e = refl
names_told (name ∷ names) token other rest others e =
    ap₂ (λ (lexeme : Lexeme) (last : Option _). if is_word name lexeme && true then Some (repeated_name name) else last) e (names_told names token other rest others e)

plain_sound : (lexeme : Lexeme) → is_plain_name lexeme ≡ true → HasText lexeme → IsSound lexeme
plain_sound (Word text) e has = has
plain_sound (QuotedName text) e has = cc
plain_sound (Integer number) e has = cc
plain_sound (Text text) e has = cc
plain_sound (Symbol symbol) e has = cc
plain_sound (Directive directive) e has = cc

-- one session more may begin
no_limit : (test : Bool) (line other : ℕ) (rest others : List PlacedLexeme) (tokens : List PlacedLexeme)
    → begins (Heading Session ∷ []) tokens ≡ true
    → refused (if test then [] else record { words = Heading Session ∷ []; fault = limit (codes "more than 16 sessions") } ∷ []) tokens ≡ None
    → refused (if test then [] else record { words = Heading Session ∷ []; fault = limit (codes "more than 16 sessions") } ∷ []) (record { line = other; lexeme = Directive Session } ∷ others) ≡ None
no_limit true line other rest others tokens begun none = refl
no_limit false line other rest others [] begun none = cc
no_limit false line other rest others (token ∷ tokens) begun none = absurd (by_test (fits (Heading Session) token) begun none)
  where
    by_test : (test : Bool) → (test || false) ≡ true
        → (if test && true then Some (limit (codes "more than 16 sessions")) else None) ≡ None → ⊥
    by_test true begun none = cc
    by_test false begun none = cc

module _ (again : AreReadAgain in_session) where
  abbrev session_refusals : Before → List Refusal
  session_refusals before = refused_sessions (length before.names)

  abbrev session_reader : Before → Reader SessionText
  session_reader before = read_session before.statements before.names

  abbrev IsSessionAgain : Before → SessionText → List PlacedLexeme → List PlacedLexeme → Type 0
  IsSessionAgain = IsAgain (Heading Session ∷ []) session_refusals session_reader and_session SpellsSession session_tokens SameSession HeadingNext ScheduleNext

  session_texts : (state : Before) (tokens rest : List PlacedLexeme) (x : SessionText) → HaveTexts tokens → session_reader state tokens ≡ Read x rest → HaveTexts rest
  session_texts state tokens rest x texts read =
      let right = session_right state.statements state.names tokens in
      texts_behind right.front rest tokens (right.whole ∙ ap (λ (o : Outcome SessionText). right.front ++ rest_of o) read) texts

  -- what a session was read from
  record SessionParts (state : Before) (x : SessionText) (tokens middle : List PlacedLexeme) : Type 0 where
    name_token : PlacedLexeme
    behind_name : List PlacedLexeme
    is_plain : fits PlainName name_token ≡ true
    is_name : x.name ≡ text_of name_token
    has_text : HasText name_token.lexeme
    texts : HaveTexts behind_name
    new_name : refused (refused_names state.names) (name_token ∷ behind_name) ≡ None
    statements : read_all_statements in_session state.statements behind_name ≡ Read x.statements middle

  session_parts : (state : Before) (x : SessionText) (tokens middle : List PlacedLexeme) → HaveTexts tokens → session_reader state tokens ≡ Read x middle → SessionParts state x tokens middle
  session_parts state x tokens middle texts read =
      let (name, found, behind_name, name_read, statements_read, whole) =
      both_parts (λ name found. record { name = name; statements = found }) (read_name state.names) (λ name. read_all_statements in_session state.statements) tokens middle x read in
      let (said, name', behind_heading, heading_read, plain_read, name_whole) =
      both_parts (λ said name. name) (reads (heading Session)) (λ said. read_unless (refused_names state.names) (reads session_name)) tokens behind_name name name_read in
      let (heading_token, heading_whole, heading_fit, heading_value) = token_parts (Heading Session) (λ token. tt) tokens behind_heading said heading_read in
      let unless = stop_parts (refused (refused_names state.names) behind_heading) behind_heading (reads session_name behind_heading) name' behind_name plain_read in
      let (name_token, name_tokens, fit, value) = token_parts PlainName text_of behind_heading behind_name name' unless.1 in
      let all_texts : HaveTexts (heading_token ∷ name_token ∷ behind_name) =
      subst HaveTexts (heading_whole ∙ ap (λ (u : List PlacedLexeme). heading_token ∷ u) name_tokens) texts in
      record {
        name_token = name_token;
        behind_name = behind_name;
        is_plain = fit;
        is_name = ap (λ (session : SessionText). session.name) whole ∙ name_whole ∙ value;
        has_text = all_texts.1.0;
        texts = all_texts.1.1;
        new_name = ap (λ (u : List PlacedLexeme). refused (refused_names state.names) u) (sym name_tokens) ∙ unless.0;
        statements = statements_read ∙ ap (λ (session : SessionText). Read session.statements middle) (sym whole);
      }

  abbrev heading_at : ℕ → PlacedLexeme
  heading_at line = record { line = line; lexeme = Directive Session }

  abbrev name_at : ℕ → Bytes → PlacedLexeme
  name_at line name = record { line = line; lexeme = lexeme_of (Name name) }

  session_again : (state : Before) (x : SessionText) (tokens middle : List PlacedLexeme) → HaveTexts tokens → refused (session_refusals state) tokens ≡ None
      → begins (Heading Session ∷ []) tokens ≡ true → session_reader state tokens ≡ Read x middle → (lines : ℕ → ℕ) (at : ℕ) (rest : List PlacedLexeme) → HeadingNext rest
      → IsSessionAgain state x (laid lines at (session_tokens x)) rest
  session_again state x tokens middle texts none begun read lines at rest behind =
      let parts = session_parts state x tokens middle texts read in
      let token = parts.name_token in
      let are =
      statements_again in_session (section_fits places.Session) again session_ends_free state.statements parts.behind_name middle x.statements parts.texts parts.statements lines (suc (suc at)) rest
      behind in
      let named = plain_named token parts.is_plain (plain_sound token.lexeme parts.is_plain parts.has_text) in
      let bare : is_bare x.name ≡ true = ap is_bare parts.is_name ∙ named.1 in
      let name_is : lexeme_of (Name x.name) ≡ token.lexeme = bare_lexeme x.name bare ∙ ap Word parts.is_name ∙ sym (plain_lexeme token.lexeme parts.is_plain) in
      let plain : is_plain_name (lexeme_of (Name x.name)) ≡ true = ap is_plain_name name_is ∙ parts.is_plain in
      let found : SessionText = record { name = x.name; statements = are.found } in
      let behind_name = laid lines (suc (suc at)) (flat_map placed_tokens x.statements) ++ rest in
      record {
        free = no_limit (nat_lt (length state.names) session_limit) (lines at) (lines at) (name_at (lines (suc at)) x.name ∷ behind_name) (name_at (lines (suc at)) x.name ∷ behind_name) tokens begun none;
        begun = refl;
        found = found;
        same = (
          ap (λ (statements : List Placed). record { name = x.name; statements = statements }) are.same,
          subst IsSound (sym name_is) (plain_sound token.lexeme parts.is_plain parts.has_text),
          are.sound,
        );
        next_same =
            ap (λ (count : ℕ). record { statements = state.statements + count; names = state.names ++ x.name ∷ [] })
            (sym (length-map are.found statement_alone) ∙ ap (λ (xs : List Placed). length xs) are.same ∙ length-map x.statements statement_alone);
        spelled = (
          heading_at (lines at) ∷ name_at (lines (suc at)) x.name ∷ [],
          laid lines (suc (suc at)) (flat_map placed_tokens x.statements),
          x.name,
          are.found,
          (
            heading_at (lines at) ∷ [],
            name_at (lines (suc at)) x.name ∷ [],
            tt,
            x.name,
            (heading_at (lines at), refl, refl, refl),
            (name_at (lines (suc at)) x.name, plain, sym (name_text_is x.name), refl),
            refl,
            refl,
          ),
          are.spelled,
          refl,
          refl,
        );
        read =
            both_again (λ name found. record { name = name; statements = found }) (read_name state.names) (λ name. read_all_statements in_session state.statements)
            (heading_at (lines at) ∷ name_at (lines (suc at)) x.name ∷ behind_name) behind_name rest x.name are.found
            (both_again (λ said name. name) (reads (heading Session)) (λ said. read_unless (refused_names state.names) (reads session_name))
            (heading_at (lines at) ∷ name_at (lines (suc at)) x.name ∷ behind_name) (name_at (lines (suc at)) x.name ∷ behind_name) behind_name tt x.name (inl refl)
            (inl (name_again state x.name (lines (suc at)) behind_name
            (names_told state.names (name_at (lines (suc at)) x.name) token behind_name parts.behind_name name_is ∙ parts.new_name) plain))) are.read;
      }
    where
      name_again : (state : Before) (name : Bytes) (line : ℕ) (behind : List PlacedLexeme) → refused (refused_names state.names) (name_at line name ∷ behind) ≡ None
          → is_plain_name (lexeme_of (Name name)) ≡ true → read_unless (refused_names state.names) (reads session_name) (name_at line name ∷ behind) ≡ Read name behind
      name_again state name line behind none plain =
          ap (λ (fault : Option _). stop_or fault (name_at line name ∷ behind) (reads session_name (name_at line name ∷ behind))) none
          ∙ ap (λ (test : Bool). if test then Read (lexeme_text (lexeme_of (Name name))) behind else Stop Syntax (name_at line name ∷ behind)) plain
          ∙ ap (λ (text : Bytes). Read text behind) (name_text_is name)

  pub record SessionsAgain (statements : ℕ) (xs : List SessionText) (tokens rest : List PlacedLexeme) : Type 0 where
    pub found : List SessionText
    pub same : map session_alone found ≡ map session_alone xs
    pub sound : EachSoundSession xs
    pub spelled : SpellsSessions found tokens
    pub read : ReadsOrLimit (read_all_sessions statements (tokens ++ rest)) found rest

  -- each session has a token
  session_count : (xs : List SessionText) → length xs ≤ length (flat_map session_tokens xs)
  session_count [] = omega arith
  session_count (x ∷ xs) =
      let others = session_count xs in
      omega (arith, others, length-append (session_tokens x) (flat_map session_tokens xs))

  pub sessions_again : (statements : ℕ) (tokens last : List PlacedLexeme) (xs : List SessionText) → HaveTexts tokens → read_all_sessions statements tokens ≡ Read xs last
      → (lines : ℕ → ℕ) (at : ℕ) (rest : List PlacedLexeme) → ScheduleNext rest → SessionsAgain statements xs (laid lines at (flat_map session_tokens xs)) rest
  sessions_again statements tokens last xs texts read lines at rest behind =
      let size = length (laid lines at (flat_map session_tokens xs) ++ rest) in
      let first : Before = record { statements = statements; names = [] } in
      let are =
      each_again (Heading Session ∷ []) session_refusals session_reader and_session SpellsSession session_tokens SameSession HeadingNext ScheduleNext
      (λ before tokens rest x texts read. session_texts before tokens rest x texts read) session_again (λ x lines at rest. AtSession (lines at) _) heading_next sessions_end (length tokens) first tokens last
      xs texts read size
      (omega (arith, session_count xs, laid_length lines at (flat_map session_tokens xs), length-append (laid lines at (flat_map session_tokens xs)) rest)) lines at rest behind in
      record { found = are.found; same = same_each are.found xs are.same; sound = sound_each are.found xs are.same; spelled = are.spelled; read = are.read }
    where
      AreSameSessions : List SessionText → List SessionText → Type 0
      AreSameSessions = AreSameEach (Heading Session ∷ []) session_refusals session_reader and_session SpellsSession session_tokens SameSession HeadingNext ScheduleNext

      sound_each : (found xs : List SessionText) → AreSameSessions found xs → EachSoundSession xs
      sound_each [] [] same = tt
      sound_each [] (x ∷ xs) same = absurd same
      sound_each (x ∷ found) [] same = absurd same
      sound_each (x ∷ found) (y ∷ xs) same = ((same.0.1, same.0.2), sound_each found xs same.1)

      sessions_end : (before : Before) (rest : List PlacedLexeme) → ScheduleNext rest → (refused (session_refusals before) rest ≡ None) × (begins (Heading Session ∷ []) rest ≡ false)
      sessions_end before [] Ends = (by_test (nat_lt (length before.names) session_limit), refl)
        where
          by_test : (test : Bool) → refused (if test then [] else record { words = Heading Session ∷ []; fault = limit (codes "more than 16 sessions") } ∷ []) [] ≡ None
          by_test true = refl
          by_test false = refl
      sessions_end before rest (Schedules line others) = (by_test (nat_lt (length before.names) session_limit), refl)
        where
          by_test : (test : Bool) → refused (if test then [] else record { words = Heading Session ∷ []; fault = limit (codes "more than 16 sessions") } ∷ []) rest ≡ None
          by_test true = refl
          by_test false = refl

      same_each : (found xs : List SessionText) → AreSameSessions found xs → map session_alone found ≡ map session_alone xs
      same_each [] [] same = refl
      same_each [] (x ∷ xs) same = absurd same
      same_each (x ∷ found) [] same = absurd same
      same_each (x ∷ found) (y ∷ xs) same = ap₂ (λ (z : SessionText) (zs : List SessionText). z ∷ zs) same.0.0 (same_each found xs same.1)
