-- A script is read again from its canonical text.
use Rattle.std.proofs.Common.{◌≡◌, ℕ, suc, true, false, List, [], ◌∷◌, ◌++◌, length, flat_map, map, Option, Some, None, inl, inr, refl, sym, ap, ap₂, ◌∙◌, subst, ◌⊎◌, append_assoc}
use Rattle.std.proofs.lemmas.List.{append-nil, length-map}
use Rattle.aq_base.specs.declared.script.Placed.{Placed}
use Rattle.aq_base.specs.declared.script.SessionText.{SessionText}
use Rattle.aq_base.specs.declared.script.Item.{Item}
use Rattle.aq_base.specs.declared.script.Script.{Script}
use Rattle.aq_lex.specs.declared.token.Directive.TheVariants.{Setup, Session, Schedule}
use Rattle.aq_lex.specs.Lexemes.{PlacedLexeme, Directive}
use Rattle.aq_grammar.specs.Terminals.{Heading, begins}
use Rattle.aq_grammar.specs.Reading.{Outcome, Read, read_both}
use Rattle.aq_grammar.specs.Nonterminals.{reads}
use Rattle.aq_grammar.proofs.Languages.{rest_of}
use Rattle.aq_script.specs.Sections.{in_setup, in_session, heading, schedule, script_of, SpellsSetup, SpellsScript}
use Rattle.aq_script.specs.Parsing.{read_all_statements, read_setup, read_all_sessions, read_script}
use Rattle.aq_script.proofs.Sections.{setup_right}
use Rattle.aq_script.proofs.Scripts.{sessions_right}
use Rattle.aq_script.proofs.ReadStatements.{section_fits}
use Rattle.aq_parse.specs.declared.statements.Place.TheVariants as places
use Rattle.aq_texts.specs.Written.{Written, Name, Heading as Heading_token}
use Rattle.aq_texts.specs.Canon.{item, placed_lines, setup_lines, session_lines, schedule_lines, script_lines}
use Rattle.aq_forms.proofs.Sound.{HaveTexts}
use Rattle.aq_forms.proofs.Laid.{laid, past, laid_append}
use Rattle.aq_forms.proofs.Free.{ReadsOrLimit}
use Rattle.aq_forms.proofs.PrintedLines.{IsLine, Plain, Headed, AllLines, AllSound, are_sound}
use Rattle.aq_canon.specs.Same.{statement_alone, AreSame}
use Rattle.aq_canon.proofs.Outcomes.{both_parts, both_again}
use Rattle.aq_canon.proofs.Repeated.{choice_parts}
use Rattle.aq_canon.proofs.Statements.{AreReadAgain, HeadingNext, AtEnd, AtSession, AtSchedule, placed_tokens, EachSound, statements_again, setup_ends_free, texts_behind}
use Rattle.aq_canon.proofs.Sessions.{ScheduleNext, Ends, Schedules, session_tokens, EachSoundSession, sessions_again, token_parts}
use Rattle.aq_canon.proofs.Schedules.{schedule_tokens, IsSoundSchedule, schedule_again}

-- ---- the tokens of a script

abbrev pub setup_tokens : List Placed → List Written
setup_tokens [] = []
setup_tokens (first ∷ others) = Heading_token Setup ∷ flat_map placed_tokens (first ∷ others)

abbrev pub script_tokens : Script → List Written
script_tokens script = setup_tokens script.setup ++ (flat_map session_tokens script.sessions ++ schedule_tokens script.schedule)

abbrev pub all_tokens : List (List Written) → List Written
all_tokens lines = flat_map (λ (tokens : List Written). tokens) lines

tokens_append : (a b : List (List Written)) → all_tokens (a ++ b) ≡ all_tokens a ++ all_tokens b
tokens_append [] b = refl
tokens_append (line ∷ a) b = ap (λ (u : List Written). line ++ u) (tokens_append a b) ∙ sym (append_assoc line (all_tokens a) (all_tokens b))

placed_is : (xs : List Placed) → all_tokens (placed_lines xs) ≡ flat_map placed_tokens xs
placed_is [] = refl
placed_is (x ∷ xs) = ap (λ (u : List Written). placed_tokens x ++ u) (placed_is xs)

setup_is : (xs : List Placed) → all_tokens (setup_lines xs) ≡ setup_tokens xs
setup_is [] = refl
setup_is (x ∷ xs) = ap (λ (u : List Written). Heading_token Setup ∷ u) (placed_is (x ∷ xs))

session_is : (x : SessionText) → all_tokens (session_lines x) ≡ session_tokens x
session_is x = ap (λ (u : List Written). Heading_token Session ∷ Name x.name ∷ u) (placed_is x.statements)

sessions_are : (xs : List SessionText) → all_tokens (flat_map session_lines xs) ≡ flat_map session_tokens xs
sessions_are [] = refl
sessions_are (x ∷ xs) = tokens_append (session_lines x) (flat_map session_lines xs) ∙ ap₂ (λ (a b : List Written). a ++ b) (session_is x) (sessions_are xs)

schedule_is : (found : Option (List Item)) → all_tokens (schedule_lines found) ≡ schedule_tokens found
schedule_is None = refl
schedule_is (Some found) = append-nil (schedule_tokens (Some found))

-- the tokens of a script's lines
pub tokens_are : (script : Script) → all_tokens (script_lines script) ≡ script_tokens script
tokens_are script =
    tokens_append (setup_lines script.setup) (flat_map session_lines script.sessions ++ schedule_lines script.schedule)
    ∙ ap₂ (λ (a b : List Written). a ++ b) (setup_is script.setup)
    (tokens_append (flat_map session_lines script.sessions) (schedule_lines script.schedule)
    ∙ ap₂ (λ (a b : List Written). a ++ b) (sessions_are script.sessions) (schedule_is script.schedule))

-- ---- lines of tokens that can be printed

lines_append : (a b : List (List Written)) → AllLines a → AllLines b → AllLines (a ++ b)
lines_append [] b first second = second
lines_append (line ∷ a) b first second = (first.0, lines_append a b first.1 second)

plain_line : (tokens : List Written) → AllSound tokens → IsLine tokens
plain_line tokens sound = Plain tokens (are_sound (λ n. 0) 0 tokens sound)

placed_sound : (xs : List Placed) → EachSound xs → AllLines (placed_lines xs)
placed_sound [] sound = tt
placed_sound (x ∷ xs) sound = (plain_line (placed_tokens x) sound.0, placed_sound xs sound.1)

setup_sound : (xs : List Placed) → EachSound xs → AllLines (setup_lines xs)
setup_sound [] sound = tt
setup_sound (x ∷ xs) sound = (Headed Setup [] tt, placed_sound (x ∷ xs) sound)

sessions_sound : (xs : List SessionText) → EachSoundSession xs → AllLines (flat_map session_lines xs)
sessions_sound [] sound = tt
sessions_sound (x ∷ xs) sound =
    lines_append (session_lines x) (flat_map session_lines xs) (Headed Session (Name x.name ∷ []) (sound.0.0, tt), placed_sound x.statements sound.0.1) (sessions_sound xs sound.1)

schedule_sound : (found : Option (List Item)) → IsSoundSchedule found → AllLines (schedule_lines found)
schedule_sound None sound = tt
schedule_sound (Some found) sound = (Headed Schedule (flat_map item found) (are_sound (λ n. 0) 0 (flat_map item found) sound), tt)

lines_sound : (script : Script) → EachSound script.setup → EachSoundSession script.sessions → IsSoundSchedule script.schedule → AllLines (script_lines script)
lines_sound script setup sessions schedule =
    lines_append (setup_lines script.setup) (flat_map session_lines script.sessions ++ schedule_lines script.schedule) (setup_sound script.setup setup)
    (lines_append (flat_map session_lines script.sessions) (schedule_lines script.schedule) (sessions_sound script.sessions sessions) (schedule_sound script.schedule schedule))

-- ---- the setup

pub record SetupAgain (xs : List Placed) (tokens rest : List PlacedLexeme) : Type 0 where
  pub found : List Placed
  pub same : map statement_alone found ≡ map statement_alone xs
  pub sound : EachSound xs
  pub spelled : SpellsSetup found tokens
  pub read : ReadsOrLimit (read_setup (tokens ++ rest)) found rest

no_setup : (rest : List PlacedLexeme) → HeadingNext rest → read_setup rest ≡ Read [] rest
no_setup [] AtEnd = refl
no_setup rest (AtSession line others) = refl
no_setup rest (AtSchedule line others) = refl

module _ (setup : AreReadAgain in_setup) where
  some_setup : (first : Placed) (others : List Placed) (tokens last : List PlacedLexeme) → HaveTexts tokens → read_all_statements in_setup 0 tokens ≡ Read (first ∷ others) last
      → (lines : ℕ → ℕ) (at : ℕ) (rest : List PlacedLexeme) → HeadingNext rest → SetupAgain (first ∷ others) (laid lines at (setup_tokens (first ∷ others))) rest
  some_setup first others tokens last texts read lines at rest behind =
      let are = statements_again in_setup (section_fits places.Setup) setup setup_ends_free 0 tokens last (first ∷ others) texts read lines (suc at) rest behind in
      let title : PlacedLexeme = record { line = lines at; lexeme = Directive Setup } in
      let statements = laid lines (suc at) (flat_map placed_tokens (first ∷ others)) in
      record {
        found = are.found;
        same = are.same;
        sound = are.sound;
        spelled = inr (title ∷ [], statements, tt, are.found, (title, refl, refl, refl), are.spelled, refl, refl);
        read =
            both_again (λ (said : Unit {0}) (found : List Placed). found) (reads (heading Setup)) (λ said. read_all_statements in_setup 0) (title ∷ statements ++ rest) (statements ++ rest) rest tt
            are.found (inl refl) are.read;
      }

  pub setup_again : (tokens last : List PlacedLexeme) (xs : List Placed) → HaveTexts tokens → read_setup tokens ≡ Read xs last → (lines : ℕ → ℕ) (at : ℕ) (rest : List PlacedLexeme)
      → HeadingNext rest → SetupAgain xs (laid lines at (setup_tokens xs)) rest
  setup_again tokens last [] texts read lines at rest behind = record { found = []; same = refl; sound = tt; spelled = inl (refl, refl); read = inl (no_setup rest behind) }
  setup_again tokens last (first ∷ others) texts read lines at rest behind =
      by_choice
      (choice_parts (begins (Heading Setup ∷ []) tokens) (read_both (λ (said : Unit {0}) (found : List Placed). found) (reads (heading Setup)) (λ said. read_all_statements in_setup 0) tokens)
      (Read [] tokens) (first ∷ others) last read)
    where
      by_choice :
          ((begins (Heading Setup ∷ []) tokens ≡ true)
          × (read_both (λ (said : Unit {0}) (found : List Placed). found) (reads (heading Setup)) (λ said. read_all_statements in_setup 0) tokens ≡ Read (first ∷ others) last))
          ⊎ ((begins (Heading Setup ∷ []) tokens ≡ false) × (◌≡◌ {A = Outcome (List Placed)} (Read [] tokens) (Read (first ∷ others) last)))
          → SetupAgain (first ∷ others) (laid lines at (setup_tokens (first ∷ others))) rest
      by_choice (inl (begun, said)) =
          let (title, found, behind_title, title_read, found_read, whole) =
          both_parts (λ (said : Unit {0}) (found : List Placed). found) (reads (heading Setup)) (λ said. read_all_statements in_setup 0) tokens last (first ∷ others) said in
          let (token, tokens_are, fit, value) = token_parts (Heading Setup) (λ token. tt) tokens behind_title title title_read in
          let texts_left : HaveTexts (token ∷ behind_title) = subst HaveTexts tokens_are texts in
          some_setup first others behind_title last texts_left.1 (found_read ∙ ap (λ (xs : List Placed). Read xs last) (sym whole)) lines at rest behind
      by_choice (inr (ended, said)) = cc

  -- ---- all of it

  module _ (session : AreReadAgain in_session) where
    pub record ScriptAgain (script : Script) (tokens : List PlacedLexeme) : Type 0 where
      pub found : Script
      pub same : AreSame found script
      pub lines : AllLines (script_lines script)
      pub spelled : SpellsScript found tokens
      pub read : ReadsOrLimit (read_script tokens) found []

    schedule_next : (found : Option (List Item)) (lines : ℕ → ℕ) (at : ℕ) → ScheduleNext (laid lines at (schedule_tokens found))
    schedule_next None lines at = Ends
    schedule_next (Some found) lines at = Schedules (lines at) _

    sessions_next : (xs : List SessionText) (found : Option (List Item)) (lines : ℕ → ℕ) (at more : ℕ)
        → HeadingNext (laid lines at (flat_map session_tokens xs) ++ laid lines more (schedule_tokens found))
    sessions_next [] None lines at more = AtEnd
    sessions_next [] (Some found) lines at more = AtSchedule (lines more) _
    sessions_next (x ∷ xs) found lines at more = AtSession (lines at) _

    script_again_by : (tokens behind behind_sessions : List PlacedLexeme) (script : Script) → HaveTexts tokens → read_setup tokens ≡ Read script.setup behind
        → read_all_sessions (length script.setup) behind ≡ Read script.sessions behind_sessions → reads schedule behind_sessions ≡ Read script.schedule [] → (lines : ℕ → ℕ)
        → ScriptAgain script (laid lines 0 (script_tokens script))
    script_again_by tokens behind behind_sessions script texts setup_read sessions_read schedule_read lines =
        let at_sessions = past 0 (setup_tokens script.setup) in
        let at_schedule = past at_sessions (flat_map session_tokens script.sessions) in
        let first = laid lines 0 (setup_tokens script.setup) in
        let second = laid lines at_sessions (flat_map session_tokens script.sessions) in
        let third = laid lines at_schedule (schedule_tokens script.schedule) in
        let setup_is_right = setup_right tokens in
        let texts_left = texts_behind setup_is_right.front behind tokens (setup_is_right.whole ∙ ap (λ (o : Outcome (List Placed)). setup_is_right.front ++ rest_of o) setup_read) texts in
        let sessions_are_right = sessions_right (length script.setup) behind in
        let texts_last =
        texts_behind sessions_are_right.front behind_sessions behind
        (sessions_are_right.whole ∙ ap (λ (o : Outcome (List SessionText)). sessions_are_right.front ++ rest_of o) sessions_read) texts_left in
        let setup_is = setup_again tokens behind script.setup texts setup_read lines 0 (second ++ third) (sessions_next script.sessions script.schedule lines at_sessions at_schedule) in
        let sessions_is =
        sessions_again session (length script.setup) behind behind_sessions script.sessions texts_left sessions_read lines at_sessions third (schedule_next script.schedule lines at_schedule) in
        let schedule_is = schedule_again behind_sessions script.schedule texts_last schedule_read lines at_schedule in
        let count : length setup_is.found ≡ length script.setup =
        sym (length-map setup_is.found statement_alone) ∙ ap (λ (xs : List Placed). length xs) setup_is.same ∙ length-map script.setup statement_alone in
        let laid_is : laid lines 0 (script_tokens script) ≡ first ++ (second ++ third) =
        laid_append lines 0 (setup_tokens script.setup) (flat_map session_tokens script.sessions ++ schedule_tokens script.schedule)
        ∙ ap (λ (u : List PlacedLexeme). first ++ u) (laid_append lines at_sessions (flat_map session_tokens script.sessions) (schedule_tokens script.schedule)) in
        subst (λ (u : List PlacedLexeme). ScriptAgain script u) (sym laid_is)
        (record {
          found = record { setup = setup_is.found; sessions = sessions_is.found; schedule = script.schedule };
          same =
              ap₂ (λ (setup : List Placed) (sessions : List SessionText). record { setup = setup; sessions = sessions; schedule = script.schedule }) setup_is.same sessions_is.same;
          lines = lines_sound script setup_is.sound sessions_is.sound schedule_is.sound;
          spelled = (
            first,
            second ++ third,
            setup_is.found,
            (sessions_is.found, script.schedule),
            setup_is.spelled,
            (second, third, sessions_is.found, script.schedule, sessions_is.spelled, schedule_is.spelled, refl, refl),
            refl,
            refl,
          );
          read =
              both_again script_of read_setup
              (λ setup. read_both (λ (sessions : List SessionText) (items : Option (List Item)). (sessions, items)) (read_all_sessions (length setup)) (λ sessions. reads schedule))
              (first ++ (second ++ third)) (second ++ third) [] setup_is.found (sessions_is.found, script.schedule) setup_is.read
              (subst
              (λ (n : ℕ). ReadsOrLimit {A = List SessionText × Option (List Item)}
              (read_both (λ (sessions : List SessionText) (items : Option (List Item)). (sessions, items)) (read_all_sessions n) (λ sessions. reads schedule) (second ++ third))
              (sessions_is.found, script.schedule) [])
              (sym count)
              (both_again (λ (sessions : List SessionText) (items : Option (List Item)). (sessions, items)) (read_all_sessions (length script.setup)) (λ sessions. reads schedule)
              (second ++ third) third [] sessions_is.found script.schedule sessions_is.read schedule_is.read));
        })

    pub script_again : (tokens : List PlacedLexeme) (script : Script) → HaveTexts tokens → read_script tokens ≡ Read script [] → (lines : ℕ → ℕ)
        → ScriptAgain script (laid lines 0 (script_tokens script))
    script_again tokens script texts read lines =
        let (setup_found, behind_setup, behind, setup_read, others_read, whole) =
        both_parts script_of read_setup (λ setup. read_both (λ (sessions : List SessionText) (items : Option (List Item)). (sessions, items)) (read_all_sessions (length setup)) (λ sessions. reads schedule))
        tokens [] script read in
        let (sessions_found, schedule_found, behind_sessions, sessions_read, schedule_read, others_whole) =
        both_parts (λ (sessions : List SessionText) (items : Option (List Item)). (sessions, items)) (read_all_sessions (length setup_found)) (λ sessions. reads schedule) behind [] behind_setup others_read in
        let found : Script = record { setup = setup_found; sessions = sessions_found; schedule = schedule_found } in
        let same : script ≡ found = whole ∙ ap (λ (others : List SessionText × Option (List Item)). script_of setup_found others) others_whole in
        subst (λ (s : Script). ScriptAgain s (laid lines 0 (script_tokens s))) (sym same)
        (script_again_by tokens behind behind_sessions found texts setup_read sessions_read schedule_read lines)
