-- The statements of a section are read again from their lines.
use Rattle.std.proofs.Common.{◌≡◌, ℕ, suc, ◌≤◌, ◌<◌, ◌+◌, Bool, true, false, List, [], ◌∷◌, ◌++◌, length, flat_map, map, Some, None, inl, inr, refl, ap, ap₂, ◌∙◌, subst, arith, if◌then◌else◌, length-append}
use Rattle.std.proofs.lemmas.Bool.{ltb-false}
use Rattle.std.specs.Prelude.{nat_lt, codes}
use Rattle.aq_grammar.specs.Forms.{limit}
use Rattle.aq_script.proofs.Fit.{SectionFits}
use Rattle.aq_script.proofs.ReadStatements.{has_room}
use Rattle.aq_script.proofs.Statements.{ended_fits}
use Rattle.aq_grammar.proofs.Grammar.{is_read_right}
use Rattle.aq_grammar.proofs.Languages.{IsRight, rest_of}
use Rattle.aq_grammar.specs.Nonterminals.{Bars}
use Rattle.aq_base.specs.declared.statement.Statement.{Statement}
use Rattle.aq_base.specs.declared.script.Placed.{Placed}
use Rattle.aq_lex.specs.declared.token.Directive.TheVariants.{Session, Schedule}
use Rattle.aq_lex.specs.declared.token.Symbol.TheVariants.{Semicolon}
use Rattle.aq_lex.specs.Lexemes.{PlacedLexeme, Directive, first_line}
use Rattle.aq_grammar.specs.Terminals.{begins}
use Rattle.aq_grammar.specs.Rules.{Refusal, refused}
use Rattle.aq_grammar.specs.Reading.{Outcome, Read, ◌>>=◌}
use Rattle.aq_grammar.specs.Steps.{RefusesSo}
use Rattle.aq_grammar.specs.Nonterminals.{reads, Spells}
use Rattle.aq_script.specs.Sections.{Section, in_setup, in_session, kinds_of, ended, SpellsPlaced, SpellsStatements, statement_limit}
use Rattle.aq_script.specs.Parsing.{line_of, read_placed, refused_behind, read_all_statements}
use Rattle.aq_texts.specs.Written.{Written, Mark}
use Rattle.aq_texts.specs.Canon.{statement, statement_tokens}
use Rattle.aq_forms.proofs.Sound.{HaveTexts}
use Rattle.aq_forms.proofs.Laid.{laid}
use Rattle.aq_forms.proofs.Free.{ReadsOrLimit}
use Rattle.aq_forms.proofs.PrintedLines.{AllSound}
use Rattle.aq_forms.proofs.Combining.{Anything}
use Rattle.aq_canon.specs.Same.{statement_alone}
use Rattle.aq_canon.proofs.Outcomes.{bind_parts}
use Rattle.aq_canon.proofs.Repeated.{IsAgain, AreSameEach, each_again}

-- a statement that was read in a section is read again from its printed tokens, and nothing is refused in its place
pub record IsReadAgain (section : Section) (s : Statement) (tokens rest : List PlacedLexeme) : Type 0 where
  pub read : ReadsOrLimit (reads (ended section) (tokens ++ rest)) s rest
  pub spelled : Spells (ended section) s tokens
  pub begun : begins (kinds_of section) (tokens ++ rest) ≡ true
  pub free : refused section.refused (tokens ++ rest) ≡ None
  pub sound : AllSound (statement_tokens s)

abbrev pub AreReadAgain : Section → Type 0
AreReadAgain section =
    (s : Statement) (tokens middle : List PlacedLexeme) → HaveTexts tokens → reads (ended section) tokens ≡ Read s middle → (lines : ℕ → ℕ) (at : ℕ) (rest : List PlacedLexeme)
    → IsReadAgain section s (laid lines at (statement_tokens s)) rest

-- a heading, or the end
pub data HeadingNext : List PlacedLexeme → Type 0 where
  AtEnd : HeadingNext []
  AtSession : (line : ℕ) (others : List PlacedLexeme) → HeadingNext (record { line = line; lexeme = Directive Session } ∷ others)
  AtSchedule : (line : ℕ) (others : List PlacedLexeme) → HeadingNext (record { line = line; lexeme = Directive Schedule } ∷ others)

abbrev pub placed_tokens : Placed → List Written
placed_tokens placed = statement_tokens placed.statement

abbrev pub SamePlaced : Placed → Placed → Type 0
SamePlaced a b = (statement_alone a ≡ statement_alone b) × AllSound (placed_tokens b)

-- the tokens of each can be printed
abbrev pub EachSound : List Placed → Type 0
EachSound [] = Unit {0}
EachSound (x ∷ xs) = AllSound (placed_tokens x) × EachSound xs

-- the line of a statement's first token
first_line_is : (lines : ℕ → ℕ) (at : ℕ) (ws : List Written) (rest : List PlacedLexeme)
    → (first_line (laid lines at (ws ++ Mark Semicolon ∷ [])) ≡ Some (lines at)) × (line_of (laid lines at (ws ++ Mark Semicolon ∷ []) ++ rest) ≡ lines at)
first_line_is lines at [] rest = (refl, refl)
first_line_is lines at (w ∷ ws) rest = (refl, refl)

-- what is refused behind as many statements as there may be, where the test says that there are fewer
abbrev beyond : Bool → Section → List Refusal
beyond fewer section = if fewer then [] else map (λ kind. record { words = kind ∷ []; fault = limit (codes "more than 65536 statements") }) (kinds_of section)

pub less_test : (a b : ℕ) → a < b → nat_lt a b ≡ true
less_test a b less = by_test (nat_lt a b) refl
  where
    by_test : (test : Bool) → nat_lt a b ≡ test → nat_lt a b ≡ true
    by_test true e = e
    by_test false e = let more = ltb-false a b e in absurd (omega (arith, less, more))

-- a statement more may stand here
free_behind : (section : Section) (statements : ℕ) (tokens : List PlacedLexeme) → statements < statement_limit → refused section.refused tokens ≡ None
    → refused (refused_behind section statements) tokens ≡ None
free_behind section statements tokens less none =
    ap (λ (test : Bool). refused (beyond test section ++ section.refused) tokens) (less_test statements statement_limit less) ∙ none

either_free : (section : Section) (rest : List PlacedLexeme) → refused section.refused rest ≡ None → refused (beyond false section ++ section.refused) rest ≡ None → (statements : ℕ)
    → refused (refused_behind section statements) rest ≡ None
either_free section rest fewer full statements = by_test (nat_lt statements statement_limit)
  where
    by_test : (test : Bool) → refused (beyond test section ++ section.refused) rest ≡ None
    by_test true = fewer
    by_test false = full

-- where a section ends nothing is refused, and no statement begins
abbrev pub EndsFree : Section → Type 0
EndsFree section = (statements : ℕ) (rest : List PlacedLexeme) → HeadingNext rest → (refused (refused_behind section statements) rest ≡ None) × (begins (kinds_of section) rest ≡ false)

pub setup_ends_free : EndsFree in_setup
setup_ends_free statements [] AtEnd = (either_free in_setup [] refl refl statements, refl)
setup_ends_free statements rest (AtSession line others) = (either_free in_setup rest refl refl statements, refl)
setup_ends_free statements rest (AtSchedule line others) = (either_free in_setup rest refl refl statements, refl)

pub session_ends_free : EndsFree in_session
session_ends_free statements [] AtEnd = (either_free in_session [] refl refl statements, refl)
session_ends_free statements rest (AtSession line others) = (either_free in_session rest refl refl statements, refl)
session_ends_free statements rest (AtSchedule line others) = (either_free in_session rest refl refl statements, refl)

-- ---- the statements of a section

-- what is left of tokens has texts too
pub texts_behind : (front rest tokens : List PlacedLexeme) → tokens ≡ front ++ rest → HaveTexts tokens → HaveTexts rest
texts_behind front rest tokens e texts = drop_front front (subst HaveTexts e texts)
  where
    drop_front : (front : List PlacedLexeme) → HaveTexts (front ++ rest) → HaveTexts rest
    drop_front [] texts = texts
    drop_front (token ∷ front) texts = drop_front front texts.1

pub laid_length : (lines : ℕ → ℕ) (at : ℕ) (ws : List Written) → length (laid lines at ws) ≡ length ws
laid_length lines at [] = refl
laid_length lines at (w ∷ ws) = ap suc (laid_length lines (suc at) ws)

-- each statement has a token
pub statement_count : (xs : List Placed) → length xs ≤ length (flat_map placed_tokens xs)
statement_count [] = omega arith
statement_count (x ∷ xs) =
    let others = statement_count xs in
    omega (arith, others, length-append (placed_tokens x) (flat_map placed_tokens xs), length-append (statement x.statement) (Mark Semicolon ∷ []))

room : (section : Section) (statements : ℕ) (tokens : List PlacedLexeme) → refused (refused_behind section statements) tokens ≡ None → begins (kinds_of section) tokens ≡ true
    → statements < statement_limit
unfolding RefusesSo
room section statements tokens none begun = has_room section tt statements tokens none begun

-- the statements of a section are read again
pub record StatementsAgain (section : Section) (state : ℕ) (xs : List Placed) (tokens rest : List PlacedLexeme) : Type 0 where
  pub found : List Placed
  pub same : map statement_alone found ≡ map statement_alone xs
  pub sound : EachSound xs
  pub spelled : SpellsStatements section found tokens
  pub read : ReadsOrLimit (read_all_statements section state (tokens ++ rest)) found rest

pub texts_before : (front rest : List PlacedLexeme) → HaveTexts (front ++ rest) → HaveTexts front
texts_before [] rest texts = tt
texts_before (token ∷ front) rest texts = (texts.0, texts_before front rest texts.1)

module _ (section : Section) (fits : SectionFits section) (again : AreReadAgain section) (ends : EndsFree section) where
  abbrev next_count : ℕ → Placed → ℕ
  next_count before placed = before + 1

  abbrev IsPlacedAgain : ℕ → Placed → List PlacedLexeme → List PlacedLexeme → Type 0
  IsPlacedAgain = IsAgain (kinds_of section) (refused_behind section) (λ before. read_placed section) next_count (SpellsPlaced section) placed_tokens SamePlaced Anything HeadingNext

  placed_parts : (tokens middle : List PlacedLexeme) (x : Placed) → read_placed section tokens ≡ Read x middle → (reads (ended section) tokens ≡ Read x.statement middle)
  placed_parts tokens middle x e =
      let (s, rest, read, whole) = bind_parts (reads (ended section) tokens) (λ statement rest. Read (record { line = line_of tokens; statement = statement }) rest) x middle e in
      read ∙ same_parts s rest whole
    where
      same_parts : (s : Statement) (rest : List PlacedLexeme)
          → ◌≡◌ {A = Outcome Placed} (Read (record { line = line_of tokens; statement = s }) rest) (Read x middle) → ◌≡◌ {A = Outcome Statement} (Read s rest) (Read x.statement middle)
      same_parts s rest e = ap (λ (o : Outcome Placed). o >>= λ placed last. Read placed.statement last) e

  placed_texts : (tokens rest : List PlacedLexeme) (x : Placed) → HaveTexts tokens → read_placed section tokens ≡ Read x rest → HaveTexts rest
  placed_texts tokens rest x texts read =
      let right = is_read_right (ended section) (ended_fits section fits) tokens in
      behind right (placed_parts tokens rest x read)
    where
      behind : IsRight (Spells (ended section)) (Bars (ended section)) tokens (reads (ended section) tokens) → reads (ended section) tokens ≡ Read x.statement rest → HaveTexts rest
      behind right e = texts_behind right.front rest tokens (right.whole ∙ ap (λ (o : Outcome Statement). right.front ++ rest_of o) e) texts

  placed_again : (state : ℕ) (x : Placed) (tokens middle : List PlacedLexeme) → HaveTexts tokens → refused (refused_behind section state) tokens ≡ None
      → begins (kinds_of section) tokens ≡ true → read_placed section tokens ≡ Read x middle → (lines : ℕ → ℕ) (at : ℕ) (rest : List PlacedLexeme) → Anything rest
      → IsPlacedAgain state x (laid lines at (placed_tokens x)) rest
  placed_again state x tokens middle texts none begun read lines at rest any =
      let is = again x.statement tokens middle texts (placed_parts tokens middle x read) lines at rest in
      let line = first_line_is lines at (statement x.statement) rest in
      record {
        free = free_behind section state (laid lines at (placed_tokens x) ++ rest) (room section state tokens none begun) is.free;
        begun = is.begun;
        found = record { line = lines at; statement = x.statement };
        same = (refl, is.sound);
        next_same = refl;
        spelled = (is.spelled, line.0);
        read = placed_read (reads (ended section) (laid lines at (placed_tokens x) ++ rest)) is.read line.1;
      }
    where
      placed_read : (outcome : Outcome Statement) → ReadsOrLimit outcome x.statement rest → line_of (laid lines at (placed_tokens x) ++ rest) ≡ lines at
          → ReadsOrLimit {A = Placed} (outcome >>= λ statement last. Read (record { line = line_of (laid lines at (placed_tokens x) ++ rest); statement = statement }) last)
          (record { line = lines at; statement = x.statement }) rest
      placed_read outcome (inl e) line =
          inl (ap (λ (o : Outcome Statement). o >>= λ statement last. Read (record { line = line_of (laid lines at (placed_tokens x) ++ rest); statement = statement }) last) e
          ∙ ap (λ (n : ℕ). Read (record { line = n; statement = x.statement }) rest) line)
      placed_read outcome (inr (fault, place, e, is_limit)) line =
          inr (
            fault,
            place,
            ap (λ (o : Outcome Statement). o >>= λ statement last. Read (record { line = line_of (laid lines at (placed_tokens x) ++ rest); statement = statement }) last) e,
            is_limit,
          )

  pub statements_again : (state : ℕ) (tokens last : List PlacedLexeme) (xs : List Placed) → HaveTexts tokens → read_all_statements section state tokens ≡ Read xs last
      → (lines : ℕ → ℕ) (at : ℕ) (rest : List PlacedLexeme) → HeadingNext rest → StatementsAgain section state xs (laid lines at (flat_map placed_tokens xs)) rest
  statements_again state tokens last xs texts read lines at rest behind =
      let size = length (laid lines at (flat_map placed_tokens xs) ++ rest) in
      let are =
      each_again (kinds_of section) (refused_behind section) (λ before. read_placed section) next_count (SpellsPlaced section) placed_tokens SamePlaced Anything HeadingNext
      (λ before tokens rest x texts read. placed_texts tokens rest x texts read) placed_again (λ x lines at rest. tt) (λ rest behind. tt) ends (length tokens) state tokens last xs texts read size
      (omega (arith, statement_count xs, laid_length lines at (flat_map placed_tokens xs), length-append (laid lines at (flat_map placed_tokens xs)) rest)) lines at rest behind in
      record { found = are.found; same = same_each are.found xs are.same; sound = sound_each are.found xs are.same; spelled = are.spelled; read = are.read }
    where
      AreSamePlaced : List Placed → List Placed → Type 0
      AreSamePlaced =
          AreSameEach (kinds_of section) (refused_behind section) (λ before. read_placed section) next_count (SpellsPlaced section) placed_tokens SamePlaced Anything HeadingNext

      sound_each : (found xs : List Placed) → AreSamePlaced found xs → EachSound xs
      sound_each [] [] same = tt
      sound_each [] (x ∷ xs) same = absurd same
      sound_each (x ∷ found) [] same = absurd same
      sound_each (x ∷ found) (y ∷ xs) same = (same.0.1, sound_each found xs same.1)

      same_each : (found xs : List Placed) → AreSamePlaced found xs → map statement_alone found ≡ map statement_alone xs
      same_each [] [] same = refl
      same_each [] (x ∷ xs) same = absurd same
      same_each (x ∷ found) [] same = absurd same
      same_each (x ∷ found) (y ∷ xs) same = ap₂ (λ (z : Placed) (zs : List Placed). z ∷ zs) same.0.0 (same_each found xs same.1)
