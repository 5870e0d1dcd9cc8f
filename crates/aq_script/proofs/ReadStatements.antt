-- How the loop over the statements of a section stands, and how many statements are read.
use Rattle.std.proofs.Common.{◌≡◌, ℕ, zero, suc, ◌+◌, ◌<◌, ◌≤◌, ◌&&◌, Bool, true, false, List, [], ◌∷◌, ◌++◌, length, nat_le, if◌then◌else◌, ◌⊎◌, inl, inr, Option, Some, None, Ok, Err, refl, sym, ◌∙◌, subst, arith}
use Rattle.std.proofs.lemmas.Bool.{cond-false, cond_both}
use Rattle.std.proofs.lemmas.Grind.{common_steps}
use Rattle.aq_base.specs.declared.fault.SqlFault.{SqlFault}
use Rattle.aq_base.specs.declared.script.Placed.{Placed}
use Rattle.aq_lex.specs.Lexemes.{PlacedLexeme}
use Rattle.aq_grammar.specs.Terminals.{begins, begin_with}
use Rattle.aq_grammar.specs.Rules.{Refusal, refused}
use Rattle.aq_grammar.specs.Reading.{Outcome, Read, Stop, ◌>>=◌, stop_or}
use Rattle.aq_grammar.specs.Steps.{Fails, RefusesSo}
use Rattle.aq_grammar.specs.declared.fault.ReadFault.{ReadFault}
use Rattle.aq_parse.specs.declared.statements.Place.{Place}
use Rattle.aq_parse.specs.declared.statements.Place.TheVariants.{Setup, Session}
use Rattle.aq_script.specs.Sections.{Section, kinds_of, statement_limit, refused_statements}
use Rattle.aq_script.specs.Parsing.{section_of, read_placed, refused_behind, read_statements, read_all_statements}
use Rattle.aq_script.proofs.Fit.{SectionFits, session_fits, setup_fits}
use Rattle.aq_script.proofs.Loops.{StandsBehind, begun_behind, goes_on_behind, fails_behind, ends_behind, is_free_behind, refuses_behind}
use Rattle.aq_script.proofs.Limits.{statements_fault, statements_refused}
use Rattle.aq_script.proofs.Shorter.{placed_is_shorter}
use Rattle.aq_script.proofs.Statements.{one_more}

pub section_fits : (place : Place) → SectionFits (section_of place)
section_fits Setup = setup_fits
section_fits Session = session_fits

-- ---- what isn't refused

not_first : (is_here : Bool) (fault : SqlFault) (others : Option SqlFault) → (if is_here then Some fault else others) ≡ None → (is_here ≡ false) × (others ≡ None)
not_first true fault others e = absurd cc
not_first false fault others e = (refl, e)

-- two lists refuse nothing
free_parts : (a b : List Refusal) (tokens : List PlacedLexeme) → refused (a ++ b) tokens ≡ None → (refused a tokens ≡ None) × (refused b tokens ≡ None)
free_parts [] b tokens free = (refl, free)
free_parts (refusal ∷ a) b tokens free =
    let first = not_first (begin_with refusal.words tokens) refusal.fault (refused (a ++ b) tokens) free in
    let behind = free_parts a b tokens first.1 in
    (cond-false (begin_with refusal.words tokens) (Some refusal.fault) (refused a tokens) first.0 ∙ behind.0, behind.1)

passes_none : (passes begun : Bool) (fault : SqlFault) → begun ≡ true → (if passes && begun then Some fault else None) ≡ None → passes ≡ false
passes_none true true fault is_begun e = absurd cc
passes_none true false fault is_begun e = absurd cc
passes_none false begun fault is_begun e = refl

below : (most n : ℕ) → nat_le most n ≡ false → n < most
below most n e = grind (arith, common_steps)

module _ (section : Section) where
  abbrev IsFree : ℕ → List PlacedLexeme → Type 0
  IsFree statements tokens = refused (refused_behind section statements) tokens ≡ None

  -- a statement that begins and isn't refused is one of those that there may be
  room_for_one : (statements : ℕ) (tokens : List PlacedLexeme) → IsFree statements tokens → begins (kinds_of section) tokens ≡ true → statements < statement_limit
  room_for_one statements tokens free begun =
      below statement_limit statements
      (passes_none (nat_le statement_limit statements) (begins (kinds_of section) tokens) statements_fault begun
      (sym (statements_refused section statements tokens (nat_le statement_limit statements && begins (kinds_of section) tokens) refl)
      ∙ (free_parts (refused_statements statements section) section.refused tokens free).0))

  free_of : (x : Unit {0}) (statements : ℕ) (tokens : List PlacedLexeme) → RefusesSo (refused_behind section statements) (Ok x) tokens → IsFree statements tokens
  free_of x statements tokens refuses = is_free_behind (kinds_of section) (refused_behind section) (λ before. read_placed section) one_more x statements tokens refuses

  pub has_room : (x : Unit {0}) (statements : ℕ) (tokens : List PlacedLexeme) → RefusesSo (refused_behind section statements) (Ok x) tokens
      → begins (kinds_of section) tokens ≡ true → statements < statement_limit
  has_room x statements tokens refuses begun = room_for_one statements tokens (free_of x statements tokens refuses) begun

  -- no other statement is refused in its place
  pub others_are_free : (x : Unit {0}) (statements : ℕ) (tokens : List PlacedLexeme) → RefusesSo (refused_behind section statements) (Ok x) tokens
      → refused section.refused tokens ≡ None
  others_are_free x statements tokens refuses =
      (free_parts (refused_statements statements section) section.refused tokens (free_of x statements tokens refuses)).1

  -- ---- the number of statements

  -- with those before there are no more than there may be, or there are none
  abbrev AreWithin : ℕ → List Placed → Type 0
  AreWithin statements found = (found ≡ []) ⊎ (statements + length found ≤ statement_limit)

  abbrev IsWithin : ℕ → Outcome (List Placed) → Type 0
  IsWithin statements (Read found rest) = AreWithin statements found
  IsWithin statements (Stop reason rest) = Unit {0}

  unless_within : (statements : ℕ) (fault : Option SqlFault) (tokens : List PlacedLexeme) (outcome : Outcome (List Placed)) → (fault ≡ None → IsWithin statements outcome)
      → IsWithin statements (stop_or fault tokens outcome)
  unless_within statements None tokens outcome within = within refl
  unless_within statements (Some fault) tokens outcome within = tt

  one_within : (statements : ℕ) (x : Placed) (others : List Placed) → statements < statement_limit → AreWithin (statements + 1) others → AreWithin statements (x ∷ others)
  one_within statements x [] less within = inr (omega arith)
  one_within statements x (other ∷ others) less (inl none) = absurd cc
  one_within statements x (other ∷ others) less (inr within) = inr (omega arith)

  more_within : (statements : ℕ) (x : Placed) (outcome : Outcome (List Placed)) → statements < statement_limit → IsWithin (statements + 1) outcome
      → IsWithin statements (outcome >>= λ others rest. Read (x ∷ others) rest)
  more_within statements x (Read others rest) less within = one_within statements x others less within
  more_within statements x (Stop reason rest) less within = tt

  both_within : (statements : ℕ) (outcome : Outcome Placed) (next : List PlacedLexeme → Outcome (List Placed)) → statements < statement_limit
      → ((rest : List PlacedLexeme) → IsWithin (statements + 1) (next rest)) → IsWithin statements (outcome >>= λ x rest. next rest >>= λ others last. Read (x ∷ others) last)
  both_within statements (Read x rest) next less within = more_within statements x (next rest) less (within rest)
  both_within statements (Stop reason rest) next less within = tt

  each_within : (most statements : ℕ) (tokens : List PlacedLexeme) → IsWithin statements (read_statements section most statements tokens)
  each_within zero statements tokens = unless_within statements (refused (refused_behind section statements) tokens) tokens (Read [] tokens) (λ free. inl refl)
  each_within (suc most) statements tokens =
      unless_within statements (refused (refused_behind section statements) tokens) tokens _
      (λ free.
      cond_both (begins (kinds_of section) tokens)
      (read_placed section tokens >>= λ x rest. read_statements section most (statements + 1) rest >>= λ others last. Read (x ∷ others) last) (Read [] tokens)
      (IsWithin statements)
      (λ begun.
      both_within statements (read_placed section tokens) (read_statements section most (statements + 1)) (room_for_one statements tokens free begun)
      (each_within most (statements + 1)))
      (λ ended. inl refl))

  pub statements_within : (statements : ℕ) (tokens rest : List PlacedLexeme) (found : List Placed) → read_all_statements section statements tokens ≡ Read found rest
      → AreWithin statements found
  statements_within statements tokens rest found read = subst (IsWithin statements) read (each_within (length tokens) statements tokens)

  -- ---- the loop

  -- so many statements are read in all, behind which others may stand
  abbrev pub AreStatements : ℕ → List Placed → List PlacedLexeme → Outcome (List Placed) → Type 0
  AreStatements statements found rest total = StandsBehind (kinds_of section) (refused_behind section) (λ before. read_placed section) one_more found statements rest total

  pub statements_begin : (statements : ℕ) (tokens : List PlacedLexeme) → AreStatements statements [] tokens (read_all_statements section statements tokens)
  statements_begin statements tokens = begun_behind (kinds_of section) (refused_behind section) (λ before. read_placed section) one_more statements tokens

  pub statements_refuse : (fault : ReadFault) (statements : ℕ) (found : List Placed) (rest : List PlacedLexeme) (total : Outcome (List Placed))
      → AreStatements statements found rest total → RefusesSo (refused_behind section statements) (Err fault) rest → Fails fault total
  statements_refuse fault statements found rest total so_far refuses =
      refuses_behind (kinds_of section) (refused_behind section) (λ before. read_placed section) one_more fault found statements rest total so_far refuses

  pub statements_fail : (fault : ReadFault) (x : Unit {0}) (statements : ℕ) (found : List Placed) (rest : List PlacedLexeme) (total : Outcome (List Placed))
      → AreStatements statements found rest total → RefusesSo (refused_behind section statements) (Ok x) rest → begins (kinds_of section) rest ≡ true
      → Fails fault (read_placed section rest) → Fails fault total
  statements_fail fault x statements found rest total so_far refuses begun fails =
      fails_behind (kinds_of section) (refused_behind section) (λ before. read_placed section) one_more fault found statements rest total so_far
      (free_of x statements rest refuses) begun fails

  pub statements_go_on : SectionFits section → (x : Unit {0}) (statements : ℕ) (found : List Placed) (next : Placed) (rest behind : List PlacedLexeme) (total : Outcome (List Placed))
      → AreStatements statements found rest total → RefusesSo (refused_behind section statements) (Ok x) rest → begins (kinds_of section) rest ≡ true
      → read_placed section rest ≡ Read next behind → AreStatements (statements + 1) (found ++ next ∷ []) behind total
  statements_go_on fits x statements found next rest behind total so_far refuses begun read =
      goes_on_behind (kinds_of section) (refused_behind section) (λ before. read_placed section) one_more found statements rest behind next total
      (placed_is_shorter section fits rest behind next read) so_far (free_of x statements rest refuses) begun read

  pub statements_end : (x : Unit {0}) (statements : ℕ) (found : List Placed) (rest : List PlacedLexeme) (total : Outcome (List Placed)) → AreStatements statements found rest total
      → RefusesSo (refused_behind section statements) (Ok x) rest → begins (kinds_of section) rest ≡ false → total ≡ Read found rest
  statements_end x statements found rest total so_far refuses ended =
      ends_behind (kinds_of section) (refused_behind section) (λ before. read_placed section) one_more found statements rest total so_far
      (free_of x statements rest refuses) ended
