-- A statement with the line of its first token is read as the statement is.
use Rattle.std.proofs.Common.{◌≡◌, ℕ, false, List, [], ◌∷◌, ◌++◌, Some, refl, sym, ap, ◌∙◌}
use Rattle.aq_base.specs.declared.statement.Statement.{Statement}
use Rattle.aq_base.specs.declared.script.Placed.{Placed}
use Rattle.aq_lex.specs.Lexemes.{PlacedLexeme, first_line}
use Rattle.aq_grammar.specs.Rules.{Form, Bar, Begins}
use Rattle.aq_grammar.specs.Sets.{Marks}
use Rattle.aq_grammar.specs.Reading.{Outcome, Read, Stop, Syntax, Refused, ◌>>=◌}
use Rattle.aq_grammar.specs.Places.{IsStuck}
use Rattle.aq_grammar.proofs.Languages.{HasMarks, IsRight}
use Rattle.aq_grammar.proofs.Keeping.{keeps_within}
use Rattle.aq_script.specs.Parsing.{line_of}

-- the statement, and the line of its first token
abbrev pub WithLine : Form Statement → Form Placed
WithLine Spelled placed u = Spelled placed.statement u × (first_line u ≡ Some placed.line)

module _ (Spelled : Form Statement) (not_empty : (x : Statement) → Spelled x [] → ⊥) where
  with_line : (x : Statement) (u : List PlacedLexeme) → Spelled x u → (placed : Placed) × WithLine Spelled placed u
  with_line x [] s = absurd (not_empty x s)
  with_line x (token ∷ u) s = (record { line = token.line; statement = x }, (s, refl))

  begins_with_line : (u : List PlacedLexeme) → Begins Spelled u → Begins (WithLine Spelled) u
  begins_with_line u b = let placed = with_line b.1 (u ++ b.0) b.2 in (b.0, placed.0, placed.1)

  begins_without : (u : List PlacedLexeme) → Begins (WithLine Spelled) u → Begins Spelled u
  begins_without u b = (b.0, b.1.statement, b.2.0)

  line_in : (x : Statement) (tokens front rest : List PlacedLexeme) → Spelled x front → tokens ≡ front ++ rest → first_line front ≡ Some (line_of tokens)
  line_in x tokens [] rest s e = absurd (not_empty x s)
  line_in x tokens (token ∷ front) rest s e = ap (λ (u : List PlacedLexeme). Some (line_of u)) (sym e)

  line_is : (x : Statement) (placed : Placed) (line : ℕ) (front : List PlacedLexeme) → placed.statement ≡ x → first_line front ≡ Some line → first_line front ≡ Some placed.line
      → placed ≡ record { line = line; statement = x }
  line_is x placed line front e p q =
      let same : placed.line ≡ line = cc in
      ap (λ (n : ℕ). let r : Placed = record { line = n; statement = placed.statement } in r) same ∙ ap (λ (y : Statement). let r : Placed = record { line = line; statement = y } in r) e

  module _ (bars : Bar) where
    stuck_with_line : (front rest : List PlacedLexeme) → IsStuck Spelled bars front rest → IsStuck (WithLine Spelled) bars front rest
    stuck_with_line front rest stuck =
        record { past = λ token behind e b. stuck.past token behind e (begins_without (front ++ token ∷ []) b); free = stuck.free }

    pub right_with_line : (tokens : List PlacedLexeme) (outcome : Outcome Statement) → IsRight Spelled bars tokens outcome
        → IsRight (WithLine Spelled) bars tokens (outcome >>= λ statement rest. Read (record { line = line_of tokens; statement = statement }) rest)
    right_with_line tokens (Read x rest) r =
        let line = line_in x tokens r.front rest r.explained.spelled r.whole in
        record {
          front = r.front;
          whole = r.whole;
          explained =
              record {
                clear = r.explained.clear;
                spelled = (r.explained.spelled, line);
                only = λ y s. line_is x y (line_of tokens) r.front (r.explained.only y.statement s.0) line s.1;
                stuck = stuck_with_line r.front rest r.explained.stuck;
              };
        }
    right_with_line tokens (Stop Syntax rest) r =
        record {
          front = r.front;
          whole = r.whole;
          explained =
              record {
                clear = r.explained.clear;
                begun = begins_with_line r.front r.explained.begun;
                part = λ y s. r.explained.part y.statement s.0;
                stuck = stuck_with_line r.front rest r.explained.stuck;
              };
        }
    right_with_line tokens (Stop (Refused fault) rest) r =
        record {
          front = r.front;
          whole = r.whole;
          explained = record { clear = r.explained.clear; begun = begins_with_line r.front r.explained.begun; barred = r.explained.barred };
        }

    pub has_with_line : (a : Marks) → a.is_empty ≡ false → HasMarks Spelled bars a → HasMarks (WithLine Spelled) bars a
    has_with_line a whole has =
        let some = with_line has.some.0 has.some.1 has.some.2 in
        record {
          keeps = keeps_within has.keeps (λ placed u s. (placed.statement, s.0)) (λ u rest fault bar. bar);
          some = (some.0, has.some.1, some.1);
          begins_so =
              record {
                begin = λ token is. begins_with_line (token ∷ []) (has.begins_so.begin token is);
                empty = λ e. cc;
              };
          barred = λ u rest fault bar. begins_with_line u (has.barred u rest fault bar);
        }
