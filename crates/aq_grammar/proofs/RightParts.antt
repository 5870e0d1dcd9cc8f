-- Reading one token, none, and what a rule gives in another form.
use Rattle.std.proofs.Common.{◌≡◌, Bool, true, false, cond, List, [], ◌∷◌, ◌++◌, refl, ap, ◌∙◌, subst}
use Rattle.aq_lex.specs.Lexemes.{PlacedLexeme}
use Rattle.aq_grammar.specs.Terminals.{Terminal, fits}
use Rattle.aq_grammar.specs.Rules.{Form, Bar, Begins, BarsNone, SpellsNothing, SpellsToken, SpellsCalled}
use Rattle.aq_grammar.specs.Reading.{Outcome, Read, Stop, Syntax, Refused, Reader, read_token, read_called, ◌>>=◌}
use Rattle.aq_grammar.specs.Places.{IsStuck, IsRead}
use Rattle.aq_grammar.proofs.Languages.{IsStopped, IsRight, IsSpelled}

nothing_behind : {A : Type 0} (x : A) (token : PlacedLexeme) → Begins (SpellsNothing x) (token ∷ []) → ⊥
nothing_behind x token b = let e = b.2.1 in cc

pub right_nothing : {A : Type 0} (x : A) (tokens : List PlacedLexeme) → IsRight (SpellsNothing x) BarsNone tokens (Read x tokens)
right_nothing x tokens =
    record {
      front = [];
      whole = refl;
      explained =
          record {
            clear = λ before token behind fault e bar. bar;
            spelled = (refl, refl);
            only = λ y s. s.0;
            stuck = record { past = λ token behind e b. nothing_behind x token b; free = λ fault bar. bar };
          };
    }

module _ {A : Type 0} (kind : Terminal) (f : PlacedLexeme → A) where
  token_no_more : (token other : PlacedLexeme) → Begins (SpellsToken kind f) (token ∷ other ∷ []) → ⊥
  token_no_more token other b = let e = b.2.3 in cc

  token_not_empty : (x : A) → SpellsToken kind f x [] → ⊥
  token_not_empty x s = let e = s.3 in cc

  token_is : (token : PlacedLexeme) (u : List PlacedLexeme) (x : A) → SpellsToken kind f x (token ∷ u) → (fits kind token ≡ true) × (x ≡ f token)
  token_is token u x s =
      let p = s.3 in
      let e : s.0 ≡ token = cc in
      (subst (λ (t : PlacedLexeme). fits kind t ≡ true) e s.1, s.2 ∙ ap f e)

  token_read : (token : PlacedLexeme) (rest : List PlacedLexeme) → fits kind token ≡ true → IsRead (SpellsToken kind f) BarsNone (f token) (token ∷ []) rest
  token_read token rest e =
      record {
        clear = λ before other behind fault p bar. bar;
        spelled = (token, e, refl, refl);
        only = λ y s. (token_is token [] y s).1;
        stuck = record { past = λ other behind p b. token_no_more token other b; free = λ fault bar. bar };
      }

  token_missed : (rest : List PlacedLexeme) → ((token : PlacedLexeme) (behind : List PlacedLexeme) → rest ≡ token ∷ behind → fits kind token ≡ true → ⊥) → IsSpelled (SpellsToken kind f)
      → IsStopped (SpellsToken kind f) BarsNone [] rest
  token_missed rest missed some =
      record {
        clear = λ before other behind fault p bar. bar;
        begun = (some.1, some.0, some.2);
        part = token_not_empty;
        stuck = record { past = λ token behind p b. missed token behind p (token_is token b.0 b.1 b.2).0; free = λ fault bar. bar };
      }

  token_tried : (token : PlacedLexeme) (rest : List PlacedLexeme) (b : Bool) → fits kind token ≡ b → IsSpelled (SpellsToken kind f)
      → IsRight (SpellsToken kind f) BarsNone (token ∷ rest) (cond b (Read (f token) rest) (Stop Syntax (token ∷ rest)))
  token_tried token rest true e some = record { front = token ∷ []; whole = refl; explained = token_read token rest e }
  token_tried token rest false e some =
      record { front = []; whole = refl; explained = token_missed (token ∷ rest) (λ other behind p fit. let q : other ≡ token = cc in cc) some }

  pub right_token : IsSpelled (SpellsToken kind f) → (tokens : List PlacedLexeme) → IsRight (SpellsToken kind f) BarsNone tokens (read_token kind f tokens)
  right_token some [] = record { front = []; whole = refl; explained = token_missed [] (λ token behind p fit. cc) some }
  right_token some (token ∷ rest) = token_tried token rest (fits kind token) refl some

module _ {A B : Type 0} (f : A → B) (Spelled : Form A) (bars : Bar) where
  called_begun : (u : List PlacedLexeme) → Begins Spelled u → Begins (SpellsCalled f Spelled) u
  called_begun u b = (b.0, f b.1, (b.1, b.2, refl))

  called_begun_back : (u : List PlacedLexeme) → Begins (SpellsCalled f Spelled) u → Begins Spelled u
  called_begun_back u b = (b.0, b.2.0, b.2.1)

  called_stuck : (front rest : List PlacedLexeme) → IsStuck Spelled bars front rest → IsStuck (SpellsCalled f Spelled) bars front rest
  called_stuck front rest stuck =
      record { past = λ token behind e b. stuck.past token behind e (called_begun_back (front ++ token ∷ []) b); free = stuck.free }

  called_from : (tokens : List PlacedLexeme) (outcome : Outcome A) → IsRight Spelled bars tokens outcome → IsRight (SpellsCalled f Spelled) bars tokens (outcome >>= λ x rest. Read (f x) rest)
  called_from tokens (Read x rest) r =
      record {
        front = r.front;
        whole = r.whole;
        explained =
            record {
              clear = r.explained.clear;
              spelled = (x, r.explained.spelled, refl);
              only = λ y s. s.2 ∙ ap f (r.explained.only s.0 s.1);
              stuck = called_stuck r.front rest r.explained.stuck;
            };
      }
  called_from tokens (Stop Syntax rest) r =
      record {
        front = r.front;
        whole = r.whole;
        explained =
            record {
              clear = r.explained.clear;
              begun = called_begun r.front r.explained.begun;
              part = λ y s. r.explained.part s.0 s.1;
              stuck = called_stuck r.front rest r.explained.stuck;
            };
      }
  called_from tokens (Stop (Refused fault) rest) r =
      record {
        front = r.front;
        whole = r.whole;
        explained = record { clear = r.explained.clear; begun = called_begun r.front r.explained.begun; barred = r.explained.barred };
      }

  pub right_called : (reader : Reader A) (tokens : List PlacedLexeme) → IsRight Spelled bars tokens (reader tokens) → IsRight (SpellsCalled f Spelled) bars tokens (read_called f reader tokens)
  right_called reader tokens r = called_from tokens (reader tokens) r
