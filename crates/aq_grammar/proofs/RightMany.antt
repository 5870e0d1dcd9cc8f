-- Reading any number of one form, one after the other.
use Rattle.std.proofs.Common.{◌≡◌, ℕ, zero, suc, ◌≤◌, ◌<◌, true, List, [], ◌∷◌, ◌++◌, length, refl, sym, ap, ◌∙◌, subst, ◌⊎◌, inl, inr, arith}
use Rattle.std.proofs.lemmas.List.{append_assoc}
use Rattle.aq_base.specs.declared.fault.SqlFault.{SqlFault}
use Rattle.aq_lex.specs.Lexemes.{PlacedLexeme}
use Rattle.aq_grammar.specs.Terminals.{Terminal, is_of}
use Rattle.aq_grammar.specs.Rules.{Form, Bar, Begins, Refusal, BarsHere, BarsNone, BarsBoth, BarsMany, SpellsNothing, SpellsBoth, SpellsEach, SpellsMany}
use Rattle.aq_grammar.specs.Reading.{Read, Reader, read_both, read_either, read_unless, read_each, read_many}
use Rattle.aq_grammar.proofs.Languages.{IsRight}
use Rattle.aq_grammar.proofs.Cuts.{rest_shorter, parts_of_nothing}
use Rattle.aq_grammar.proofs.Keeping.{SpellsEither, BarsEither}
use Rattle.aq_grammar.proofs.Beginning.{barred_both}
use Rattle.aq_grammar.proofs.RightForms.{begins_whole, AreAlike, alike_right}
use Rattle.aq_grammar.proofs.RightParts.{right_nothing, right_called}
use Rattle.aq_grammar.proofs.RightChoice.{EitherFit, right_either, right_unless, by_second}
use Rattle.aq_grammar.proofs.RightBoth.{BothFit, both_begins, right_both}

-- the form has a token, begins with these kinds of tokens, and refuses nothing where it begins
pub record StartsWith {A : Type 0} (kinds : List Terminal) (Spelled : Form A) (bars : Bar) : Type 0 where
  pub begun : (token : PlacedLexeme) (u : List PlacedLexeme) → Begins Spelled (token ∷ u) → is_of kinds token ≡ true
  pub begin : (token : PlacedLexeme) → is_of kinds token ≡ true → Begins Spelled (token ∷ [])
  pub not_empty : (x : A) → Spelled x [] → ⊥
  pub quiet : (rest : List PlacedLexeme) (fault : SqlFault) → bars [] rest fault → ⊥

module _ {A B C : Type 0} (f : A → B → C) (First : Form A) (Second : A → Form B) (first : Bar) (second : A → Bar) (fit : BothFit First Second first second)
    (kinds : List Terminal) (starts : StartsWith kinds First first) where
  first_not_empty : (a : A) (front : List PlacedLexeme) → First a front → front ≡ [] → ⊥
  first_not_empty a front s e = starts.not_empty a (subst (λ (x : List PlacedLexeme). First a x) e s)

  begun_with : (token : PlacedLexeme) (u v front behind : List PlacedLexeme) (a : A) → First a front → token ∷ u ++ v ≡ front ++ behind → is_of kinds token ≡ true
  begun_with token u v [] behind a s e = absurd (starts.not_empty a s)
  begun_with token u v (other ∷ front) behind a s e =
      let same_token : other ≡ token = cc in
      subst (λ (x : PlacedLexeme). is_of kinds x ≡ true) same_token (starts.begun other front (begins_whole First a (other ∷ front) s))

  pub both_starts : StartsWith kinds (SpellsBoth f First Second) (BarsBoth First first second)
  both_starts =
      record {
        begun = λ token u b. let s = b.2 in begun_with token u b.0 s.0 s.1 s.2 s.4 s.6;
        begin = λ token is. both_begins f First Second first second fit (token ∷ []) (starts.begin token is);
        not_empty = λ y s. first_not_empty s.2 s.0 s.4 (parts_of_nothing s.0 s.1 s.6).0;
        quiet = quiet_both;
      }
    where
      quiet_both : (rest : List PlacedLexeme) (fault : SqlFault) → BarsBoth First first second [] rest fault → ⊥
      quiet_both rest fault (inl bar) = starts.quiet rest fault bar
      quiet_both rest fault (inr bar) = first_not_empty bar.2 bar.0 bar.3 (parts_of_nothing bar.0 bar.1 bar.4).0

  pub both_or_nothing : (z : C) → EitherFit kinds (SpellsBoth f First Second) (SpellsNothing z) (BarsBoth First first second) BarsNone
  both_or_nothing z =
      record {
        begun = both_starts.begun;
        begin = both_starts.begin;
        not_empty = both_starts.not_empty;
        apart = λ token u b is. let e = b.2.1 in cc;
        quiet = both_starts.quiet;
        quiet_second = λ rest fault bar. bar;
        barred = barred_both f First first Second second fit.barred fit.some_second fit.barred_second;
        barred_second = λ u rest fault bar. absurd bar;
      }

abbrev together : {A : Type 0} → A → List A → List A
together x others = x ∷ others

-- one and then others, or none
abbrev OneAndMore : {A : Type 0} → Form A → Form (List A)
OneAndMore Spelled xs u = SpellsEither (SpellsBoth together Spelled (λ x. SpellsEach Spelled)) (SpellsNothing []) xs u

abbrev BarsOneAndMore : {A : Type 0} → List Refusal → Form A → Bar → Bar
BarsOneAndMore refusals Spelled bars u rest fault = BarsEither (BarsBoth Spelled bars (λ x. BarsMany refusals Spelled bars)) BarsNone u rest fault

module _ {A : Type 0} (Spelled : Form A) (bars : Bar) (refusals : List Refusal) where
  each_from : (xs : List A) (u : List PlacedLexeme) → OneAndMore Spelled xs u → SpellsEach Spelled xs u
  each_from xs u (inl s) = rw s.7 (s.0, s.1, s.4, s.5, s.6)
  each_from xs u (inr s) = rw s.0 s.1

  each_back : (xs : List A) (u : List PlacedLexeme) → SpellsEach Spelled xs u → OneAndMore Spelled xs u
  each_back [] u e = inr (refl, e)
  each_back (x ∷ xs) u s = inl (s.0, s.1, x, xs, s.2, s.3, s.4, refl)

  many_bars_from : (u rest : List PlacedLexeme) (fault : SqlFault) → BarsEither (BarsHere refusals) (BarsOneAndMore refusals Spelled bars) u rest fault
      → BarsMany refusals Spelled bars u rest fault
  many_bars_from u rest fault (inl here) = ([], u, [], refl, refl, inr here)
  many_bars_from u rest fault (inr (inl (inl bar))) = ([], u, [], refl, refl, inl bar)
  many_bars_from u rest fault (inr (inl (inr bar))) =
      let many = bar.5 in
      (bar.0 ++ many.0, many.1, bar.2 ∷ many.2, (bar.0, many.0, bar.3, many.3, refl), bar.4 ∙ ap (λ w. bar.0 ++ w) many.4 ∙ sym (append_assoc bar.0 many.0 many.1), many.5)
  many_bars_from u rest fault (inr (inr bar)) = absurd bar

  bars_at_once : (u rest : List PlacedLexeme) (fault : SqlFault) → bars u rest fault ⊎ BarsHere refusals u rest fault
      → BarsEither (BarsHere refusals) (BarsOneAndMore refusals Spelled bars) u rest fault
  bars_at_once u rest fault (inl bar) = inr (inl (inl bar))
  bars_at_once u rest fault (inr here) = inl here

  bars_by : (xs : List A) (u rest front behind : List PlacedLexeme) (fault : SqlFault) → SpellsEach Spelled xs front → u ≡ front ++ behind
      → bars behind rest fault ⊎ BarsHere refusals behind rest fault → BarsEither (BarsHere refusals) (BarsOneAndMore refusals Spelled bars) u rest fault
  bars_by [] u rest front behind fault s e bar = rw (e ∙ ap (λ w. w ++ behind) s) (bars_at_once behind rest fault bar)
  bars_by (x ∷ xs) u rest front behind fault s e bar =
      inr (inl (inr (s.0, s.1 ++ behind, x, s.2, e ∙ ap (λ w. w ++ behind) s.4 ∙ append_assoc s.0 s.1 behind, (s.1, behind, xs, s.3, refl, bar))))

  -- any number of them are none, or one with any number behind it
  many_alike : AreAlike (OneAndMore Spelled) (SpellsEach Spelled) (BarsEither (BarsHere refusals) (BarsOneAndMore refusals Spelled bars)) (BarsMany refusals Spelled bars)
  many_alike =
      record {
        spelled = each_from;
        spelled_back = each_back;
        barred = many_bars_from;
        barred_back = λ u rest fault bar. bars_by bar.2 u rest bar.0 bar.1 fault bar.3 bar.4 bar.5;
      }

  -- one and then others can be told apart from none
  module _ (kinds : List Terminal) (starts : StartsWith kinds Spelled bars) (fit : BothFit Spelled (λ x. SpellsEach Spelled) bars (λ x. BarsMany refusals Spelled bars)) (reader : Reader A) where
    many_or_nothing : EitherFit kinds (SpellsBoth together Spelled (λ x. SpellsEach Spelled)) (SpellsNothing []) (BarsBoth Spelled bars (λ x. BarsMany refusals Spelled bars)) BarsNone
    many_or_nothing = both_or_nothing together Spelled (λ x. SpellsEach Spelled) bars (λ x. BarsMany refusals Spelled bars) fit kinds starts []

    each_unless : (tokens : List PlacedLexeme) (choice : Reader (List A)) → IsRight (OneAndMore Spelled) (BarsOneAndMore refusals Spelled bars) tokens (choice tokens)
        → IsRight (SpellsEach Spelled) (BarsMany refusals Spelled bars) tokens (read_unless refusals choice tokens)
    each_unless tokens choice r =
        alike_right (OneAndMore Spelled) (SpellsEach Spelled) (BarsEither (BarsHere refusals) (BarsOneAndMore refusals Spelled bars)) (BarsMany refusals Spelled bars) tokens
        (read_unless refusals choice tokens) many_alike
        (right_unless refusals (OneAndMore Spelled) (BarsOneAndMore refusals Spelled bars) choice tokens ([], [], inr (refl, refl)) r)

    each_none : IsRight (OneAndMore Spelled) (BarsOneAndMore refusals Spelled bars) [] (Read [] [])
    each_none =
        by_second kinds (SpellsBoth together Spelled (λ x. SpellsEach Spelled)) (SpellsNothing []) (BarsBoth Spelled bars (λ x. BarsMany refusals Spelled bars)) BarsNone
        many_or_nothing [] (Read [] []) refl (right_nothing [] [])

    each_one : (others : Reader (List A)) (tokens : List PlacedLexeme) → IsRight Spelled bars tokens (reader tokens)
        → ((rest : List PlacedLexeme) → length rest < length tokens → IsRight (SpellsEach Spelled) (BarsMany refusals Spelled bars) rest (others rest))
        → IsRight (OneAndMore Spelled) (BarsOneAndMore refusals Spelled bars) tokens (read_either kinds (read_both together reader (λ x. others)) (λ all. Read [] all) tokens)
    each_one others tokens r then =
        right_either kinds (SpellsBoth together Spelled (λ x. SpellsEach Spelled)) (SpellsNothing []) (BarsBoth Spelled bars (λ x. BarsMany refusals Spelled bars)) BarsNone
        many_or_nothing (read_both together reader (λ x. others)) (λ all. Read [] all) tokens
        (right_both together Spelled (λ x. SpellsEach Spelled) bars (λ x. BarsMany refusals Spelled bars) fit reader (λ x. others) tokens r
        (λ x front rest e s. then rest (rest_shorter tokens front rest e (λ n. starts.not_empty x (subst (λ (w : List PlacedLexeme). Spelled x w) n s)))))
        (right_nothing [] tokens)

    right_each : (most : ℕ) (tokens : List PlacedLexeme) → length tokens ≤ most → ((us : List PlacedLexeme) → length us ≤ length tokens → IsRight Spelled bars us (reader us))
        → IsRight (SpellsEach Spelled) (BarsMany refusals Spelled bars) tokens (read_each most kinds refusals reader tokens)
    right_each zero [] h each = each_unless [] (λ all. Read [] all) each_none
    right_each zero (token ∷ tokens) h each = absurd (omega arith)
    right_each (suc most) tokens h each =
        each_unless tokens (read_either kinds (read_both together reader (λ x. read_each most kinds refusals reader)) (λ all. Read [] all))
        (each_one (read_each most kinds refusals reader) tokens (each tokens (omega arith))
        (λ rest shorter. right_each most rest (omega arith) (λ us h'. each us (omega arith))))

    pub right_many : {B : Type 0} (f : List A → B) (tokens : List PlacedLexeme) → ((us : List PlacedLexeme) → length us ≤ length tokens → IsRight Spelled bars us (reader us))
        → IsRight (SpellsMany f Spelled) (BarsMany refusals Spelled bars) tokens (read_many kinds refusals f reader tokens)
    right_many f tokens each =
        right_called f (SpellsEach Spelled) (BarsMany refusals Spelled bars) (λ all. read_each (length tokens) kinds refusals reader all) tokens
        (right_each (length tokens) tokens (omega arith) each)
