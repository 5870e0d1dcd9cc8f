-- Any number of one form, one after the other, where what is refused hangs on those before it. This is said of any form.
use Rattle.std.proofs.Common.{◌≡◌, true, false, List, [], ◌∷◌, ◌++◌, refl, sym, ap, ◌∙◌, subst, ◌⊎◌, inl, inr}
use Rattle.std.proofs.lemmas.List.{append_assoc}
use Rattle.aq_base.specs.declared.fault.SqlFault.{SqlFault}
use Rattle.aq_lex.specs.Lexemes.{PlacedLexeme}
use Rattle.aq_grammar.specs.Terminals.{Terminal, begins}
use Rattle.aq_grammar.specs.Rules.{Form, Bar, Begins, Refusal, BarsHere, BarsNone, BarsBoth, SpellsNothing, SpellsBoth, SpellsEach, SpellsMany}
use Rattle.aq_grammar.specs.Sets.{Marks, of_many, same_kinds, heads}
use Rattle.aq_grammar.proofs.Languages.{HasMarks, IsBehindBeginning}
use Rattle.aq_grammar.proofs.Cuts.{parts_of_nothing}
use Rattle.aq_grammar.proofs.Apart.{are_apart_sound, is_of_front, is_of_behind, no_kinds_begin}
use Rattle.aq_grammar.proofs.Keeping.{SpellsEither, BarsEither, AreRepeated, keeps_many, refusals_open}
use Rattle.aq_grammar.proofs.Beginning.{begins_many, barred_many}
use Rattle.aq_grammar.proofs.RightForms.{AreAlike}
use Rattle.aq_grammar.proofs.RightBoth.{BothFit}
use Rattle.aq_grammar.proofs.RightMany.{StartsWith}
use Rattle.aq_grammar.proofs.RightFit.{starts_of_marks}

-- the state behind these
abbrev pub after : {S A : Type 0} → (S → A → S) → S → List A → S
after next state [] = state
after next state (x ∷ xs) = after next (next state x) xs

-- within one of them or where one begins, behind others
abbrev pub BarsEach : {S A : Type 0} → (S → A → S) → (S → List Refusal) → Form A → (S → Bar) → S → Bar
BarsEach {S} {A} next refusals Spelled bars state u rest fault =
    (front : List PlacedLexeme) × (behind : List PlacedLexeme) × (xs : List A) × SpellsEach Spelled xs front × (u ≡ front ++ behind)
    × (bars (after next state xs) behind rest fault ⊎ BarsHere (refusals (after next state xs)) behind rest fault)

abbrev pub together : {A : Type 0} → A → List A → List A
together x others = x ∷ others

-- one and then others, or none
abbrev pub OneAndMore : {A : Type 0} → Form A → Form (List A)
OneAndMore Spelled xs u = SpellsEither (SpellsBoth together Spelled (λ x. SpellsEach Spelled)) (SpellsNothing []) xs u

abbrev pub BarsOneAndMore : {S A : Type 0} → (S → A → S) → (S → List Refusal) → Form A → (S → Bar) → S → Bar
BarsOneAndMore next refusals Spelled bars state u rest fault =
    BarsEither (BarsBoth Spelled (bars state) (λ x. BarsEach next refusals Spelled bars (next state x))) BarsNone u rest fault

module _ {S A : Type 0} (next : S → A → S) (refusals : S → List Refusal) (Spelled : Form A) (bars : S → Bar) where
  each_from : (xs : List A) (u : List PlacedLexeme) → OneAndMore Spelled xs u → SpellsEach Spelled xs u
  each_from xs u (inl s) = rw s.7 (s.0, s.1, s.4, s.5, s.6)
  each_from xs u (inr s) = rw s.0 s.1

  each_back : (xs : List A) (u : List PlacedLexeme) → SpellsEach Spelled xs u → OneAndMore Spelled xs u
  each_back [] u e = inr (refl, e)
  each_back (x ∷ xs) u s = inl (s.0, s.1, x, xs, s.2, s.3, s.4, refl)

  bars_from : (state : S) (u rest : List PlacedLexeme) (fault : SqlFault)
      → BarsEither (BarsHere (refusals state)) (BarsOneAndMore next refusals Spelled bars state) u rest fault → BarsEach next refusals Spelled bars state u rest fault
  bars_from state u rest fault (inl here) = ([], u, [], refl, refl, inr here)
  bars_from state u rest fault (inr (inl (inl bar))) = ([], u, [], refl, refl, inl bar)
  bars_from state u rest fault (inr (inl (inr bar))) =
      let many = bar.5 in
      (bar.0 ++ many.0, many.1, bar.2 ∷ many.2, (bar.0, many.0, bar.3, many.3, refl), bar.4 ∙ ap (λ w. bar.0 ++ w) many.4 ∙ sym (append_assoc bar.0 many.0 many.1), many.5)
  bars_from state u rest fault (inr (inr bar)) = absurd bar

  at_once : (state : S) (u rest : List PlacedLexeme) (fault : SqlFault) → bars state u rest fault ⊎ BarsHere (refusals state) u rest fault
      → BarsEither (BarsHere (refusals state)) (BarsOneAndMore next refusals Spelled bars state) u rest fault
  at_once state u rest fault (inl bar) = inr (inl (inl bar))
  at_once state u rest fault (inr here) = inl here

  bars_by : (xs : List A) (state : S) (u rest front behind : List PlacedLexeme) (fault : SqlFault) → SpellsEach Spelled xs front → u ≡ front ++ behind
      → bars (after next state xs) behind rest fault ⊎ BarsHere (refusals (after next state xs)) behind rest fault
      → BarsEither (BarsHere (refusals state)) (BarsOneAndMore next refusals Spelled bars state) u rest fault
  bars_by [] state u rest front behind fault s e bar = rw (e ∙ ap (λ w. w ++ behind) s) (at_once state behind rest fault bar)
  bars_by (x ∷ xs) state u rest front behind fault s e bar =
      inr (inl (inr (s.0, s.1 ++ behind, x, s.2, e ∙ ap (λ w. w ++ behind) s.4 ∙ append_assoc s.0 s.1 behind, (s.1, behind, xs, s.3, refl, bar))))

  -- any number of them are none, or one with any number behind it
  pub each_alike : (state : S)
      → AreAlike (OneAndMore Spelled) (SpellsEach Spelled) (BarsEither (BarsHere (refusals state)) (BarsOneAndMore next refusals Spelled bars state))
      (BarsEach next refusals Spelled bars state)
  each_alike state =
      record {
        spelled = each_from;
        spelled_back = each_back;
        barred = bars_from state;
        barred_back = λ u rest fault bar. bars_by bar.2 state u rest bar.0 bar.1 fault bar.3 bar.4 bar.5;
      }

-- one of them can be told apart from what comes behind it
pub record EachFit {S A : Type 0} (kinds : List Terminal) (next : S → A → S) (refusals : S → List Refusal) (Spelled : Form A) (bars : S → Bar) : Type 0 where
  pub starts : (state : S) → StartsWith kinds Spelled (bars state)
  pub fit : (state : S) → BothFit Spelled (λ x. SpellsEach Spelled) (bars state) (λ x. BarsEach next refusals Spelled bars (next state x))

-- forms with these marks
module _ {S A : Type 0} (next : S → A → S) (refusals : S → List Refusal) (Spelled : Form A) (bars : S → Bar) (a : Marks)
    (has : (state : S) → HasMarks Spelled (bars state) a) (fit : (state : S) → AreRepeated (refusals state) a) where
  barred_each : (state : S) → IsBehindBeginning (SpellsEach Spelled) (BarsEach next refusals Spelled bars state)
  barred_each state u rest fault bar =
      let last = after next state bar.2 in
      let begun = barred_many (λ xs. xs) (refusals last) Spelled (bars last) (has last).barred u rest fault (bar.0, bar.1, bar.2, bar.3, bar.4, bar.5) in
      (begun.0, begun.2.0, begun.2.1)

  opened_at : (state : S) (xs : List A) (rest : List PlacedLexeme) (fault : SqlFault) → SpellsEach Spelled xs []
      → bars (after next state xs) [] rest fault ⊎ BarsHere (refusals (after next state xs)) [] rest fault → begins (heads (refusals state)) rest ≡ true
  opened_at state [] rest fault s (inl bar) = absurd (no_kinds_begin a.opens rest (fit state).opens_none ((has state).keeps.opened rest fault bar))
  opened_at state [] rest fault s (inr here) = refusals_open (refusals state) rest fault (fit state).worded here.1
  opened_at state (x ∷ xs) rest fault s bar =
      absurd ((has state).keeps.not_empty (fit state).whole x (subst (λ (w : List PlacedLexeme). Spelled x w) (parts_of_nothing s.0 s.1 s.4).0 s.2))

  opened_each : (state : S) (rest : List PlacedLexeme) (fault : SqlFault) → BarsEach next refusals Spelled bars state [] rest fault → begins (heads (refusals state)) rest ≡ true
  opened_each state rest fault bar =
      let parts = parts_of_nothing bar.0 bar.1 bar.4 in
      opened_at state bar.2 rest fault (subst (λ (w : List PlacedLexeme). SpellsEach Spelled bar.2 w) parts.0 bar.3)
      (subst (λ (w : List PlacedLexeme). bars (after next state bar.2) w rest fault ⊎ BarsHere (refusals (after next state bar.2)) w rest fault) parts.1 bar.5)

  -- what any number of them have, whatever is refused
  abbrev pub of_each : S → Marks
  of_each state = record (of_many (refusals state) a) { is_plain = false }

  begins_as_many : (u : List PlacedLexeme) → Begins (SpellsEach Spelled) u → Begins (SpellsMany (λ xs. xs) Spelled) u
  begins_as_many u b = (b.0, b.1, (b.1, b.2, refl))

  pub each_has : (state : S) → HasMarks (SpellsEach Spelled) (BarsEach next refusals Spelled bars state) (of_each state)
  each_has state =
      let many = keeps_many (λ xs. xs) (refusals state) Spelled (bars state) a (has state).keeps (fit state) in
      let begin = begins_many (λ xs. xs) (refusals state) Spelled a (has state).begins_so in
      record {
        keeps =
            record {
              begun = λ token u b. many.begun token u (begins_as_many (token ∷ u) b);
              gone_on = λ xs u token s b. many.gone_on xs u token (xs, s, refl) (begins_as_many (u ++ token ∷ []) b);
              not_empty = λ n xs s. cc;
              opened = opened_each state;
              plain = λ n u rest fault bar. cc;
            };
        some = ([], [], refl);
        begins_so =
            record {
              begin = λ token is. let b = begin.begin token is in (b.0, b.2.0, b.2.1);
              empty = λ e. ([], refl);
            };
        barred = barred_each state;
      }

  each_fit_quiet : (state : S) (x : A) (front : List PlacedLexeme) (token : PlacedLexeme) (rest : List PlacedLexeme) (fault : SqlFault)
      → Spelled x front → Begins Spelled (front ++ token ∷ []) → BarsEach next refusals Spelled bars (next state x) [] (token ∷ rest) fault → ⊥
  each_fit_quiet state x front token rest fault s more bar =
      are_apart_sound a.goes_on (a.begins ++ heads (refusals (next state x))) token (fit (next state x)).apart ((has state).keeps.gone_on x front token s more)
      (is_of_behind a.begins (heads (refusals (next state x))) token (opened_each (next state x) (token ∷ rest) fault bar))

  pub each_fit : (kinds : List Terminal) → same_kinds kinds a.begins ≡ true → EachFit kinds next refusals Spelled bars
  each_fit kinds same =
      record {
        starts = λ state. starts_of_marks kinds Spelled (bars state) a (has state) same (fit state).whole (fit state).opens_none;
        fit =
            λ state. record {
              apart = λ x front token behind s more begun.
                  are_apart_sound a.goes_on (a.begins ++ heads (refusals state)) token (fit state).apart ((has state).keeps.gone_on x front token s more)
                  (is_of_front a.begins (heads (refusals state)) token ((each_has state).keeps.begun token behind begun));
              quiet = each_fit_quiet state;
              barred = (has state).barred;
              barred_second = λ x. barred_each (next state x);
              some_second = λ x. ([], [], refl);
            };
      }
