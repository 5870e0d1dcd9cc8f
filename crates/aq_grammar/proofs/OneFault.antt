-- At one place a form refuses with one fault, where what it refuses behind a whole form begins otherwise than what is refused there beside it.
use Rattle.std.proofs.Common.{◌≡◌, ℕ, suc, true, List, [], ◌∷◌, ◌++◌, length, refl, sym, ap, ◌∙◌, subst, append_assoc, ◌⊎◌, inl, inr}
use Rattle.std.proofs.lemmas.List.{append-nil}
use Rattle.aq_base.specs.declared.fault.SqlFault.{SqlFault}
use Rattle.aq_lex.specs.Lexemes.{PlacedLexeme}
use Rattle.aq_grammar.specs.Terminals.{Terminal, begins}
use Rattle.aq_grammar.specs.Rules.{Refusal, Form, Bar, Begins, IsRefused, BarsHere, BarsNext, BarsBoth, SpellsBoth, SpellsEach}
use Rattle.aq_grammar.specs.Sets.{Marks, are_apart}
use Rattle.aq_grammar.proofs.Languages.{HasMarks}
use Rattle.aq_grammar.proofs.Cuts.{Compared, Same, Longer, Shorter, compare, parts_of_nothing}
use Rattle.aq_grammar.proofs.Apart.{are_apart_sound, no_kinds_begin}
use Rattle.aq_grammar.proofs.Keeping.{SpellsEither, BarsEither, AreDistinct}
use Rattle.aq_grammar.proofs.RightForms.{begins_whole, begins_first}
use Rattle.aq_grammar.proofs.RightBoth.{BothFit}
use Rattle.aq_grammar.proofs.RefusedAt.{HasOneFault}
use Rattle.aq_grammar.proofs.Each.{after, BarsEach, EachFit}

-- what is refused behind a whole form begins so
abbrev pub ClosesSo : {A : Type 0} → Form A → Bar → List Terminal → Type 0
ClosesSo {A} Spelled bars kinds = (x : A) (u rest : List PlacedLexeme) (fault : SqlFault) → Spelled x u → bars u rest fault → begins kinds rest ≡ true

pub apart_begins : (kinds others : List Terminal) (tokens : List PlacedLexeme) → are_apart kinds others ≡ true → begins kinds tokens ≡ true → begins others tokens ≡ true → ⊥
apart_begins kinds others [] apart h k = cc
apart_begins kinds others (token ∷ tokens) apart h k = are_apart_sound kinds others token apart h k

pub one_refused : (refusals : List Refusal) (rest : List PlacedLexeme) (one two : SqlFault) → IsRefused refusals rest one → IsRefused refusals rest two → one ≡ two
one_refused refusals rest one two first second = cc

-- ---- the one and then the other

module _ {A B C : Type 0} (f : A → B → C) (First : Form A) (Second : A → Form B) (first : Bar) (second : A → Bar) (fit : BothFit First Second first second) where
  -- a whole first form doesn't go on with what begins the second
  not_on : (a : A) (front : List PlacedLexeme) (token : PlacedLexeme) (more behind : List PlacedLexeme) → First a front → Begins First (front ++ token ∷ more)
      → Begins (Second a) (token ∷ behind) → ⊥
  not_on a front token more behind s longer begun = fit.apart a front token behind s (begins_first First front token more longer) begun

  module _ (same : (x y : A) (u : List PlacedLexeme) → First x u → First y u → (v rest : List PlacedLexeme) (fault : SqlFault) → second y v rest fault → second x v rest fault) where
    -- behind a first form the second is barred, in whichever way the tokens are cut
    second_cut : (x y : A) (u v front behind rest : List PlacedLexeme) (fault : SqlFault) → First x u → Begins (Second x) v → First y front → second y behind rest fault
        → Compared u v front behind → second x v rest fault
    second_cut x y u v front behind rest fault s b t bar (Same e p) =
        same x y u s (subst (λ (w : List PlacedLexeme). First y w) (sym e) t) v rest fault (subst (λ (w : List PlacedLexeme). second y w rest fault) (sym p) bar)
    second_cut x y u v front behind rest fault s b t bar (Longer token more e p) =
        absurd (not_on y front token more (more ++ v) t (subst (λ (w : List PlacedLexeme). Begins First w) e (begins_whole First x u s))
        (subst (λ (w : List PlacedLexeme). Begins (Second y) w) p (fit.barred_second y behind rest fault bar)))
    second_cut x y u v front behind rest fault s b t bar (Shorter token more e p) =
        absurd (not_on x u token more (more ++ behind) s (subst (λ (w : List PlacedLexeme). Begins First w) e (begins_whole First y front t))
        (subst (λ (w : List PlacedLexeme). Begins (Second x) w) p b))

    module _ (closed : (x : A) (u rest : List PlacedLexeme) (one two : SqlFault) → First x u → first u rest one → second x [] rest two → ⊥) where
      first_alone : (x : A) (u front behind rest : List PlacedLexeme) (one two : SqlFault) → first u rest one → First x front → u ≡ front ++ behind → second x behind rest two → ⊥
      first_alone x u front [] rest one two bar s e other =
          closed x front rest one two s (subst (λ (w : List PlacedLexeme). first w rest one) (e ∙ append-nil front) bar) other
      first_alone x u front (token ∷ more) rest one two bar s e other =
          not_on x front token more more s (subst (λ (w : List PlacedLexeme). Begins First w) e (fit.barred u rest one bar)) (fit.barred_second x (token ∷ more) rest two other)

      pub one_both : HasOneFault first → ((x : A) → HasOneFault (second x)) → HasOneFault (BarsBoth First first second)
      one_both one_first one_second u rest one two (inl bar) (inl other) = one_first u rest one two bar other
      one_both one_first one_second u rest one two (inl bar) (inr other) = absurd (first_alone other.2 u other.0 other.1 rest one two bar other.3 other.4 other.5)
      one_both one_first one_second u rest one two (inr bar) (inl other) = absurd (first_alone bar.2 u bar.0 bar.1 rest two one other bar.3 bar.4 bar.5)
      one_both one_first one_second u rest one two (inr bar) (inr other) =
          one_second bar.2 bar.1 rest one two bar.5
          (second_cut bar.2 other.2 bar.0 bar.1 other.0 other.1 rest two bar.3 (fit.barred_second bar.2 bar.1 rest one bar.5) other.3 other.5
          (compare bar.0 bar.1 other.0 other.1 (sym bar.4 ∙ other.4)))

    -- what is refused behind both is refused behind the second, or behind the first where the second is empty
    pub closes_both : (P : List PlacedLexeme → Type 0) → ((x : A) (z : B) (u rest : List PlacedLexeme) (fault : SqlFault) → First x u → Second x z [] → first u rest fault → P rest)
        → ((x : A) (z : B) (v rest : List PlacedLexeme) (fault : SqlFault) → Second x z v → second x v rest fault → P rest)
        → (y : C) (u rest : List PlacedLexeme) (fault : SqlFault) → SpellsBoth f First Second y u → BarsBoth First first second u rest fault → P rest
    closes_both P closed closed_second y u rest fault (front, [], x, z, s, t, e, is) (inl bar) =
        closed x z front rest fault s t (subst (λ (w : List PlacedLexeme). first w rest fault) (e ∙ append-nil front) bar)
    closes_both P closed closed_second y u rest fault (front, token ∷ more, x, z, s, t, e, is) (inl bar) =
        absurd (not_on x front token more more s (subst (λ (w : List PlacedLexeme). Begins First w) e (fit.barred u rest fault bar)) (begins_whole (Second x) z (token ∷ more) t))
    closes_both P closed closed_second y u rest fault (front, behind, x, z, s, t, e, is) (inr bar) =
        closed_second x z behind rest fault t
        (second_cut x bar.2 front behind bar.0 bar.1 rest fault s (begins_whole (Second x) z behind t) bar.3 bar.5 (compare front behind bar.0 bar.1 (sym e ∙ bar.4)))

-- ---- the one or the other

module _ {A : Type 0} (First Second : Form A) (first second : Bar) (a b : Marks) (has : HasMarks First first a) (other : HasMarks Second second b) (fit : AreDistinct a b) where
  both_begun : (u : List PlacedLexeme) (token : PlacedLexeme) → Begins First (token ∷ u) → Begins Second (token ∷ u) → ⊥
  both_begun u token h k = are_apart_sound a.begins b.begins token fit.apart (has.keeps.begun token u h) (other.keeps.begun token u k)

  not_both_barred : (u rest : List PlacedLexeme) (one two : SqlFault) → first u rest one → second u rest two → ⊥
  not_both_barred [] rest one two bar bar2 = no_kinds_begin a.opens rest fit.first_opens_none (has.keeps.opened rest one bar)
  not_both_barred (token ∷ u) rest one two bar bar2 = both_begun u token (has.barred (token ∷ u) rest one bar) (other.barred (token ∷ u) rest two bar2)

  pub one_either : HasOneFault first → HasOneFault second → HasOneFault (BarsEither first second)
  one_either one_first one_second u rest one two (inl bar) (inl bar2) = one_first u rest one two bar bar2
  one_either one_first one_second u rest one two (inl bar) (inr bar2) = absurd (not_both_barred u rest one two bar bar2)
  one_either one_first one_second u rest one two (inr bar) (inl bar2) = absurd (not_both_barred u rest two one bar2 bar)
  one_either one_first one_second u rest one two (inr bar) (inr bar2) = one_second u rest one two bar bar2

  first_not_barred : (x : A) (u rest : List PlacedLexeme) (fault : SqlFault) → Second x u → first u rest fault → ⊥
  first_not_barred x [] rest fault s bar = no_kinds_begin a.opens rest fit.first_opens_none (has.keeps.opened rest fault bar)
  first_not_barred x (token ∷ u) rest fault s bar = both_begun u token (has.barred (token ∷ u) rest fault bar) (begins_whole Second x (token ∷ u) s)

  second_not_barred : (x : A) (u rest : List PlacedLexeme) (fault : SqlFault) → First x u → second u rest fault → ⊥
  second_not_barred x [] rest fault s bar = has.keeps.not_empty fit.whole x s
  second_not_barred x (token ∷ u) rest fault s bar = both_begun u token (begins_whole First x (token ∷ u) s) (other.barred (token ∷ u) rest fault bar)

  pub closes_either : (P : List PlacedLexeme → Type 0) → ((x : A) (u rest : List PlacedLexeme) (fault : SqlFault) → First x u → first u rest fault → P rest)
      → ((x : A) (u rest : List PlacedLexeme) (fault : SqlFault) → Second x u → second u rest fault → P rest)
      → (x : A) (u rest : List PlacedLexeme) (fault : SqlFault) → SpellsEither First Second x u → BarsEither first second u rest fault → P rest
  closes_either P closed closed_second x u rest fault (inl s) (inl bar) = closed x u rest fault s bar
  closes_either P closed closed_second x u rest fault (inl s) (inr bar) = absurd (second_not_barred x u rest fault s bar)
  closes_either P closed closed_second x u rest fault (inr s) (inl bar) = absurd (first_not_barred x u rest fault s bar)
  closes_either P closed closed_second x u rest fault (inr s) (inr bar) = closed_second x u rest fault s bar

-- ---- any number of them

module _ {S A : Type 0} (kinds : List Terminal) (next : S → A → S) (refusals : S → List Refusal) (Spelled : Form A) (bars : S → Bar)
    (fit : EachFit kinds next refusals Spelled bars) where
  abbrev At : S → Bar
  At state u rest fault = bars state u rest fault ⊎ BarsHere (refusals state) u rest fault

  on_each : (state : S) (x : A) (front : List PlacedLexeme) (token : PlacedLexeme) (more behind rest : List PlacedLexeme) (fault : SqlFault) → Spelled x front
      → Begins Spelled (front ++ token ∷ more) → BarsEach next refusals Spelled bars (next state x) (token ∷ behind) rest fault → ⊥
  on_each state x front token more behind rest fault s longer bar =
      (fit.fit state).apart x front token behind s (begins_first Spelled front token more longer) ((fit.fit state).barred_second x (token ∷ behind) rest fault bar)

  not_first_empty : (state : S) (x : A) (front behind : List PlacedLexeme) → [] ≡ front ++ behind → Spelled x front → ⊥
  not_first_empty state x front behind e s = (fit.starts state).not_empty x (subst (λ (w : List PlacedLexeme). Spelled x w) (parts_of_nothing front behind e).0 s)

  abbrev Ends : S → List A → List PlacedLexeme → List PlacedLexeme → SqlFault → Type 0
  Ends state xs u rest fault =
      (front : List PlacedLexeme) × (behind : List PlacedLexeme) × SpellsEach Spelled xs front × (u ≡ front ++ behind) × At (after next state xs) behind rest fault

  at_nothing : (state : S) (u rest : List PlacedLexeme) (fault : SqlFault) → Ends state [] u rest fault → At state u rest fault
  at_nothing state u rest fault (front, behind, s, e, bar) =
      subst (λ (w : List PlacedLexeme). At state w rest fault) (sym (e ∙ ap (λ (w : List PlacedLexeme). w ++ behind) s)) bar

  -- the first of them, and what comes behind it
  behind_first : (state : S) (x : A) (xs : List A) (u rest : List PlacedLexeme) (fault : SqlFault) → Ends state (x ∷ xs) u rest fault
      → (front : List PlacedLexeme) × (behind : List PlacedLexeme) × Spelled x front × (u ≡ front ++ behind) × Ends (next state x) xs behind rest fault
  behind_first state x xs u rest fault (front, behind, s, e, bar) =
      (s.0, s.1 ++ behind, s.2, e ∙ ap (λ (w : List PlacedLexeme). w ++ behind) s.4 ∙ append_assoc s.0 s.1 behind, (s.1, behind, s.3, refl, bar))

  as_each : (state : S) (xs : List A) (u rest : List PlacedLexeme) (fault : SqlFault) → Ends state xs u rest fault → BarsEach next refusals Spelled bars state u rest fault
  as_each state xs u rest fault (front, behind, s, e, bar) = (front, behind, xs, s, e, bar)

  spelled_not_on : (x : A) (xs : List A) (front : List PlacedLexeme) (token : PlacedLexeme) (more behind : List PlacedLexeme) (state : S) → Spelled x front
      → Begins Spelled (front ++ token ∷ more) → SpellsEach Spelled xs (token ∷ behind) → ⊥
  spelled_not_on x xs front token more behind state s longer each =
      (fit.fit state).apart x front token behind s (begins_first Spelled front token more longer) (begins_whole (SpellsEach Spelled) xs (token ∷ behind) each)

  -- the same tokens are so many of them in one way only
  same_count : (xs ys : List A) (state : S) (u : List PlacedLexeme) → SpellsEach Spelled xs u → SpellsEach Spelled ys u → length xs ≡ length ys
  same_count [] [] state u s t = refl
  same_count [] (y ∷ ys) state u s (front, behind, t, others, e) = absurd (not_first_empty state y front behind (sym s ∙ e) t)
  same_count (x ∷ xs) [] state u (front, behind, s, others, e) t = absurd (not_first_empty state x front behind (sym t ∙ e) s)
  same_count (x ∷ xs) (y ∷ ys) state u (front, behind, s, each, e) (other, last, t, others, p) =
      elim (compare front behind other last (sym e ∙ p)) [
        | Same q r ↦ ap suc (same_count xs ys state behind each (subst (λ (w : List PlacedLexeme). SpellsEach Spelled ys w) (sym r) others))
        | Longer token more q r ↦
            absurd (spelled_not_on y ys other token more (more ++ behind) state t (subst (λ (w : List PlacedLexeme). Begins Spelled w) q (begins_whole Spelled x front s))
            (subst (λ (w : List PlacedLexeme). SpellsEach Spelled ys w) r others))
        | Shorter token more q r ↦
            absurd (spelled_not_on x xs front token more (more ++ last) state s (subst (λ (w : List PlacedLexeme). Begins Spelled w) q (begins_whole Spelled y other t))
            (subst (λ (w : List PlacedLexeme). SpellsEach Spelled xs w) r each))
      ]

  pub each_count : (state : S) (xs ys : List A) (u : List PlacedLexeme) → SpellsEach Spelled xs u → SpellsEach Spelled ys u → length xs ≡ length ys
  each_count state xs ys u s t = same_count xs ys state u s t

  module _ (P : List PlacedLexeme → Type 0) (closed : (state : S) (x : A) (u rest : List PlacedLexeme) (fault : SqlFault) → Spelled x u → bars state u rest fault → P rest)
      (closed_here : (state : S) (rest : List PlacedLexeme) (fault : SqlFault) → IsRefused (refusals state) rest fault → P rest) where
    last_closes : (state : S) (x : A) (xs : List A) (u front behind rest : List PlacedLexeme) (fault : SqlFault) → Spelled x front → SpellsEach Spelled xs behind → u ≡ front ++ behind
        → bars state u rest fault → P rest
    last_closes state x xs u front [] rest fault s each e bar =
        closed state x front rest fault s (subst (λ (w : List PlacedLexeme). bars state w rest fault) (e ∙ append-nil front) bar)
    last_closes state x xs u front (token ∷ more) rest fault s each e bar =
        absurd (spelled_not_on x xs front token more more state s (subst (λ (w : List PlacedLexeme). Begins Spelled w) e ((fit.fit state).barred u rest fault bar)) each)

    closes_at : (xs : List A) (state : S) (u rest : List PlacedLexeme) (fault : SqlFault) → SpellsEach Spelled xs u → At state u rest fault → P rest
    closes_at xs state u rest fault s (inr here) = closed_here state rest fault here.1
    closes_at [] state u rest fault s (inl bar) = absurd ((fit.starts state).quiet rest fault (subst (λ (w : List PlacedLexeme). bars state w rest fault) s bar))
    closes_at (x ∷ xs) state u rest fault s (inl bar) = last_closes state x xs u s.0 s.1 rest fault s.2 s.3 s.4 bar

    closes_from : (xs ys : List A) (state : S) (u rest : List PlacedLexeme) (fault : SqlFault) → SpellsEach Spelled xs u → Ends state ys u rest fault → P rest
    closes_from xs [] state u rest fault s ends = closes_at xs state u rest fault s (at_nothing state u rest fault ends)
    closes_from [] (y ∷ ys) state u rest fault s ends =
        let behind = behind_first state y ys u rest fault ends in
        absurd (not_first_empty state y behind.0 behind.1 (sym s ∙ behind.3) behind.2)
    closes_from (x ∷ xs) (y ∷ ys) state u rest fault (front, behind, s, each, e) ends =
        let (other, last, t, p, others) = behind_first state y ys u rest fault ends in
        elim (compare front behind other last (sym e ∙ p)) [
          | Same q r ↦ closes_from xs ys (next state y) behind rest fault each (subst (λ (w : List PlacedLexeme). Ends (next state y) ys w rest fault) (sym r) others)
          | Longer token more q r ↦
              absurd (on_each state y other token more (more ++ behind) rest fault t
              (subst (λ (w : List PlacedLexeme). Begins Spelled w) q (begins_whole Spelled x front s))
              (subst (λ (w : List PlacedLexeme). BarsEach next refusals Spelled bars (next state y) w rest fault) r (as_each (next state y) ys last rest fault others)))
          | Shorter token more q r ↦
              absurd (spelled_not_on x xs front token more (more ++ last) state s
              (subst (λ (w : List PlacedLexeme). Begins Spelled w) q (begins_whole Spelled y other t))
              (subst (λ (w : List PlacedLexeme). SpellsEach Spelled xs w) r each))
        ]

    -- what is refused behind any number of them is refused behind the last, or before another
    pub closes_each : (xs : List A) (state : S) (u rest : List PlacedLexeme) (fault : SqlFault) → SpellsEach Spelled xs u → BarsEach next refusals Spelled bars state u rest fault → P rest
    closes_each xs state u rest fault s (front, behind, ys, each, e, bar) = closes_from xs ys state u rest fault s (front, behind, each, e, bar)

  module _ (same_next : (state : S) (x y : A) (u : List PlacedLexeme) → Spelled x u → Spelled y u → next state x ≡ next state y)
      (closed : (state : S) (x : A) (u rest : List PlacedLexeme) (one two : SqlFault) → Spelled x u → bars state u rest one
      → BarsEach next refusals Spelled bars (next state x) [] rest two → ⊥)
      (one_of : (state : S) → HasOneFault (bars state)) where
    -- within the first of them, and behind it
    not_within : (state : S) (x : A) (u front behind rest : List PlacedLexeme) (one two : SqlFault) → bars state u rest one → Spelled x front → u ≡ front ++ behind
        → BarsEach next refusals Spelled bars (next state x) behind rest two → ⊥
    not_within state x u front [] rest one two bar s e other =
        closed state x front rest one two s (subst (λ (w : List PlacedLexeme). bars state w rest one) (e ∙ append-nil front) bar) other
    not_within state x u front (token ∷ more) rest one two bar s e other =
        on_each state x front token more more rest two s (subst (λ (w : List PlacedLexeme). Begins Spelled w) e ((fit.fit state).barred u rest one bar)) other

    at_not_behind : (state : S) (x : A) (u front behind rest : List PlacedLexeme) (one two : SqlFault) → At state u rest one → Spelled x front → u ≡ front ++ behind
        → BarsEach next refusals Spelled bars (next state x) behind rest two → ⊥
    at_not_behind state x u front behind rest one two (inl bar) s e other = not_within state x u front behind rest one two bar s e other
    at_not_behind state x u front behind rest one two (inr here) s e other = not_first_empty state x front behind (sym here.0 ∙ e) s

    one_at : (state : S) (u rest : List PlacedLexeme) (one two : SqlFault) → At state u rest one → At state u rest two → one ≡ two
    one_at state u rest one two (inl bar) (inl other) = one_of state u rest one two bar other
    one_at state u rest one two (inr here) (inr other) = one_refused (refusals state) rest one two here.1 other.1
    one_at state u rest one two (inl bar) (inr here) =
        absurd ((fit.starts state).quiet rest one (subst (λ (w : List PlacedLexeme). bars state w rest one) here.0 bar))
    one_at state u rest one two (inr here) (inl bar) =
        absurd ((fit.starts state).quiet rest two (subst (λ (w : List PlacedLexeme). bars state w rest two) here.0 bar))

    one_from : (xs ys : List A) (state : S) (u rest : List PlacedLexeme) (one two : SqlFault) → Ends state xs u rest one → Ends state ys u rest two → one ≡ two
    one_from [] [] state u rest one two first second = one_at state u rest one two (at_nothing state u rest one first) (at_nothing state u rest two second)
    one_from [] (y ∷ ys) state u rest one two first second =
        let behind = behind_first state y ys u rest two second in
        absurd (at_not_behind state y u behind.0 behind.1 rest one two (at_nothing state u rest one first) behind.2 behind.3 (as_each (next state y) ys behind.1 rest two behind.4))
    one_from (x ∷ xs) [] state u rest one two first second =
        let behind = behind_first state x xs u rest one first in
        absurd (at_not_behind state x u behind.0 behind.1 rest two one (at_nothing state u rest two second) behind.2 behind.3 (as_each (next state x) xs behind.1 rest one behind.4))
    one_from (x ∷ xs) (y ∷ ys) state u rest one two first second =
        let (front, behind, s, e, more) = behind_first state x xs u rest one first in
        let (other, last, t, p, others) = behind_first state y ys u rest two second in
        elim (compare front behind other last (sym e ∙ p)) [
          | Same q r ↦
              let same = same_next state x y front s (subst (λ (w : List PlacedLexeme). Spelled y w) (sym q) t) in
              let others_here = subst (λ (w : List PlacedLexeme). Ends (next state y) ys w rest two) (sym r) others in
              one_from xs ys (next state x) behind rest one two more (subst (λ (n : S). Ends n ys behind rest two) (sym same) others_here)
          | Longer token rest_of_front q r ↦
              absurd (on_each state y other token rest_of_front (rest_of_front ++ behind) rest two t
              (subst (λ (w : List PlacedLexeme). Begins Spelled w) q (begins_whole Spelled x front s))
              (subst (λ (w : List PlacedLexeme). BarsEach next refusals Spelled bars (next state y) w rest two) r (as_each (next state y) ys last rest two others)))
          | Shorter token rest_of_other q r ↦
              absurd (on_each state x front token rest_of_other (rest_of_other ++ last) rest one s
              (subst (λ (w : List PlacedLexeme). Begins Spelled w) q (begins_whole Spelled y other t))
              (subst (λ (w : List PlacedLexeme). BarsEach next refusals Spelled bars (next state x) w rest one) r (as_each (next state x) xs behind rest one more)))
        ]

    pub one_each : (state : S) → HasOneFault (BarsEach next refusals Spelled bars state)
    one_each state u rest one two (front, behind, xs, s, e, bar) (other, last, ys, t, p, bar2) =
        one_from xs ys state u rest one two (front, behind, s, e, bar) (other, last, t, p, bar2)

-- ---- limits, and refusals before a form

module _ {A : Type 0} (most : ℕ) (limit : SqlFault) (Spelled : Form A) where
  pub one_next : HasOneFault (BarsNext most limit Spelled)
  one_next [] rest one two first second = absurd first
  one_next (token ∷ u) [] one two first second = absurd first
  one_next (token ∷ u) (next ∷ rest) one two first second = first.2 ∙ sym second.2

  pub closes_next : (a : Marks) (bars : Bar) → HasMarks Spelled bars a → ClosesSo Spelled (BarsNext most limit Spelled) a.goes_on
  closes_next a bars has x [] rest fault s bar = absurd bar
  closes_next a bars has x (token ∷ u) [] fault s bar = absurd bar
  closes_next a bars has x (token ∷ u) (next ∷ rest) fault s bar = has.keeps.gone_on x (token ∷ u) next s bar.1

pub one_unless : (refusals : List Refusal) (bars : Bar) → ((rest : List PlacedLexeme) (one two : SqlFault) → IsRefused refusals rest one → bars [] rest two → ⊥)
    → HasOneFault bars → HasOneFault (BarsEither (BarsHere refusals) bars)
one_unless refusals bars apart one_of u rest one two (inl here) (inl other) = one_refused refusals rest one two here.1 other.1
one_unless refusals bars apart one_of u rest one two (inl here) (inr bar) = absurd (apart rest one two here.1 (subst (λ (w : List PlacedLexeme). bars w rest two) here.0 bar))
one_unless refusals bars apart one_of u rest one two (inr bar) (inl here) = absurd (apart rest two one here.1 (subst (λ (w : List PlacedLexeme). bars w rest one) here.0 bar))
one_unless refusals bars apart one_of u rest one two (inr bar) (inr other) = one_of u rest one two bar other
