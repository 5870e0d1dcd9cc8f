-- Reading one form and then another, which may hang on the tree of the first.
use Rattle.std.proofs.Common.{◌≡◌, List, [], ◌∷◌, ◌++◌, refl, sym, ap, ◌∙◌, subst, ◌⊎◌, inl, inr}
use Rattle.std.proofs.lemmas.List.{append_assoc, append-nil, append_cancel_left}
use Rattle.aq_base.specs.declared.fault.SqlFault.{SqlFault}
use Rattle.aq_lex.specs.Lexemes.{PlacedLexeme}
use Rattle.aq_grammar.specs.Rules.{Form, Bar, Begins, SpellsBoth, BarsBoth}
use Rattle.aq_grammar.specs.Reading.{Outcome, Read, Stop, Syntax, Refused, Reader, read_both, ◌>>=◌}
use Rattle.aq_grammar.specs.Places.{IsClear, IsStuck, IsRead}
use Rattle.aq_grammar.proofs.Languages.{IsStopped, IsRefusal, Explains, IsRight, IsSpelled, IsBehindBeginning, rest_of}
use Rattle.aq_grammar.proofs.Cuts.{Compared, Same, Longer, Shorter, compare, no_shorter, regroup}
use Rattle.aq_grammar.proofs.RightChoice.{not_nil}
use Rattle.aq_grammar.proofs.RightForms.{begins_whole, begins_first}

-- no token goes on with a whole of the first form and begins the second too, or what is refused before it
pub record BothFit {A B : Type 0} (First : Form A) (Second : A → Form B) (first : Bar) (second : A → Bar) : Type 0 where
  pub apart : (a : A) (front : List PlacedLexeme) (token : PlacedLexeme) (behind : List PlacedLexeme) → First a front → Begins First (front ++ token ∷ []) → Begins (Second a) (token ∷ behind) → ⊥
  pub quiet : (a : A) (front : List PlacedLexeme) (token : PlacedLexeme) (rest : List PlacedLexeme) (fault : SqlFault)
      → First a front → Begins First (front ++ token ∷ []) → second a [] (token ∷ rest) fault → ⊥
  pub barred : IsBehindBeginning First first
  pub barred_second : (a : A) → IsBehindBeginning (Second a) (second a)
  pub some_second : (a : A) → IsSpelled (Second a)

-- where the second begins: behind the front that was read, or at the end of a shorter one with nothing read of it
data Start (front rest u v z : List PlacedLexeme) : Type 0 where
  behind_front : u ≡ front → v ++ z ≡ rest → Start front rest u v z
  within_front : (token : PlacedLexeme) (others : List PlacedLexeme) → v ≡ [] → front ≡ u ++ token ∷ others → z ≡ token ∷ others ++ rest → Start front rest u v z

module _ {A B C : Type 0} (f : A → B → C) (First : Form A) (Second : A → Form B) (first : Bar) (second : A → Bar) (fit : BothFit First Second first second) where
  begun_by : (w v front behind : List PlacedLexeme) (a : A) (b : B) → First a front → Second a b behind → Compared w v front behind
      → Begins First w ⊎ ((front : List PlacedLexeme) × (behind : List PlacedLexeme) × (a : A) × First a front × Begins (Second a) behind × (w ≡ front ++ behind))
  begun_by w v front behind a b s t (Same e p) = inl (subst (λ (x : List PlacedLexeme). Begins First x) (sym e) (begins_whole First a front s))
  begun_by w v front behind a b s t (Longer token others e p) =
      inr (front, token ∷ others, a, s, (v, b, subst (λ (x : List PlacedLexeme). Second a b x) p t), e)
  begun_by w v front behind a b s t (Shorter token others e p) = inl (token ∷ others, a, subst (λ (x : List PlacedLexeme). First a x) e s)

  -- a beginning of both begins the first, or the second behind a whole of the first
  pub both_begun : (w : List PlacedLexeme) → Begins (SpellsBoth f First Second) w
      → Begins First w ⊎ ((front : List PlacedLexeme) × (behind : List PlacedLexeme) × (a : A) × First a front × Begins (Second a) behind × (w ≡ front ++ behind))
  both_begun w b = let s = b.2 in begun_by w b.0 s.0 s.1 s.2 s.3 s.4 s.5 (compare w b.0 s.0 s.1 s.6)

  pub both_begins : (w : List PlacedLexeme) → Begins First w → Begins (SpellsBoth f First Second) w
  both_begins w b =
      let some = fit.some_second b.1 in
      (b.0 ++ some.1, f b.1 some.0, (w ++ b.0, some.1, b.1, some.0, b.2, some.2, sym (append_assoc w b.0 some.1), refl))

  pub both_begins_second : (front behind : List PlacedLexeme) (a : A) → First a front → Begins (Second a) behind → Begins (SpellsBoth f First Second) (front ++ behind)
  both_begins_second front behind a s b =
      (b.0, f a b.1, (front, behind ++ b.0, a, b.1, s, b.2, append_assoc front behind b.0, refl))

  none_of_second : (u v z others rest : List PlacedLexeme) (token : PlacedLexeme) (a : A) → First a u → Begins First (u ++ token ∷ []) → Begins (Second a) v
      → v ++ z ≡ token ∷ others ++ rest → v ≡ []
  none_of_second u [] z others rest token a s b t e = refl
  none_of_second u (other ∷ v) z others rest token a s b t e =
      let same_token : other ≡ token = cc in
      absurd (fit.apart a u token v s b (subst (λ (x : PlacedLexeme). Begins (Second a) (x ∷ v)) same_token t))

  module _ (front rest : List PlacedLexeme) (begun : Begins First front) where
    on_behind : (u others : List PlacedLexeme) (token : PlacedLexeme) → front ≡ u ++ token ∷ others → Begins First (u ++ token ∷ [])
    on_behind u others token e = begins_first First u token others (subst (λ (x : List PlacedLexeme). Begins First x) e begun)

    within : (u v z others : List PlacedLexeme) (token : PlacedLexeme) (a : A) → First a u → Begins (Second a) v → front ≡ u ++ token ∷ others → v ++ z ≡ token ∷ others ++ rest
        → Start front rest u v z
    within u v z others token a s t e p =
        let none : v ≡ [] = none_of_second u v z others rest token a s (on_behind u others token e) t p in
        within_front token others none e (subst (λ (x : List PlacedLexeme). x ++ z ≡ token ∷ others ++ rest) none p)

    bar_within : (u v behind : List PlacedLexeme) (token : PlacedLexeme) (fault : SqlFault) (a : A) → First a u → second a v (token ∷ behind ++ rest) fault → front ≡ u ++ (v ++ token ∷ behind) → ⊥
    bar_within u [] behind token fault a s bar e = fit.quiet a u token (behind ++ rest) fault s (on_behind u behind token e) bar
    bar_within u (other ∷ v) behind token fault a s bar e =
        fit.apart a u other v s (on_behind u (v ++ token ∷ behind) other e) (fit.barred_second a (other ∷ v) (token ∷ behind ++ rest) fault bar)

    within_clear : IsClear first front rest → IsClear (BarsBoth First first second) front rest
    within_clear clear before token behind fault e (inl bar) = clear before token behind fault e bar
    within_clear clear before token behind fault e (inr bar) =
        bar_within bar.0 bar.1 behind token fault bar.2 bar.3 bar.5 (e ∙ ap (λ x. x ++ token ∷ behind) bar.4 ∙ append_assoc bar.0 bar.1 (token ∷ behind))

    refusal_both : (fault : SqlFault) → IsRefusal First first fault front rest → IsRefusal (SpellsBoth f First Second) (BarsBoth First first second) fault front rest
    refusal_both fault r = record { clear = within_clear r.clear; begun = both_begins front begun; barred = inl r.barred }

    module _ (stuck : IsStuck First first front rest) where
      start_by : (u v z : List PlacedLexeme) (a : A) → First a u → Begins (Second a) v → Compared u (v ++ z) front rest → Start front rest u v z
      start_by u v z a s t (Same e p) = behind_front e p
      start_by u v z a s t (Longer token others e p) =
          absurd (stuck.past token (others ++ (v ++ z)) p (begins_first First front token others (subst (λ (x : List PlacedLexeme). Begins First x) e (begins_whole First a u s))))
      start_by u v z a s t (Shorter token others e p) = within u v z others token a s t e p

      start : (u v z : List PlacedLexeme) (a : A) → First a u → Begins (Second a) v → (u ++ v) ++ z ≡ front ++ rest → Start front rest u v z
      start u v z a s t e = start_by u v z a s t (compare u (v ++ z) front rest (sym (append_assoc u v z) ∙ e))

      first_bar : IsClear first front rest → (w z : List PlacedLexeme) (fault : SqlFault) → first w z fault → Compared w z front rest → ⊥
      first_bar clear w z fault bar (Same e p) = stuck.free fault (subst (λ (x : List PlacedLexeme). first x rest fault) e (subst (λ (x : List PlacedLexeme). first w x fault) p bar))
      first_bar clear w z fault bar (Longer token others e p) =
          stuck.past token (others ++ z) p (begins_first First front token others (subst (λ (x : List PlacedLexeme). Begins First x) e (fit.barred w z fault bar)))
      first_bar clear w z fault bar (Shorter token others e p) = clear w token others fault e (subst (λ (x : List PlacedLexeme). first w x fault) p bar)

      second_bar : (u v z : List PlacedLexeme) (fault : SqlFault) (a : A) → First a u → second a v z fault → Start front rest u v z → (u ≡ front) × First a front
      second_bar u v z fault a s bar (behind_front e p) = (e, subst (λ (x : List PlacedLexeme). First a x) e s)
      second_bar u v z fault a s bar (within_front token others none e p) =
          absurd (fit.quiet a u token (others ++ rest) fault s (on_behind u others token e)
          (subst (λ (x : List PlacedLexeme). second a [] x fault) p (subst (λ (x : List PlacedLexeme). second a x z fault) none bar)))

      -- a place that is refused lies behind the front, and is one of the second form
      both_bar : IsClear first front rest → (w z : List PlacedLexeme) (fault : SqlFault) → w ++ z ≡ front ++ rest → BarsBoth First first second w z fault
          → (v : List PlacedLexeme) × (a : A) × First a front × (w ≡ front ++ v) × second a v z fault
      both_bar clear w z fault e (inl bar) = absurd (first_bar clear w z fault bar (compare w z front rest e))
      both_bar clear w z fault e (inr bar) =
          let p : (bar.0 ++ bar.1) ++ z ≡ front ++ rest = ap (λ x. x ++ z) (sym bar.4) ∙ e in
          let at = second_bar bar.0 bar.1 z fault bar.2 bar.3 bar.5 (start bar.0 bar.1 z bar.2 bar.3 (fit.barred_second bar.2 bar.1 z fault bar.5) p) in
          (bar.1, bar.2, at.1, bar.4 ∙ ap (λ x. x ++ bar.1) at.0, bar.5)

      not_past : (x behind : List PlacedLexeme) → rest ≡ x ++ behind → Begins First (front ++ x) → x ≡ []
      not_past [] behind e b = refl
      not_past (token ∷ x) behind e b = absurd (stuck.past token (x ++ behind) e (begins_first First front token x b))

      cut_by : (u v g last : List PlacedLexeme) → front ++ g ≡ u ++ v → Start front rest u v last → (u ≡ front) × (v ≡ g)
      cut_by u v g last e (behind_front p q) = (p, append_cancel_left front v g (ap (λ x. x ++ v) (sym p) ∙ sym e))
      cut_by u v g last e (within_front token others none p q) =
          absurd (no_shorter front token g others (p ∙ ap (λ x. x ++ token ∷ others) (sym (e ∙ ap (λ x. u ++ x) none ∙ append-nil u))))

      -- the first form ends at the front in each cut of what is read
      one_cut : (u v g last : List PlacedLexeme) (a : A) → First a u → Begins (Second a) v → front ++ g ≡ u ++ v → rest ≡ g ++ last → (u ≡ front) × (v ≡ g)
      one_cut u v g last a s t e p =
          cut_by u v g last e (start u v last a s t (ap (λ x. x ++ last) (sym e) ∙ append_assoc front g last ∙ ap (λ x. front ++ x) (sym p)))

      whole_cut : (y : C) (g last : List PlacedLexeme) → rest ≡ g ++ last → SpellsBoth f First Second y (front ++ g) → (a : A) × (b : B) × First a front × Second a b g × (y ≡ f a b)
      whole_cut y g last p s =
          let at = one_cut s.0 s.1 g last s.2 s.4 (begins_whole (Second s.2) s.3 s.1 s.5) s.6 p in
          (s.2, s.3, subst (λ (x : List PlacedLexeme). First s.2 x) at.0 s.4, subst (λ (x : List PlacedLexeme). Second s.2 s.3 x) at.1 s.5, s.7)

      begun_cut : (g last : List PlacedLexeme) → rest ≡ g ++ last → (g ≡ [] → ⊥) → Begins (SpellsBoth f First Second) (front ++ g) → (a : A) × First a front × Begins (Second a) g
      begun_cut g last p some b =
          elim (both_begun (front ++ g) b) [
            | inl h ↦ absurd (some (not_past g last p h))
            | inr h ↦
                let at = one_cut h.0 h.1 g last h.2 h.3 h.4 h.5 p in
                (h.2, subst (λ (x : List PlacedLexeme). First h.2 x) at.0 h.3, subst (λ (x : List PlacedLexeme). Begins (Second h.2) x) at.1 h.4)
          ]

      stopped_both : IsClear first front rest → ((x : A) → First x front → ⊥) → IsStopped (SpellsBoth f First Second) (BarsBoth First first second) front rest
      stopped_both clear part =
          record {
            clear = within_clear clear;
            begun = both_begins front begun;
            part =
                λ y s. let at = whole_cut y [] rest refl (subst (λ (x : List PlacedLexeme). SpellsBoth f First Second y x) (sym (append-nil front)) s) in part at.0 at.2;
            stuck =
                record {
                  past =
                      λ token behind e b. let at = begun_cut (token ∷ []) behind e (λ n. cc) b in part at.0 at.1;
                  free = λ fault bar. let at = both_bar clear front rest fault refl bar in part at.1 at.2;
                };
          }

  -- the second form is read behind the front
  module _ (a : A) (front rest g last : List PlacedLexeme) (p : rest ≡ g ++ last) (read : IsRead First first a front rest) where
    begun_front : Begins First front
    begun_front = begins_whole First a front read.spelled

    second_at : (w z : List PlacedLexeme) (fault : SqlFault) → w ++ z ≡ front ++ rest → BarsBoth First first second w z fault → (v : List PlacedLexeme) × (w ≡ front ++ v) × second a v z fault
    second_at w z fault e bar =
        let at = both_bar front rest begun_front read.stuck read.clear w z fault e bar in
        (at.0, at.3, subst (λ (x : A). second x at.0 z fault) (read.only at.1 at.2) at.4)

    then_clear : IsClear (second a) g last → IsClear (BarsBoth First first second) (front ++ g) last
    then_clear clear before token behind fault e bar =
        let q : before ++ (token ∷ behind ++ last) ≡ front ++ rest =
        regroup before (token ∷ behind) (front ++ g) last (sym e) ∙ append_assoc front g last ∙ ap (λ x. front ++ x) (sym p) in
        let at = second_at before (token ∷ behind ++ last) fault q bar in
        clear at.0 token behind fault
        (append_cancel_left front g (at.0 ++ token ∷ behind) (e ∙ ap (λ x. x ++ token ∷ behind) at.1 ∙ append_assoc front at.0 (token ∷ behind))) at.2

    then_stuck : IsStuck (Second a) (second a) g last → IsStuck (SpellsBoth f First Second) (BarsBoth First first second) (front ++ g) last
    then_stuck stuck =
        record {
          past = λ token behind e b. then_past token behind e b;
          free = λ fault bar. then_free fault bar;
        }
      where
        then_past : (token : PlacedLexeme) (behind : List PlacedLexeme) → last ≡ token ∷ behind → Begins (SpellsBoth f First Second) ((front ++ g) ++ token ∷ []) → ⊥
        then_past token behind e b =
            let q : rest ≡ (g ++ token ∷ []) ++ behind = p ∙ ap (λ x. g ++ x) e ∙ sym (append_assoc g (token ∷ []) behind) in
            let at = begun_cut front rest begun_front read.stuck (g ++ token ∷ []) behind q (not_nil g token)
            (subst (λ (x : List PlacedLexeme). Begins (SpellsBoth f First Second) x) (append_assoc front g (token ∷ [])) b) in
            stuck.past token behind e (subst (λ (x : A). Begins (Second x) (g ++ token ∷ [])) (read.only at.0 at.1) at.2)

        then_free : (fault : SqlFault) → BarsBoth First first second (front ++ g) last fault → ⊥
        then_free fault bar =
            let at = second_at (front ++ g) last fault (append_assoc front g last ∙ ap (λ x. front ++ x) (sym p)) bar in
            stuck.free fault (subst (λ (x : List PlacedLexeme). second a x last fault) (sym (append_cancel_left front g at.0 at.1)) at.2)

    then_whole : (y : C) → SpellsBoth f First Second y (front ++ g) → (b : B) × Second a b g × (y ≡ f a b)
    then_whole y s =
        let at = whole_cut front rest begun_front read.stuck y g last p s in
        let e = read.only at.0 at.2 in
        (at.1, subst (λ (x : A). Second x at.1 g) e at.3, at.4 ∙ ap (λ x. f x at.1) e)

  both_explained : (a : A) (front rest g : List PlacedLexeme) (outcome : Outcome B) → rest ≡ g ++ rest_of outcome → IsRead First first a front rest
      → Explains (Second a) (second a) outcome g → Explains (SpellsBoth f First Second) (BarsBoth First first second) (outcome >>= λ b last. Read (f a b) last) (front ++ g)
  both_explained a front rest g (Read b last) p read r =
      record {
        clear = then_clear a front rest g last p read r.clear;
        spelled = (front, g, a, b, read.spelled, r.spelled, refl, refl);
        only = λ y s. let at = then_whole a front rest g last p read y s in at.2 ∙ ap (f a) (r.only at.0 at.1);
        stuck = then_stuck a front rest g last p read r.stuck;
      }
  both_explained a front rest g (Stop Syntax last) p read r =
      record {
        clear = then_clear a front rest g last p read r.clear;
        begun = both_begins_second front g a read.spelled r.begun;
        part = λ y s. let at = then_whole a front rest g last p read y s in r.part at.0 at.1;
        stuck = then_stuck a front rest g last p read r.stuck;
      }
  both_explained a front rest g (Stop (Refused fault) last) p read r =
      record {
        clear = then_clear a front rest g last p read r.clear;
        begun = both_begins_second front g a read.spelled r.begun;
        barred = inr (front, g, a, read.spelled, refl, r.barred);
      }

  rest_of_both : (a : A) (outcome : Outcome B) → rest_of (outcome >>= λ b last. Read (f a b) last) ≡ rest_of outcome
  rest_of_both a (Read b last) = refl
  rest_of_both a (Stop reason last) = refl

  both_from : (second_reader : A → Reader B) (tokens : List PlacedLexeme) (outcome : Outcome A) → IsRight First first tokens outcome
      → ((a : A) (front rest : List PlacedLexeme) → tokens ≡ front ++ rest → First a front → IsRight (Second a) (second a) rest (second_reader a rest))
      → IsRight (SpellsBoth f First Second) (BarsBoth First first second) tokens (outcome >>= λ a rest. second_reader a rest >>= λ b last. Read (f a b) last)
  both_from second_reader tokens (Read a rest) r then =
      let s = then a r.front rest r.whole r.explained.spelled in
      record {
        front = r.front ++ s.front;
        whole =
            r.whole ∙ ap (λ x. r.front ++ x) s.whole ∙ sym (append_assoc r.front s.front (rest_of (second_reader a rest)))
            ∙ ap (λ x. (r.front ++ s.front) ++ x) (sym (rest_of_both a (second_reader a rest)));
        explained = both_explained a r.front rest s.front (second_reader a rest) s.whole r.explained s.explained;
      }
  both_from second_reader tokens (Stop Syntax rest) r then =
      record {
        front = r.front;
        whole = r.whole;
        explained = stopped_both r.front rest r.explained.begun r.explained.stuck r.explained.clear r.explained.part;
      }
  both_from second_reader tokens (Stop (Refused fault) rest) r then =
      record {
        front = r.front;
        whole = r.whole;
        explained = refusal_both r.front rest r.explained.begun fault r.explained;
      }

  pub right_both : (reader : Reader A) (second_reader : A → Reader B) (tokens : List PlacedLexeme) → IsRight First first tokens (reader tokens)
      → ((a : A) (front rest : List PlacedLexeme) → tokens ≡ front ++ rest → First a front → IsRight (Second a) (second a) rest (second_reader a rest))
      → IsRight (SpellsBoth f First Second) (BarsBoth First first second) tokens (read_both f reader second_reader tokens)
  right_both reader second_reader tokens r then = both_from second_reader tokens (reader tokens) r then
