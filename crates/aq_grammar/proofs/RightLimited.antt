-- Reading a form that has so many tokens at the most.
use Rattle.std.proofs.Common.{◌≡◌, ℕ, suc, ◌≤◌, ◌<◌, Bool, true, false, cond, List, [], ◌∷◌, ◌++◌, length, take, drop, refl, sym, ap, ◌∙◌, subst, inl, inr, arith, length-append}
use Rattle.std.proofs.lemmas.List.{append-nil, length-take, take-append-drop, nil_from_length}
use Rattle.std.proofs.lemmas.Bool.{leb-true, leb-false}
use Rattle.std.specs.Prelude.{nat_le}
use Rattle.aq_base.specs.declared.fault.SqlFault.{SqlFault}
use Rattle.aq_lex.specs.Lexemes.{PlacedLexeme}
use Rattle.aq_grammar.specs.Rules.{Form, Bar, Begins, BarsNext}
use Rattle.aq_grammar.specs.Reading.{Outcome, Read, Stop, Syntax, Refused, Reader, read_limited, within}
use Rattle.aq_grammar.specs.Places.{IsClear, IsStuck, IsRead}
use Rattle.aq_grammar.proofs.Languages.{IsStopped, IsRight}
use Rattle.aq_grammar.proofs.Cuts.{front_count, cut_of_taken, next_of_taken, take_next}
use Rattle.aq_grammar.proofs.Keeping.{BarsEither}
use Rattle.aq_grammar.proofs.RightForms.{begins_whole, begins_less}

module _ {A : Type 0} (most : ℕ) (limit : SqlFault) (Spelled : Form A) where
  next_is : (u z : List PlacedLexeme) (fault : SqlFault) → BarsNext most limit Spelled u z fault
      → (token : PlacedLexeme) × (behind : List PlacedLexeme) × (z ≡ token ∷ behind) × (length u ≡ most) × Begins Spelled (u ++ token ∷ []) × (fault ≡ limit)
  next_is [] z fault bar = absurd bar
  next_is (first ∷ others) [] fault bar = absurd bar
  next_is (first ∷ others) (token ∷ behind) fault bar = (token, behind, refl, bar.0, bar.1, bar.2)

  next_from : (u : List PlacedLexeme) (token : PlacedLexeme) (behind : List PlacedLexeme) → 1 ≤ most → length u ≡ most → Begins Spelled (u ++ token ∷ []) → BarsNext most limit Spelled u (token ∷ behind) limit
  next_from [] token behind some e b = absurd (omega arith)
  next_from (first ∷ others) token behind some e b = (e, b, refl)

module _ {A : Type 0} (most : ℕ) (limit : SqlFault) (Spelled : Form A) (bars : Bar) (plain : (u rest : List PlacedLexeme) (fault : SqlFault) → bars u rest fault → ⊥) (some : 1 ≤ most) where
  abbrev Limits : Bar
  Limits u rest fault = BarsEither (BarsNext most limit Spelled) bars u rest fault

  not_full : (u z : List PlacedLexeme) (fault : SqlFault) → length u < most → Limits u z fault → ⊥
  not_full u z fault h (inl bar) = let e = (next_is most limit Spelled u z fault bar).3 in omega arith
  not_full u z fault h (inr bar) = plain u z fault bar

  clear_below : (front rest : List PlacedLexeme) → length front ≤ most → IsClear Limits front rest
  clear_below front rest h before token behind fault e bar =
      not_full before (token ∷ behind ++ rest) fault (let k = ap length e in omega (arith, k, length-append before (token ∷ behind))) bar

  module _ (tokens front rest : List PlacedLexeme) (taken : take (suc most) tokens ≡ front ++ rest) where
    abbrev remaining : List PlacedLexeme
    remaining = drop (length front) tokens

    stuck_below : length front ≤ most → IsStuck Spelled bars front rest → IsStuck Spelled Limits front remaining
    stuck_below h stuck =
        record {
          past = λ token behind e b. past_below token behind e b;
          free = λ fault bar. free_below fault bar;
        }
      where
        past_below : (token : PlacedLexeme) (behind : List PlacedLexeme) → remaining ≡ token ∷ behind → Begins Spelled (front ++ token ∷ []) → ⊥
        past_below token behind e b = let next = next_of_taken (suc most) tokens front rest token behind taken (omega arith) e in stuck.past token next.0 next.1 b

        free_below : (fault : SqlFault) → Limits front remaining fault → ⊥
        free_below fault (inl bar) = let next = next_is most limit Spelled front remaining fault bar in past_below next.0 next.1 next.2 next.4
        free_below fault (inr bar) = plain front remaining fault bar

    whole_taken : most < length front → (front ≡ take (suc most) tokens) × (most < length tokens)
    whole_taken h =
        let counted = ap length taken in
        let none : rest ≡ [] = nil_from_length rest (omega (arith, counted, length-append front rest, length-take (suc most) tokens)) in
        (sym (taken ∙ ap (λ w. front ++ w) none ∙ append-nil front), omega (arith, counted, length-append front rest, length-take (suc most) tokens))

    too_long : most < length front → Begins Spelled front → IsRight Spelled Limits tokens (Stop (Refused limit) (drop most tokens))
    too_long h begun =
        let all = whole_taken h in
        let next = take_next most tokens all.1 in
        let more : Begins Spelled (take most tokens ++ next.0 ∷ []) = subst (λ (w : List PlacedLexeme). Begins Spelled w) (all.0 ∙ next.3) begun in
        record {
          front = take most tokens;
          whole = sym (take-append-drop most tokens);
          explained =
              record {
                clear = clear_below (take most tokens) (drop most tokens) (omega (arith, next.4));
                begun = begins_less Spelled (take most tokens) (next.0 ∷ []) more;
                barred =
                    inl (subst (λ (w : List PlacedLexeme). BarsNext most limit Spelled (take most tokens) w limit) (sym next.2)
                    (next_from most limit Spelled (take most tokens) next.0 next.1 some next.4 more));
              };
        }

    read_within : (x : A) (b : Bool) → nat_le (length front) most ≡ b → IsRead Spelled bars x front rest
        → IsRight Spelled Limits tokens (cond b (Read x remaining) (Stop (Refused limit) (drop most tokens)))
    read_within x true e r =
        record {
          front = front;
          whole = cut_of_taken (suc most) tokens front rest taken;
          explained =
              record {
                clear = clear_below front remaining (leb-true (length front) most e);
                spelled = r.spelled;
                only = r.only;
                stuck = stuck_below (leb-true (length front) most e) r.stuck;
              };
        }
    read_within x false e r = too_long (leb-false (length front) most e) (begins_whole Spelled x front r.spelled)

    stopped_within : (b : Bool) → nat_le (length front) most ≡ b → IsStopped Spelled bars front rest
        → IsRight Spelled Limits tokens (cond b (Stop Syntax remaining) (Stop (Refused limit) (drop most tokens)))
    stopped_within true e r =
        record {
          front = front;
          whole = cut_of_taken (suc most) tokens front rest taken;
          explained =
              record {
                clear = clear_below front remaining (leb-true (length front) most e);
                begun = r.begun;
                part = r.part;
                stuck = stuck_below (leb-true (length front) most e) r.stuck;
              };
        }
    stopped_within false e r = too_long (leb-false (length front) most e) r.begun

  limited_from : (tokens : List PlacedLexeme) (outcome : Outcome A) → IsRight Spelled bars (take (suc most) tokens) outcome
      → IsRight Spelled Limits tokens (within most limit tokens (take (suc most) tokens) outcome)
  limited_from tokens (Read x rest) r =
      rw (front_count (take (suc most) tokens) r.front rest r.whole) (read_within tokens r.front rest r.whole x (nat_le (length r.front) most) refl r.explained)
  limited_from tokens (Stop Syntax rest) r =
      rw (front_count (take (suc most) tokens) r.front rest r.whole) (stopped_within tokens r.front rest r.whole (nat_le (length r.front) most) refl r.explained)
  limited_from tokens (Stop (Refused fault) rest) r = absurd (plain r.front rest fault r.explained.barred)

  pub right_limited : (reader : Reader A) (tokens : List PlacedLexeme) → IsRight Spelled bars (take (suc most) tokens) (reader (take (suc most) tokens))
      → IsRight Spelled Limits tokens (read_limited most limit reader tokens)
  right_limited reader tokens r = limited_from tokens (reader (take (suc most) tokens)) r
