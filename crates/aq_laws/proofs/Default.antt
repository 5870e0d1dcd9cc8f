-- The default schedule.
use Rattle.std.proofs.Common.{◌≡◌, ℕ, zero, suc, ◌<◌, Bool, true, false, List, [], ◌∷◌, length, slice_index_or, ◌⊎◌, inl, inr, sym, ◌∙◌, refl, arith, not, ◌&&◌, nat_lt}
use Rattle.std.specs.List.{list_all}
use Rattle.std.proofs.lemmas.Bool.{false≢true, cases_order, and_parts, false_from_ne_true, not-true, ltb-true}
use Rattle.aq_run.specs.Programs.{Program}
use Rattle.aq_run.specs.States.{State, session_at, nobody, opening}
use Rattle.aq_run.specs.Waits.{is_enabled, is_empty, waits_for}
use Rattle.aq_run.specs.Steps.{step}
use Rattle.aq_run.specs.Runs.{Schedule, run_from, have_all_ended, IsLeastEnabled, GoesByDefault}
use Rattle.aq_laws.specs.Default.{DefaultScheduleIsUnique}

-- an enabled session is one of the state's, hasn't ended, and waits for nobody
pub record CanStep (program : Program) (st : State) (s : ℕ) : Type 0 where
  pub within : s < length st.sessions
  pub goes_on : (session_at st s).ended ≡ false
  pub free : is_empty (waits_for program st s) ≡ true

pub CanStep-enabled : (program : Program) (st : State) (s : ℕ) → is_enabled program st s ≡ true → CanStep program st s
CanStep-enabled program st s enabled =
    let parts = and_parts (nat_lt s (length st.sessions)) (not (session_at st s).ended && is_empty (waits_for program st s)) enabled in
    let more = and_parts (not (session_at st s).ended) (is_empty (waits_for program st s)) parts.1 in
    record { within = ltb-true s (length st.sessions) parts.0; goes_on = not-true (session_at st s).ended more.0; free = more.1 }

-- two sessions of which each is the least that may step
least_is_one : (program : Program) (st : State) (r s : ℕ) → IsLeastEnabled program st r → IsLeastEnabled program st s → r ≡ s
least_is_one program st r s one other = by_order (cases_order r s)
  where
    by_order : (r ≡ s) ⊎ ((r < s) ⊎ (s < r)) → r ≡ s
    by_order (inl same) = same
    by_order (inr (inl below)) = absurd (false≢true (sym (other.least r below) ∙ one.enabled))
    by_order (inr (inr above)) = absurd (false≢true (sym (one.least s above) ∙ other.enabled))

list_all_at : {X : Type 0} (p : X → Bool) (xs : List X) (n : ℕ) (d : X) → list_all p xs ≡ true → n < length xs → p (slice_index_or xs n d) ≡ true
list_all_at p [] n d all within = absurd (omega arith)
list_all_at p (x ∷ xs) zero d all within = (and_parts _ _ all).0
list_all_at p (x ∷ xs) (suc n) d all within = list_all_at p xs n d (and_parts _ _ all).1 (omega arith)

-- where all have ended, none may step
pub none_enabled : (program : Program) (st : State) (s : ℕ) → have_all_ended st ≡ true → is_enabled program st s ≡ false
none_enabled program st s ended = false_from_ne_true _ (λ enabled.
    let can = CanStep-enabled program st s enabled in
    false≢true (sym can.goes_on ∙ list_all_at (λ session. session.ended) st.sessions s nobody ended can.within))

same_from : (program : Program) (st : State) (v w : Schedule) → GoesByDefault program st v → have_all_ended (run_from program st v) ≡ true
    → GoesByDefault program st w → have_all_ended (run_from program st w) ≡ true → v ≡ w
unfolding run_from GoesByDefault
same_from program st [] [] v_goes v_ends w_goes w_ends = refl
same_from program st [] (s ∷ w) v_goes v_ends w_goes w_ends = absurd (false≢true (sym (none_enabled program st s v_ends) ∙ w_goes.0.enabled))
same_from program st (r ∷ v) [] v_goes v_ends w_goes w_ends = absurd (false≢true (sym (none_enabled program st r w_ends) ∙ v_goes.0.enabled))
same_from program st (r ∷ v) (s ∷ w) v_goes v_ends w_goes w_ends =
    let same = least_is_one program st r s v_goes.0 w_goes.0 in
    let rest = same_from program (step program st r) v w v_goes.1 v_ends (rw (← same) at w_goes.1) (rw (← same) at w_ends) in
    λ i. same i ∷ rest i

pub default_schedule_is_unique : DefaultScheduleIsUnique
default_schedule_is_unique program v w one other = same_from program (opening program) v w one.by_default one.complete other.by_default other.complete
