-- The default schedule.
use Rattle.std.proofs.Common.{◌≡◌, ℕ, zero, suc, ◌<◌, Bool, true, false, List, [], ◌∷◌, length, slice_index_or, ◌⊎◌, inl, inr, sym, ◌∙◌, refl, arith, ◌+◌, ◌≤◌, below_more, le_refl}
use Rattle.std.specs.List.{list_all}
use Rattle.std.proofs.lemmas.Bool.{false≢true, cases_Bool, cases_order, and_parts, and_from, lt-ltb, not_from_false, false_from_ne_true, true_from_ne_false}
use Rattle.aq_first_base.specs.Setup.{Program}
use Rattle.aq_first_run.specs.States.{State, nobody, opening}
use Rattle.aq_first_run.specs.Steps.{step, is_enabled}
use Rattle.aq_first_run.specs.Runs.{Schedule, run_from, have_all_ended, IsLeastEnabled, GoesByDefault, IsDefaultSchedule, run}
use Rattle.aq_first_laws.proofs.Sessions.{CanStep-enabled, length-run}
use Rattle.aq_first_laws.proofs.Finite.{steps_left-step}
use Rattle.aq_first_laws.specs.Finite.{steps_left}
use Rattle.aq_first_laws.specs.Default.{DefaultScheduleIsUnique, DefaultScheduleExists}

-- two sessions of which each is the least that may step
least_is_one : (st : State) (r s : ℕ) → IsLeastEnabled st r → IsLeastEnabled st s → r ≡ s
least_is_one st r s one other = by_order (cases_order r s)
  where
    by_order : (r ≡ s) ⊎ ((r < s) ⊎ (s < r)) → r ≡ s
    by_order (inl same) = same
    by_order (inr (inl below)) = absurd (false≢true (sym (other.least r below) ∙ one.enabled))
    by_order (inr (inr above)) = absurd (false≢true (sym (one.least s above) ∙ other.enabled))

list_all_at : {X : Type 0} (p : X → Bool) (xs : List X) (n : ℕ) (d : X) → list_all p xs ≡ true → n < length xs → p (slice_index_or xs n d) ≡ true
list_all_at p [] n d all within = absurd (omega arith)
list_all_at p (x ∷ xs) zero d all within = (and_parts _ _ all).0
list_all_at p (x ∷ xs) (suc n) d all within = list_all_at p xs n d (and_parts _ _ all).1 (omega arith)

list_all_from : {X : Type 0} (p : X → Bool) (xs : List X) (d : X) → ((n : ℕ) → n < length xs → p (slice_index_or xs n d) ≡ true) → list_all p xs ≡ true
list_all_from p [] d each = refl
list_all_from p (x ∷ xs) d each = and_from _ _ (each 0 (omega arith)) (list_all_from p xs d (λ n within. each (suc n) (omega arith)))

-- where all have ended, none may step
pub none_enabled : (st : State) (s : ℕ) → have_all_ended st ≡ true → is_enabled st s ≡ false
none_enabled st s ended = false_from_ne_true _ (λ enabled.
    let can = CanStep-enabled st s enabled in
    false≢true (sym can.goes_on ∙ list_all_at (λ session. session.ended) st.sessions s nobody ended can.within))

-- where none may step, all have ended
pub have_all_ended-from_none : (st : State) → ((s : ℕ) → s < length st.sessions → is_enabled st s ≡ false) → have_all_ended st ≡ true
have_all_ended-from_none st none = list_all_from (λ session. session.ended) st.sessions nobody (λ s within.
    true_from_ne_false _ (λ goes_on. false≢true (sym (none s within) ∙ and_from _ _ (lt-ltb _ _ within) (not_from_false _ goes_on))))

same_from : (program : Program) (st : State) (v w : Schedule) → GoesByDefault program st v → have_all_ended (run_from program st v) ≡ true
    → GoesByDefault program st w → have_all_ended (run_from program st w) ≡ true → v ≡ w
unfolding run_from GoesByDefault
same_from program st [] [] v_goes v_ends w_goes w_ends = refl
same_from program st [] (s ∷ w) v_goes v_ends w_goes w_ends = absurd (false≢true (sym (none_enabled st s v_ends) ∙ w_goes.0.enabled))
same_from program st (r ∷ v) [] v_goes v_ends w_goes w_ends = absurd (false≢true (sym (none_enabled st r w_ends) ∙ v_goes.0.enabled))
same_from program st (r ∷ v) (s ∷ w) v_goes v_ends w_goes w_ends =
    let same = least_is_one st r s v_goes.0 w_goes.0 in
    let rest = same_from program (step program st r) v w v_goes.1 v_ends (rw (← same) at w_goes.1) (rw (← same) at w_ends) in
    λ i. same i ∷ rest i

pub default_schedule_is_unique : DefaultScheduleIsUnique
default_schedule_is_unique program v w one other = same_from program (opening program) v w one.by_default one.complete other.by_default other.complete

-- ---- a default schedule, step by step

-- a schedule that goes by default is complete where none of the sessions may step
pub IsDefaultSchedule-from_none : (program : Program) (schedule : Schedule) → GoesByDefault program (opening program) schedule
    → ((s : ℕ) → s < length program.sessions → is_enabled (run program schedule) s ≡ false) → IsDefaultSchedule program schedule
IsDefaultSchedule-from_none program schedule goes none =
    record { by_default = goes; complete = have_all_ended-from_none (run program schedule) (λ s within. none s (rw (← length-run program schedule) within)) }

-- the least session that may step, if none before a number may, or that none may
least_from : (st : State) (n left : ℕ) → n + left ≡ length st.sessions → ((r : ℕ) → r < n → is_enabled st r ≡ false)
    → ((s : ℕ) × IsLeastEnabled st s) ⊎ ((s : ℕ) → s < length st.sessions → is_enabled st s ≡ false)
least_from st n zero all none = inr (λ s within. none s (omega arith))
least_from st n (suc left) all none = by_test (cases_Bool (is_enabled st n)) (λ waits. least_from st (n + 1) left (omega arith) (below_more (λ r. is_enabled st r ≡ false) n none waits))
  where
    by_test : (is_enabled st n ≡ true) ⊎ (is_enabled st n ≡ false)
        → (is_enabled st n ≡ false → ((s : ℕ) × IsLeastEnabled st s) ⊎ ((s : ℕ) → s < length st.sessions → is_enabled st s ≡ false))
        → ((s : ℕ) × IsLeastEnabled st s) ⊎ ((s : ℕ) → s < length st.sessions → is_enabled st s ≡ false)
    by_test (inl enabled) rest = inl (n, record { enabled = enabled; least = none })
    by_test (inr waits) rest = rest waits

-- a schedule that goes by default from a state until all have ended
record DefaultFrom (program : Program) (st : State) : Type 0 where
  schedule : Schedule
  goes : GoesByDefault program st schedule
  ends : have_all_ended (run_from program st schedule) ≡ true

ends_here : (program : Program) (st : State) → ((s : ℕ) → s < length st.sessions → is_enabled st s ≡ false) → DefaultFrom program st
unfolding run_from GoesByDefault
ends_here program st none = record { schedule = []; goes = tt; ends = have_all_ended-from_none st none }

steps_first : (program : Program) (st : State) (s : ℕ) → IsLeastEnabled st s → DefaultFrom program (step program st s) → DefaultFrom program st
unfolding run_from GoesByDefault
steps_first program st s least rest = record { schedule = s ∷ rest.schedule; goes = (least, rest.goes); ends = rest.ends }

default_from : (program : Program) (bound : ℕ) (st : State) → steps_left program st ≤ bound → DefaultFrom program st
default_from program zero st few = by_least (least_from st 0 (length st.sessions) (omega arith) (λ r below. absurd (omega arith)))
  where
    by_least : ((s : ℕ) × IsLeastEnabled st s) ⊎ ((s : ℕ) → s < length st.sessions → is_enabled st s ≡ false) → DefaultFrom program st
    by_least (inl (s, least)) = absurd (omega (arith, steps_left-step program st s least.enabled))
    by_least (inr none) = ends_here program st none
default_from program (suc bound) st few =
    by_least (least_from st 0 (length st.sessions) (omega arith) (λ r below. absurd (omega arith))) (λ s fewer. default_from program bound (step program st s) fewer)
  where
    by_least : ((s : ℕ) × IsLeastEnabled st s) ⊎ ((s : ℕ) → s < length st.sessions → is_enabled st s ≡ false)
        → ((s : ℕ) → steps_left program (step program st s) ≤ bound → DefaultFrom program (step program st s)) → DefaultFrom program st
    by_least (inl (s, least)) rest = steps_first program st s least (rest s (omega (arith, steps_left-step program st s least.enabled)))
    by_least (inr none) rest = ends_here program st none

pub default_schedule_exists : DefaultScheduleExists
default_schedule_exists program =
    let default = default_from program (steps_left program (opening program)) (opening program) (le_refl (steps_left program (opening program))) in
    (default.schedule, record { by_default = default.goes; complete = default.ends })
