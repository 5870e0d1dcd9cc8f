-- Runs over a schedule.
use Rattle.std.specs.Prelude.{◌≡◌, ℕ, ◌<◌, Bool, true, false, List, [], ◌∷◌}
use Rattle.std.specs.List.{list_all}
use Rattle.aq_first_base.specs.Setup.{Program}
use Rattle.aq_first_run.specs.States.{State, opening}
use Rattle.aq_first_run.specs.Steps.{step, is_enabled}

-- a schedule: the sessions that step, one after the other
abbrev pub Schedule : Type 0
Schedule = List ℕ

unfoldable pub run_from : Program → State → Schedule → State
run_from program st [] = st
run_from program st (s ∷ schedule) = run_from program (step program st s) schedule

abbrev pub run : Program → Schedule → State
run program schedule = run_from program (opening program) schedule

-- each session of the schedule is enabled at its place
unfoldable pub CanRunFrom : Program → State → Schedule → Type 0
CanRunFrom program st [] = Unit {0}
CanRunFrom program st (s ∷ schedule) = (is_enabled st s ≡ true) × CanRunFrom program (step program st s) schedule

abbrev pub IsSchedule : Program → Schedule → Type 0
IsSchedule program schedule = CanRunFrom program (opening program) schedule

abbrev pub have_all_ended : State → Bool
have_all_ended st = list_all (λ session. session.ended) st.sessions

abbrev pub IsComplete : Program → Schedule → Type 0
IsComplete program schedule = have_all_ended (run program schedule) ≡ true

-- the session may step, and none before it may
pub record IsLeastEnabled (st : State) (s : ℕ) : Type 0 where
  pub enabled : is_enabled st s ≡ true
  pub least : (r : ℕ) → r < s → is_enabled st r ≡ false

-- from here on the least enabled session always steps
unfoldable pub GoesByDefault : Program → State → Schedule → Type 0
GoesByDefault program st [] = Unit {0}
GoesByDefault program st (s ∷ schedule) = IsLeastEnabled st s × GoesByDefault program (step program st s) schedule

-- the schedule in which the least enabled session always steps, until all have ended
pub record IsDefaultSchedule (program : Program) (schedule : Schedule) : Type 0 where
  pub by_default : GoesByDefault program (opening program) schedule
  pub complete : IsComplete program schedule
