-- Who may go on.
use Rattle.std.specs.Prelude.{◌≡◌, ℕ, true}
use Rattle.aq_run.specs.Programs.{Program}
use Rattle.aq_run.specs.States.{State}
use Rattle.aq_run.specs.Waits.{is_enabled}
use Rattle.aq_run.specs.Runs.{Schedule, IsSchedule, IsDefaultSchedule, have_all_ended, run}
use Rattle.aq_laws.specs.Stacks.{ActionsAreForRows}

-- all sessions have ended, or one may step
pub data CanGoOn (program : Program) (st : State) : Type 0 where
  All_ended : have_all_ended st ≡ true → CanGoOn program st
  May_step : (s : ℕ) → is_enabled program st s ≡ true → CanGoOn program st

-- in every state of every run
abbrev pub SomebodyMayStep : Type 0
SomebodyMayStep =
    (program : Program) → ActionsAreForRows program.schema.catalog → (schedule : Schedule) → IsSchedule program schedule → CanGoOn program (run program schedule)

-- a program has a default schedule
abbrev pub DefaultScheduleExists : Type 0
DefaultScheduleExists = (program : Program) → ActionsAreForRows program.schema.catalog → (schedule : Schedule) × IsDefaultSchedule program schedule
