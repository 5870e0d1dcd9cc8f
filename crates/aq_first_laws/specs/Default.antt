-- The default schedule.
use Rattle.std.specs.Prelude.{◌≡◌}
use Rattle.aq_first_base.specs.Setup.{Program}
use Rattle.aq_first_run.specs.Runs.{Schedule, IsDefaultSchedule}

-- a program has one default schedule at the most
abbrev pub DefaultScheduleIsUnique : Type 0
DefaultScheduleIsUnique = (program : Program) (v w : Schedule) → IsDefaultSchedule program v → IsDefaultSchedule program w → v ≡ w

-- every program has a default schedule
abbrev pub DefaultScheduleExists : Type 0
DefaultScheduleExists = (program : Program) → (schedule : Schedule) × IsDefaultSchedule program schedule
