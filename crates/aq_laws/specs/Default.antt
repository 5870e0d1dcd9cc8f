-- The default schedule.
use Rattle.std.specs.Prelude.{◌≡◌}
use Rattle.aq_run.specs.Programs.{Program}
use Rattle.aq_run.specs.Runs.{Schedule, IsDefaultSchedule}

-- a program has one default schedule at the most
abbrev pub DefaultScheduleIsUnique : Type 0
DefaultScheduleIsUnique = (program : Program) (v w : Schedule) → IsDefaultSchedule program v → IsDefaultSchedule program w → v ≡ w
