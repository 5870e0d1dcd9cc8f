-- A run with its schedule.
use Rattle.std.specs.Prelude.{◌≡◌, ◌++◌}
use Rattle.aq_first_base.specs.Setup.{program_of}
use Rattle.aq_first_base.specs.declared.simple.SimpleScript.{SimpleScript}
use Rattle.aq_first_run.specs.States.{State}
use Rattle.aq_first_run.specs.Runs.{Schedule, run, run_from, IsSchedule, IsComplete, GoesByDefault}

-- a script, the state of its run, and the sessions that stepped
pub record Journal : Type 0 where
  pub script : SimpleScript
  pub state : State
  pub schedule : Schedule

-- the state is that of the run of the script by the schedule, in which each session was enabled at its place
pub record IsJournal (script : SimpleScript) (state : State) (schedule : Schedule) : Type 0 where
  pub replay : state ≡ run (program_of script) schedule
  pub can_run : IsSchedule (program_of script) schedule

-- the same script, and a schedule that goes on from the old one by default
pub record GoesOn (before after : Journal) : Type 0 where
  pub same_script : after.script ≡ before.script
  pub later : Schedule
  pub schedule : after.schedule ≡ before.schedule ++ later
  pub by_default : GoesByDefault (program_of before.script) before.state later
  pub ran : after.state ≡ run_from (program_of before.script) before.state later

-- and in the end all sessions have ended
pub record Finishes (before after : Journal) : Type 0 where
  pub goes_on : GoesOn before after
  pub complete : IsComplete (program_of after.script) after.schedule
