-- What is said of a fault of doing something with a script.
use Rattle.std.specs.Prelude.{ℕ}
use Rattle.aq_base.specs.declared.fault.SqlFault.{SqlFault}
use Rattle.aq_script.specs.declared.fault.ScriptFault.{ScriptFault}
use Rattle.aq_script.specs.declared.fault.ScriptFault.TheVariants as read
use Rattle.aq_define.specs.declared.building.BuildFault.{BuildFault}
use Rattle.aq_define.specs.declared.building.BuildFault.TheVariants as build
use Rattle.aqueue.specs.declared.fault.RunFault.{RunFault}
use Rattle.aqueue.specs.declared.fault.RunFault.TheVariants.{NoMemory, Script}

-- a fact of the line that is refused and of its fault
abbrev pub IfScript : RunFault → (ℕ → SqlFault → Type 0) → Type 0
IfScript NoMemory P = Unit {0}
IfScript (Script line fault) P = P line fault

-- the fault of reading a script, as one of doing something with it
abbrev pub unread : ScriptFault → RunFault
unread read.NoMemory = NoMemory
unread (read.Refused line fault) = Script line fault

-- the fault of its setup
abbrev pub not_set_up : BuildFault → RunFault
not_set_up build.NoMemory = NoMemory
not_set_up (build.Setup line fault) = Script line fault
