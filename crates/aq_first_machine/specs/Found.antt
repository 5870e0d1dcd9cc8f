-- Why a step is refused, as the definitions have it.
use Rattle.std.specs.Prelude.{[], ◌∷◌, Option, Some, None}
use Rattle.aq_first_outcomes.specs.Faults.{Fault}
use Rattle.aq_first_outcomes.specs.Faults.Fault.{Duplicate, Null_value, Missing, Referenced}
use Rattle.aq_first_run.specs.Steps.{Plan}
use Rattle.aq_first_run.specs.Steps.Plan.{Does_all, Fails}
use Rattle.aq_first_run.specs.Effects.Effect.{Finishes}
use Rattle.aq_first_machine.specs.declared.checks.Fault.{Fault as Found_fault}
use Rattle.aq_first_machine.specs.declared.checks.Fault.TheVariants.{Duplicate as Found_duplicate, NullValue as Found_null, Missing as Found_missing, Referenced as Found_referenced}

abbrev pub fault_shown : Found_fault → Fault
fault_shown (Found_duplicate key values) = Duplicate key.now values
fault_shown (Found_null table col values) = Null_value table col values
fault_shown (Found_missing fk values) = Missing fk.now values
fault_shown (Found_referenced fk values) = Referenced fk.now values

-- what an event step does: it finishes the event, or the event's fault refuses it
abbrev pub event_done : Option Fault → Plan
event_done None = Does_all (Finishes ∷ [])
event_done (Some fault) = Fails [] fault
