-- The trace lines of effects: numbers become names.
use Rattle.std.specs.Prelude.{ℕ, ◌+◌, Bool, true, false, List, [], ◌∷◌, map, Option, Some, None}
use Rattle.aq_base.specs.Names.{Text}
use Rattle.aq_base.specs.Events.{Event}
use Rattle.aq_base.specs.Works.{Mark, Kind}
use Rattle.aq_base.specs.Works.Kind.{Level, Constraints, Drain as The_drain}
use Rattle.aq_base.specs.Works.Mark.{Named, Block as Of_block}
use Rattle.aq_base.specs.declared.fault.Code.{Code}
use Rattle.aq_base.specs.declared.modes.ConstraintMode.{ConstraintMode}
use Rattle.aq_base.specs.declared.modes.ConstraintMode.TheVariants.{Deferred, Immediate}
use Rattle.aq_base.specs.declared.trace.ModeOf.{ModeOf}
use Rattle.aq_base.specs.declared.trace.ModeOf.TheVariants.{All, Named as Constraint_named}
use Rattle.aq_base.specs.declared.trace.TraceEvent.{TraceEvent}
use Rattle.aq_base.specs.declared.trace.TraceLine.{TraceLine}
use Rattle.aq_base.specs.declared.trace.TraceLine.TheVariants.{Open, Change as Changed, Dropped, Queue, Drain, Savepoint, Release, Back, Block, Unblock, Caught, Missing, Pair}
use Rattle.aq_outcomes.specs.Schemas.{Schema, table_name, trigger_name, constraint_name}
use Rattle.aq_outcomes.specs.Rows.{Change}
use Rattle.aq_run.specs.Faults.{Finding}
use Rattle.aq_run.specs.Faults.Finding.{No_parent, A_pair}

-- the events of a change, numbered from the one behind the last
abbrev pub traced_events : Schema → ℕ → List ℕ → List TraceEvent
traced_events schema last [] = []
traced_events schema last (trigger ∷ others) = record { no = last + 1; trigger = trigger_name schema trigger } ∷ traced_events schema (last + 1) others

abbrev pub change_line : Schema → Text → Change → ℕ → ℕ → List ℕ → TraceLine
change_line schema me change row last triggers =
    Changed me (table_name schema change.table) row change.old change.new (traced_events schema last triggers)

abbrev pub drop_lines : Text → List Event → List TraceLine
drop_lines me events = map (λ event. Dropped me event.number) events

abbrev pub queue_lines : Schema → Text → ℕ → List ℕ → List TraceLine
queue_lines schema me last [] = []
queue_lines schema me last (trigger ∷ others) = Queue me (last + 1) (trigger_name schema trigger) ∷ queue_lines schema me (last + 1) others

abbrev pub open_lines : Text → Kind → ℕ → List TraceLine
open_lines me Level level = Open me (level + 1) ∷ []
open_lines me Constraints level = []
open_lines me The_drain level = Drain me ∷ []

abbrev pub mode_of : Bool → ConstraintMode
mode_of true = Deferred
mode_of false = Immediate

-- ALL, or the name that constraints share
abbrev pub modes_of : Schema → Option (List ℕ) → ModeOf
modes_of schema None = All
modes_of schema (Some []) = Constraint_named []
modes_of schema (Some (con ∷ others)) = Constraint_named (constraint_name schema con)

abbrev pub save_line : Text → Mark → TraceLine
save_line me (Named name) = Savepoint me name
save_line me (Of_block number height) = Block me number

abbrev pub release_lines : Text → Option Mark → List TraceLine
release_lines me None = []
release_lines me (Some (Named name)) = Release me name ∷ []
release_lines me (Some (Of_block number height)) = Unblock me number ∷ []

-- a return to a named savepoint, or to a block that catches an error
abbrev pub return_lines : Text → Code → Option Mark → List TraceLine
return_lines me code None = []
return_lines me code (Some (Named name)) = Back me name ∷ []
return_lines me code (Some (Of_block number height)) = Caught me number code ∷ []

abbrev pub finding_line : Text → Finding → TraceLine
finding_line me (No_parent key number) = Missing me key number
finding_line me (A_pair parent child) = Pair me parent child
