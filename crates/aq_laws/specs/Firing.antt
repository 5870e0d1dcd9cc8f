-- In each committed transaction the events that survive and aren't replaced have fired once, for good, in their turn; and the rules of native
-- checks held where their events were queued.
use Rattle.std.specs.Prelude.{◌≡◌, ℕ, true, List, Option, Some, Ok, Contains, slice_get}
use Rattle.aq_base.specs.Values.{Row}
use Rattle.aq_base.specs.Names.{Text, same_text}
use Rattle.aq_base.specs.Rules.{Rule, is_kept}
use Rattle.aq_base.specs.declared.data.LockMode.{LockMode}
use Rattle.aq_base.specs.declared.catalog.Does.TheVariants.{Native}
use Rattle.aq_base.specs.declared.catalog.NativeName.{NativeName}
use Rattle.aq_base.specs.declared.catalog.Trigger.{Trigger}
use Rattle.aq_base.specs.declared.script.Script.{Script}
use Rattle.aq_base.specs.declared.trace.TraceEvent.{TraceEvent}
use Rattle.aq_base.specs.declared.trace.TraceLine.{TraceLine}
use Rattle.aq_base.specs.declared.trace.TraceLine.TheVariants.{Change}
use Rattle.aq_lines.specs.Transactions.{committed_transactions}
use Rattle.aq_lines.specs.Firing.{EventsFire}
use Rattle.aq_outcomes.specs.Schemas.{Schema, rule_named, table_name}
use Rattle.aq_outcomes.specs.Rows.{Change as Row_change}
use Rattle.aq_outcomes.specs.Queued.{queued_by}
use Rattle.aq_run.specs.Programs.{Program}
use Rattle.aq_run.specs.States.{Transaction, session_at}
use Rattle.aq_run.specs.Effects.Effect.{Changes}
use Rattle.aq_run.specs.Rows.{wrote_old}
use Rattle.aq_run.specs.Steps.{effects_of}
use Rattle.aq_run.specs.Runs.{Schedule, IsSchedule, run}
use Rattle.aq_laws.specs.Made.{IsMadeOf}

abbrev pub EventsHaveFired : Type 0
EventsHaveFired =
    (natives : List NativeName) (rules : List (Text × Rule)) (script : Script) (program : Program) → IsMadeOf natives rules script program →
    (schedule : Schedule) → IsSchedule program schedule → (lines : List TraceLine) →
    Contains (committed_transactions (run program schedule).world.trace) lines → EventsFire program.schema.catalog lines

-- a trigger of the table with the name does a native check by this rule
pub record Checks_by (schema : Schema) (table trigger : Text) (rule : Rule) : Type 0 where
  pub place : ℕ
  pub found : Trigger
  pub native : Text
  pub stands : slice_get schema.catalog.triggers place ≡ Some found
  pub of_table : same_text (table_name schema found.table) table ≡ true
  pub has_name : same_text found.name trigger ≡ true
  pub does : found.does ≡ Native native
  pub by : rule_named schema native ≡ Some rule

-- Where a surviving change names the event of a native check, the rule is true on the old row, none for an INSERT, and the new one.
abbrev pub NativeChecksHold : Type 0
NativeChecksHold =
    (natives : List NativeName) (rules : List (Text × Rule)) (script : Script) (program : Program) → IsMadeOf natives rules script program →
    (schedule : Schedule) → IsSchedule program schedule → (lines : List TraceLine) →
    Contains (committed_transactions (run program schedule).world.trace) lines →
    (session table : Text) (row : ℕ) (old : Option Row) (new : Row) (events : List TraceEvent) (event : TraceEvent) (rule : Rule) →
    Contains lines (Change session table row old (Some new) events) → Contains events event → Checks_by program.schema table event.trigger rule →
    is_kept rule old new ≡ true

-- the events of a change are those of the triggers that it queues for the columns that its statement or its action sets
pub record QueuesItsEvents (program : Program) (t : Transaction) (change : Row_change) (triggers : List ℕ) : Type 0 where
  pub set : List ℕ
  pub queued : queued_by program.schema change set (wrote_old t change) ≡ Ok triggers

abbrev pub ChangesQueueTheirEvents : Type 0
ChangesQueueTheirEvents =
    (program : Program) (schedule : Schedule) (s : ℕ) (change : Row_change) (lock : Option LockMode) (triggers : List ℕ) (t : Transaction) →
    Contains (effects_of program (run program schedule) s) (Changes change lock triggers) → (session_at (run program schedule) s).transaction ≡ Some t →
    QueuesItsEvents program t change triggers
