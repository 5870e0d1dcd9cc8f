-- Which events a change of a row, or a statement, queues (PostgreSQL source, trigger.c, AfterTriggerSaveEvent, TriggerEnabled; ri_triggers.c,
-- RI_FKey_pk_upd_check_required, RI_FKey_fk_upd_check_required).
use Rattle.std.specs.Prelude.{ℕ, ◌+◌, Bool, true, false, not, ◌&&◌, ◌||◌, ◌==◌, List, [], ◌∷◌, filter, Option, Some, None, Result, Ok, Err, if◌then◌else◌, nat_lt, slice_get}
use Rattle.std.specs.List.{list_any}
use Rattle.aq_base.specs.Values.{Row, values_at, has_no_null, same_values}
use Rattle.aq_base.specs.Terms.{Term}
use Rattle.aq_base.specs.Events.{Event, is_of_statement}
use Rattle.aq_base.specs.Transitions.{same_op}
use Rattle.aq_base.specs.References.{is_reference}
use Rattle.aq_base.specs.declared.script.Kind.{Kind}
use Rattle.aq_base.specs.declared.catalog.Op.{Op}
use Rattle.aq_base.specs.declared.catalog.Op.TheVariants as ops
use Rattle.aq_base.specs.declared.catalog.Does.{Does}
use Rattle.aq_base.specs.declared.catalog.Does.TheVariants.{Check, Parent, Body, Native}
use Rattle.aq_base.specs.declared.catalog.ForeignKey.{ForeignKey}
use Rattle.aq_base.specs.declared.catalog.Trigger.{Trigger}
use Rattle.aq_base.specs.declared.trigger.Each.{Each}
use Rattle.aq_base.specs.declared.trigger.Each.TheVariants as each
use Rattle.aq_expr.specs.Evaluation.{Surroundings, term_truth}
use Rattle.aq_catalog.specs.Catalogs.{triggers_of}
use Rattle.aq_outcomes.specs.Schemas.{Schema, trigger_at, condition_at}
use Rattle.aq_outcomes.specs.Rows.{Change}

-- ---- UPDATE OF and WHEN

abbrev pub is_among : List ℕ → ℕ → Bool
is_among numbers n = list_any (λ m. m == n) numbers

-- an UPDATE passes a list of columns where one of them is set; there may be no list
abbrev pub passes_columns : Op → List ℕ → List ℕ → Bool
passes_columns ops.Update (col ∷ cols) set = list_any (is_among set) (col ∷ cols)
passes_columns _ _ _ = true

abbrev pub is_true : Result (Option Bool) Kind → Result Bool Kind
is_true (Ok None) = Ok false
is_true (Ok (Some truth)) = Ok truth
is_true (Err kind) = Err kind

-- without a condition, or where it is true
abbrev pub condition_holds : Surroundings → Option Term → Result Bool Kind
condition_holds around None = Ok true
condition_holds around (Some term) = is_true (term_truth around term)

-- ---- foreign keys

-- the key of a version
abbrev pub key_in : List ℕ → Option Row → Row
key_in cols None = []
key_in cols (Some values) = values_at cols values

-- A new child row always has its check. An update has one where the new key refers to something, and it is another key or the old version was
-- written by this transaction.
abbrev pub check_is_due : Op → Bool → Row → Row → Bool → Bool
check_is_due ops.Insert full old new wrote_old = true
check_is_due ops.Update full old new wrote_old = is_reference full new && (not (same_values old new) || wrote_old)
check_is_due ops.Delete full old new wrote_old = false

-- a parent row that had a key without a null, and has it no longer
abbrev pub parent_is_due : Op → Row → Row → Bool
parent_is_due ops.Insert old new = false
parent_is_due ops.Update old new = has_no_null old && not (same_values old new)
parent_is_due ops.Delete old new = has_no_null old

abbrev pub check_of : Change → Bool → Option ForeignKey → Bool
check_of change wrote_old None = false
check_of change wrote_old (Some f) =
    check_is_due change.op f.full (key_in f.child_cols change.old) (key_in f.child_cols change.new) wrote_old

abbrev pub parent_of : Change → Option ForeignKey → Bool
parent_of change None = false
parent_of change (Some f) = parent_is_due change.op (key_in f.parent_cols change.old) (key_in f.parent_cols change.new)

abbrev pub is_due : Schema → Change → Bool → Does → Bool
is_due schema change wrote_old (Check f) = check_of change wrote_old (slice_get schema.catalog.fks f)
is_due schema change wrote_old (Parent f) = parent_of change (slice_get schema.catalog.fks f)
is_due schema change wrote_old (Body body) = true
is_due schema change wrote_old (Native name) = true

-- ---- triggers of a row's change

abbrev pub is_for_rows : Each → Bool
is_for_rows each.Row = true
is_for_rows each.Statement = false

abbrev pub where_true : Bool → Result Bool Kind → Result Bool Kind
where_true passes condition = if passes then condition else Ok false

abbrev pub around_change : Change → Surroundings
around_change change = record { row = None; old = change.old; new = change.new; op = Some change.op }

abbrev pub fires_for_row : Schema → Change → List ℕ → Bool → ℕ → Option Trigger → Result Bool Kind
fires_for_row schema change set wrote_old number None = Ok false
fires_for_row schema change set wrote_old number (Some trigger) =
    where_true (is_for_rows trigger.level && (passes_columns change.op trigger.cols set && is_due schema change wrote_old trigger.does))
    (condition_holds (around_change change) (condition_at schema number))

-- the first condition without a value decides
abbrev pub with_trigger : ℕ → Result Bool Kind → Result (List ℕ) Kind → Result (List ℕ) Kind
with_trigger number (Err kind) others = Err kind
with_trigger number (Ok fires) (Err kind) = Err kind
with_trigger number (Ok fires) (Ok others) = Ok (if fires then number ∷ others else others)

abbrev pub those_that_fire : (ℕ → Result Bool Kind) → List ℕ → Result (List ℕ) Kind
those_that_fire fires [] = Ok []
those_that_fire fires (number ∷ others) = with_trigger number (fires number) (those_that_fire fires others)

-- the triggers of which a change of a row queues an event, in byte order of their names; the kind of which a number in a WHEN is out of range
unfoldable pub queued_by : Schema → Change → List ℕ → Bool → Result (List ℕ) Kind
queued_by schema change set wrote_old =
    those_that_fire (λ number. fires_for_row schema change set wrote_old number (trigger_at schema number)) (triggers_of schema.catalog change.table change.op)

-- ---- triggers of a statement

abbrev pub around_statement : Op → Surroundings
around_statement op = record { row = None; old = None; new = None; op = Some op }

abbrev pub fires_for_statement : Schema → Op → List ℕ → ℕ → Option Trigger → Result Bool Kind
fires_for_statement schema op set number None = Ok false
fires_for_statement schema op set number (Some trigger) =
    where_true (not (is_for_rows trigger.level) && passes_columns op trigger.cols set) (condition_holds (around_statement op) (condition_at schema number))

unfoldable pub queued_by_statement : Schema → ℕ → Op → List ℕ → Result (List ℕ) Kind
queued_by_statement schema table op set =
    those_that_fire (λ number. fires_for_statement schema op set number (trigger_at schema number)) (triggers_of schema.catalog table op)

-- ---- the events

-- one for each trigger, numbered from the one behind the last
abbrev pub events_of : Event → ℕ → List ℕ → List Event
events_of event last [] = []
events_of event last (trigger ∷ others) = record event { number = last + 1; trigger = trigger } ∷ events_of event (last + 1) others

-- ---- statement events that others of the same table and operation replace: those that were queued behind an event's number

abbrev pub is_replaced : ℕ → Op → ℕ → Event → Bool
is_replaced table op since event =
    is_of_statement event && (event.table == table && (same_op event.op op && nat_lt since event.number))

abbrev pub replaced_in : ℕ → Op → ℕ → List Event → List Event
replaced_in table op since events = filter (is_replaced table op since) events

abbrev pub without_replaced : ℕ → Op → ℕ → List Event → List Event
without_replaced table op since events = filter (λ event. not (is_replaced table op since event)) events
