-- One row change, and the events that it queues (PostgreSQL source, nbtinsert.c, _bt_check_unique; trigger.c, AfterTriggerSaveEvent).
use Rattle.std.specs.Prelude.{ℕ, ◌+◌, Bool, true, false, ◌&&◌, ◌==◌, List, [], ◌∷◌, map, Option, Some, None, find, if◌then◌else◌, not, unwrap_or, slice_get}
use Rattle.std.specs.List.{list_any}
use Rattle.aq_base.specs.Values.{Row, values_at, is_null}
use Rattle.aq_first_base.specs.Catalogs.{Catalog}
use Rattle.aq_first_base.specs.Databases.{Database, has_key}
use Rattle.aq_first_base.specs.Works.{Event}
use Rattle.aq_first_base.specs.declared.catalog.UniqueKey.{UniqueKey}
use Rattle.aq_first_base.specs.declared.catalog.Trigger.{Trigger}
use Rattle.aq_first_base.specs.declared.catalog.Table.{Table}
use Rattle.aq_base.specs.declared.value.Value.TheVariants.{Null}
use Rattle.aq_base.specs.declared.catalog.Op.{Op}
use Rattle.aq_base.specs.declared.catalog.Op.TheVariants.{Insert, Update, Delete}
use Rattle.aq_first_outcomes.specs.Faults.{Fault}
use Rattle.aq_first_outcomes.specs.Faults.Fault.{Duplicate, Null_value}

-- some row has the values of the row at the key's columns
abbrev pub is_taken : Database → Row → UniqueKey → Bool
is_taken view row key = list_any (λ entry. has_key key.table key.cols (values_at key.cols row) entry.1) view

abbrev pub duplicate_of : Row → Option UniqueKey → Option Fault
duplicate_of row None = None
duplicate_of row (Some key) = Some (Duplicate key (values_at key.cols row))

abbrev pub duplicate_fault : Catalog → Database → ℕ → Row → Option Fault
duplicate_fault cat view table row = duplicate_of row (find (λ key. key.table == table && is_taken view row key) cat.keys)

abbrev pub not_null_cols : Option Table → List ℕ
not_null_cols None = []
not_null_cols (Some table) = table.not_null

abbrev pub holds_null : Row → ℕ → Bool
holds_null row col = is_null (unwrap_or (slice_get row col) Null)

-- a null in the first column that holds none; else the first unique key that is taken
abbrev pub null_or : ℕ → Row → Option ℕ → Option Fault → Option Fault
null_or table row None other = other
null_or table row (Some col) other = Some (Null_value table col row)

-- what refuses a new row: a null in the first column that holds none, or the first unique key of its table that is taken in the view
abbrev pub insert_fault : Catalog → Database → ℕ → Row → Option Fault
insert_fault cat view table row =
    null_or table row (find (holds_null row) (not_null_cols (slice_get cat.tables table))) (duplicate_fault cat view table row)

abbrev pub same_op : Op → Op → Bool
same_op Insert Insert = true
same_op Insert b = false
same_op Update Update = true
same_op Update b = false
same_op Delete Delete = true
same_op Delete b = false

-- the change queues an event of the trigger
abbrev pub fires_on : ℕ → Op → Trigger → Bool
fires_on table op trigger = trigger.table == table && list_any (same_op op) trigger.ops

-- the numbers, from a first one on, of the triggers that queue an event
abbrev pub firing_from : ℕ → ℕ → Op → List Trigger → List ℕ
firing_from number table op [] = []
firing_from number table op (trigger ∷ triggers) =
    if fires_on table op trigger then number ∷ firing_from (number + 1) table op triggers else firing_from (number + 1) table op triggers

-- the triggers whose events a change of the table queues, in the byte order of their names, which is that of their creation
abbrev pub queued_by : Catalog → ℕ → Op → List ℕ
queued_by cat table op = firing_from 0 table op cat.triggers

-- the events of a new row
abbrev pub insert_events : Catalog → ℕ → ℕ → ℕ → Row → List Event
insert_events cat table row write values =
    map (λ trigger. record { trigger = trigger; row = row; write = write; old = None; new = Some values }) (queued_by cat table Insert)

-- the events of a row that is deleted
abbrev pub delete_events : Catalog → ℕ → ℕ → ℕ → Row → List Event
delete_events cat table row write values =
    map (λ trigger. record { trigger = trigger; row = row; write = write; old = Some values; new = None }) (queued_by cat table Delete)

-- the event waits for the commit
abbrev pub is_deferred : Catalog → Event → Bool
is_deferred cat event = waits (slice_get cat.triggers event.trigger)
  where
    waits : Option Trigger → Bool
    waits None = false
    waits (Some trigger) = trigger.decl.deferrable && trigger.decl.deferred

abbrev pub is_immediate : Catalog → Event → Bool
is_immediate cat event = not (is_deferred cat event)
