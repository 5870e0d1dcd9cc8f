-- The check that a child row has a parent, and the one that a parent row that went has no child left
-- (PostgreSQL source, ri_triggers.c, RI_FKey_check, RI_FKey_noaction_del).
use Rattle.std.specs.Prelude.{ℕ, Bool, false, ◌==◌, List, [], Option, Some, None, if◌then◌else◌}
use Rattle.std.specs.List.{list_any}
use Rattle.aq_base.specs.Values.{Row, values_at, has_no_null}
use Rattle.aq_base.specs.Maps.{at}
use Rattle.aq_first_base.specs.Databases.{Database, has_key}
use Rattle.aq_first_base.specs.Writes.{Write, Writes}
use Rattle.aq_first_base.specs.Works.{Event}
use Rattle.aq_first_base.specs.declared.catalog.ForeignKey.{ForeignKey}
use Rattle.aq_first_outcomes.specs.Faults.{Fault}
use Rattle.aq_first_outcomes.specs.Faults.Fault.{Missing, Referenced}

-- the event's version is still the newest one that the transaction has of the row
abbrev pub is_live : Event → Option Write → Bool
is_live event None = false
is_live event (Some write) = write.number == event.write

-- some row of the parent table has the key
abbrev pub has_parent : ForeignKey → Row → Database → Bool
has_parent f key view = list_any (λ entry. has_key f.parent f.parent_cols key entry.1) view

pub data Checked : Type 0 where
  Passed : Checked
  Skipped : Checked
  Violated : (fault : Fault) → Checked

abbrev pub look_for_parent : ForeignKey → Row → Database → Checked
look_for_parent f key view =
    if has_no_null key then (if has_parent f key view then Passed else Violated (Missing f key)) else Passed

-- the event's key at some columns, of the version that it has
abbrev pub key_in : List ℕ → Option Row → Row
key_in cols None = []
key_in cols (Some values) = values_at cols values

-- A check of a version that is no longer the newest is skipped. A key with a null passes.
abbrev pub child_check : ForeignKey → Event → Writes → Database → Checked
child_check f event writes view =
    if is_live event (at event.row writes) then look_for_parent f (key_in f.child_cols event.new) view else Skipped

-- some row of the child table has the key
abbrev pub has_child : ForeignKey → Row → Database → Bool
has_child f key view = list_any (λ entry. has_key f.child f.child_cols key entry.1) view

-- Another row of the parent table may have the old key; else no child row may have it.
abbrev pub parent_check : ForeignKey → Event → Database → Checked
parent_check f event view =
    if has_parent f (key_in f.parent_cols event.old) view then Passed
    else (if has_child f (key_in f.parent_cols event.old) view then Violated (Referenced f (key_in f.parent_cols event.old)) else Passed)
