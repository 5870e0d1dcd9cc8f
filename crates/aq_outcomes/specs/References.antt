-- The checks and the actions of a foreign key (PostgreSQL source, ri_triggers.c).
use Rattle.std.specs.Prelude.{ℕ, Bool, false, not, ◌&&◌, ◌==◌, List, [], ◌∷◌, map, Option, Some, None, Result, Ok, Err, unwrap_or, slice_get, slice_set, true}
use Rattle.aq_base.specs.Values.{Row, values_at, keys_match}
use Rattle.aq_base.specs.Maps.{at}
use Rattle.aq_base.specs.Databases.{Database, Stored, rows_with_key, has_key, last_database}
use Rattle.aq_base.specs.Writes.{Write, has_written}
use Rattle.aq_base.specs.Blockers.{Ask, row_blockers}
use Rattle.aq_base.specs.Blockers.Ask.{For_row}
use Rattle.aq_base.specs.Events.{Event}
use Rattle.aq_base.specs.References.{is_reference, is_mixture}
use Rattle.aq_base.specs.declared.value.Value.{Value}
use Rattle.aq_base.specs.declared.value.Value.TheVariants.{Null}
use Rattle.aq_base.specs.declared.data.LockMode.TheVariants as modes
use Rattle.aq_base.specs.declared.script.Kind.{Kind}
use Rattle.aq_base.specs.declared.constraint.Action.{Action}
use Rattle.aq_base.specs.declared.constraint.Action.TheVariants as actions
use Rattle.aq_base.specs.declared.catalog.Op.{Op}
use Rattle.aq_base.specs.declared.catalog.Op.TheVariants as ops
use Rattle.aq_base.specs.declared.catalog.Column.{Column}
use Rattle.aq_base.specs.declared.catalog.ForeignKey.{ForeignKey}
use Rattle.aq_expr.specs.Operators.{stored}
use Rattle.aq_outcomes.specs.Schemas.{Schema, columns}
use Rattle.aq_outcomes.specs.Parties.{Around, Party, latest, seen, seen_number}
use Rattle.aq_outcomes.specs.Queued.{key_in}
use Rattle.aq_outcomes.specs.Rows.{Wish}
use Rattle.aq_outcomes.specs.Rows.Wish.{To_delete, To_update}

pub data Checked : Type 0 where
  -- the row, if any, that is locked from now on
  Passes : (lock : Option ℕ) → Checked
  Skips : Checked
  Waits_for : (ask : Ask) → Checked
  -- a mixture of nulls and values under MATCH FULL
  Mixed : Checked
  -- no parent row has the key in the database with this number, seen with the transaction's own versions
  Missing : (key : Row) → (number : ℕ) → Checked
  -- a child row still has the old key of the parent row
  Pair : (parent : ℕ) → (child : ℕ) → (key : Row) → Checked
  -- the parent row has changed since the snapshot
  Changed : Checked

-- ---- the check of a child row

-- the event's version is still the newest one that the transaction has of the row
abbrev pub is_write : Option ℕ → Option Write → Bool
is_write (Some number) (Some write) = write.number == number
is_write _ _ = false

abbrev pub own_write : Option ℕ → Party → Option Write
own_write None party = None
own_write (Some row) party = at row party.writes

abbrev pub is_live : Party → Event → Bool
is_live party event = is_write event.write (own_write event.row party)

-- somebody stands in the way of the lock, or the lock is taken
abbrev pub unless_held : List ℕ → ℕ → Checked → Checked
unless_held [] row next = next
unless_held (blocker ∷ blockers) row next = Waits_for (For_row row modes.KeyShare)

abbrev pub locking : Around → Party → ℕ → Checked → Checked
locking around party row next = unless_held (row_blockers party.session around.holdings row modes.KeyShare) row next

abbrev pub still_has : ForeignKey → Row → Option Stored → Bool
still_has f key None = false
still_has f key (Some stored) = has_key f.parent f.parent_cols key stored

-- a Repeatable Read transaction refuses a parent that another one has taken away since
abbrev pub has_gone : Around → Party → ForeignKey → Row → ℕ → Option ℕ → Bool
has_gone around party f key row None = false
has_gone around party f key row (Some number) =
    not (has_written row party.writes) && not (still_has f key (at row (last_database around.history)))

abbrev pub unless_gone : Bool → Checked → Checked
unless_gone true next = Changed
unless_gone false next = next

abbrev pub with_parent : Around → Party → ForeignKey → Row → ℕ → Checked
with_parent around party f key row =
    locking around party row (unless_gone (has_gone around party f key row party.fixed) (Passes (Some row)))

abbrev pub on_parents : Around → Party → ForeignKey → Row → Database → Checked
on_parents around party f key [] = Missing key (seen_number around party.fixed)
on_parents around party f key (parent ∷ others) = with_parent around party f key parent.0

abbrev pub look_for_parent : Around → Party → ForeignKey → Row → Checked
look_for_parent around party f key = on_parents around party f key (rows_with_key f.parent f.parent_cols key (seen around party))

-- a mixture of nulls and values is refused under MATCH FULL; a key that refers to nothing passes; a version that isn't the newest is skipped
abbrev pub unless_mixed : Bool → Checked → Checked
unless_mixed true next = Mixed
unless_mixed false next = next

abbrev pub where_reference : Bool → Checked → Checked
where_reference true next = next
where_reference false next = Passes None

abbrev pub where_live : Bool → Checked → Checked
where_live true next = next
where_live false next = Skips

abbrev pub check_key : Around → Party → ForeignKey → Row → Checked
check_key around party f key =
    unless_mixed (f.full && is_mixture key) (where_reference (is_reference f.full key) (look_for_parent around party f key))

unfoldable pub child_check : Around → Party → ForeignKey → Event → Checked
child_check around party f event =
    where_live (is_live party event) (check_key around party f (key_in f.child_cols event.new))

-- ---- the check of a parent row: NO ACTION looks for another parent with the old key first, RESTRICT doesn't

abbrev pub with_child : Around → Party → ForeignKey → Event → Row → Database → Checked
with_child around party f event key [] = Passes None
with_child around party f event key (child ∷ others) = locking around party child.0 (Pair (unwrap_or event.row 0) child.0 key)

abbrev pub look_for_child : Around → Party → ForeignKey → Event → Row → Checked
look_for_child around party f event key = with_child around party f event key (rows_with_key f.child f.child_cols key (latest around party))

abbrev pub with_other_parent : Around → Party → ForeignKey → Event → Row → Database → Checked
with_other_parent around party f event key [] = look_for_child around party f event key
with_other_parent around party f event key (parent ∷ others) = locking around party parent.0 (Passes (Some parent.0))

abbrev pub old_key : ForeignKey → Event → Row
old_key f event = key_in f.parent_cols event.old

unfoldable pub no_action_check : Around → Party → ForeignKey → Event → Checked
no_action_check around party f event =
    with_other_parent around party f event (old_key f event) (rows_with_key f.parent f.parent_cols (old_key f event) (latest around party))

unfoldable pub restrict_check : Around → Party → ForeignKey → Event → Checked
restrict_check around party f event = look_for_child around party f event (old_key f event)

-- ---- actions

abbrev pub action_of : ForeignKey → Op → Action
action_of f ops.Delete = f.on_delete
action_of f _ = f.on_update

-- the child rows with the old key, by their numbers
unfoldable pub action_targets : Around → Party → ForeignKey → Event → List ℕ
action_targets around party f event =
    map (λ entry. entry.0) (rows_with_key f.child f.child_cols (old_key f event) (latest around party))

-- the columns that the action sets
abbrev pub acted_columns : ForeignKey → Op → List ℕ
acted_columns f ops.Delete = f.set_cols
acted_columns f _ = f.child_cols

-- the row with values at columns
abbrev pub with_values : List ℕ → Row → Row → Row
with_values [] values row = row
with_values (col ∷ cols) [] row = row
with_values (col ∷ cols) (value ∷ values) row = with_values cols values (slice_set row col value)

-- what the columns get by default, as they keep it
abbrev pub default_of : Option Column → Result Value Kind
default_of None = Ok Null
default_of (Some col) = stored col.default col.kind

abbrev pub with_first : Result Value Kind → Result Row Kind → Result Row Kind
with_first (Err kind) others = Err kind
with_first (Ok value) (Err kind) = Err kind
with_first (Ok value) (Ok others) = Ok (value ∷ others)

abbrev pub defaults_at : List Column → List ℕ → Result Row Kind
defaults_at cols [] = Ok []
defaults_at cols (col ∷ others) = with_first (default_of (slice_get cols col)) (defaults_at cols others)

-- values as the columns keep them
abbrev pub kept_as : Option Column → Value → Result Value Kind
kept_as None value = Ok value
kept_as (Some col) value = stored value col.kind

abbrev pub kept_at : List Column → List ℕ → Row → Result Row Kind
kept_at cols (col ∷ others) (value ∷ values) = with_first (kept_as (slice_get cols col) value) (kept_at cols others values)
kept_at cols _ _ = Ok []

abbrev pub put_at : List ℕ → Row → Result Row Kind → Result Row Kind
put_at cols row (Err kind) = Err kind
put_at cols row (Ok values) = Ok (with_values cols values row)

-- the deletion, the parent's new key, nulls or defaults
abbrev pub action_wish : Schema → ForeignKey → Event → Action → Wish
action_wish schema f event actions.Cascade =
    elim (event.op) [
      | ops.Delete ↦ To_delete
      | ops.Update ↦ To_update (λ row. put_at f.child_cols row (kept_at (columns schema f.child) f.child_cols (key_in f.parent_cols event.new)))
      | ops.Insert ↦ To_delete
    ]
action_wish schema f event actions.SetDefault =
    To_update (λ row. put_at (acted_columns f event.op) row (defaults_at (columns schema f.child) (acted_columns f event.op)))
action_wish schema f event _ =
    To_update (λ row. Ok (with_values (acted_columns f event.op) (map (λ _. Null) (acted_columns f event.op)) row))

-- a target is changed only while it has the old key
abbrev pub action_test : ForeignKey → Event → Row → Result Bool Kind
action_test f event row = Ok (keys_match (values_at f.child_cols row) (old_key f event))

-- what the changes of an action are
abbrev pub action_op : Action → Op → Op
action_op actions.Cascade op = op
action_op _ op = ops.Update
