-- One row step: whether a row may be changed or locked, in its order of tests (PostgreSQL source, heapam.c, heap_update; nodeModifyTable.c,
-- ExecUpdate; nbtinsert.c, _bt_check_unique).
use Rattle.std.specs.Prelude.{ℕ, Bool, true, false, not, ◌&&◌, List, [], ◌∷◌, filter, find, Option, Some, None, Result, Ok, Err, unwrap_or, slice_get, if◌then◌else◌}
use Rattle.std.specs.List.{list_any}
use Rattle.aq_base.specs.Values.{Row, values_at, is_null, has_no_null, same_values}
use Rattle.aq_base.specs.Maps.{at}
use Rattle.aq_base.specs.Databases.{Database, Stored, has_key}
use Rattle.aq_base.specs.Blockers.{Ask, is_apart}
use Rattle.aq_base.specs.Blockers.Ask.{For_row, For_key}
use Rattle.aq_base.specs.declared.value.Value.TheVariants.{Null}
use Rattle.aq_base.specs.declared.data.LockMode.{LockMode}
use Rattle.aq_base.specs.declared.data.LockMode.TheVariants as modes
use Rattle.aq_base.specs.declared.fault.SqlFault.{SqlFault}
use Rattle.aq_base.specs.declared.script.Kind.{Kind}
use Rattle.aq_base.specs.declared.catalog.Op.{Op}
use Rattle.aq_base.specs.declared.catalog.Op.TheVariants as ops
use Rattle.aq_base.specs.declared.catalog.Table.{Table}
use Rattle.aq_base.specs.declared.catalog.UniqueKey.{UniqueKey}
use Rattle.aq_catalog.specs.Catalogs.{Catalog, keys_of}
use Rattle.aq_outcomes.specs.Schemas.{Schema}
use Rattle.aq_outcomes.specs.Parties.{Around, Party, latest, ask_blockers, has_changed_since}
use Rattle.aq_outcomes.specs.Faults.{out_of_range, null_value, duplicate_key, not_serializable}

-- a change of a row; a new row has no number yet
pub record Change : Type 0 where
  pub table : ℕ
  pub row : Option ℕ
  pub op : Op
  pub old : Option Row
  pub new : Option Row

pub data Outcome : Type 0 where
  -- the change is to be made, with the row locked in a mode; nobody can ask for a new row
  Done : (change : Change) → (lock : Option LockMode) → Outcome
  -- the row is to be locked; its newest version
  Locked : (mode : LockMode) → (values : Row) → Outcome
  Passed_over : Outcome
  Waits : (ask : Ask) → Outcome
  Faulty : (fault : SqlFault) → Outcome

-- what is to be done with a row that is there; an UPDATE's new version comes from the newest one
pub data Wish : Type 0 where
  To_delete : Wish
  To_update : (new_version : Row → Result Row Kind) → Wish
  To_lock : (mode : LockMode) → Wish

-- ---- 1: the lock

abbrev pub mode_of : Wish → LockMode
mode_of To_delete = modes.Update
mode_of (To_update new_version) = modes.NoKeyUpdate
mode_of (To_lock mode) = mode

-- blockers make it a wait
abbrev pub unless_waiting : List ℕ → Ask → Outcome → Outcome
unless_waiting [] ask next = next
unless_waiting (blocker ∷ blockers) ask next = Waits ask

abbrev pub unless_blocked : Catalog → Around → Party → Ask → Outcome → Outcome
unless_blocked cat around party ask next = unless_waiting (ask_blockers cat around party.session ask) ask next

-- ---- 2 and 3: a Repeatable Read transaction refuses a row that has changed since its snapshot; a Read Committed one tests it again

abbrev pub still_wanted : Option ℕ → (Row → Result Bool Kind) → Row → Result Bool Kind
still_wanted None test values = test values
still_wanted (Some number) test values = Ok true

abbrev pub on_test : Result Bool Kind → Outcome → Outcome
on_test (Ok true) next = next
on_test (Ok false) next = Passed_over
on_test (Err kind) next = Faulty (out_of_range kind)

-- ---- 4: a changed key of any unique key asks for the stronger mode

abbrev pub key_differs : Catalog → Row → Row → ℕ → Bool
key_differs cat old new number =
    elim (slice_get cat.keys number) [ None ↦ false | Some key ↦ not (same_values (values_at key.cols old) (values_at key.cols new)) ]

abbrev pub changed_keys : Catalog → ℕ → Row → Row → List ℕ
changed_keys cat table old new = filter (key_differs cat old new) (keys_of cat table)

abbrev pub mode_for : List ℕ → LockMode
mode_for [] = modes.NoKeyUpdate
mode_for (key ∷ keys) = modes.Update

-- ---- 5: nulls

abbrev pub not_null_columns : Option Table → List ℕ
not_null_columns None = []
not_null_columns (Some table) = table.not_null

abbrev pub holds_null : Row → ℕ → Bool
holds_null row column = is_null (unwrap_or (slice_get row column) Null)

abbrev pub null_column : Schema → ℕ → Row → Option ℕ
null_column schema table row = find (holds_null row) (not_null_columns (slice_get schema.catalog.tables table))

-- ---- 6: keys that another row has

-- a row of the view, not the one that is left out, has the key
abbrev pub is_taken : Database → Option ℕ → UniqueKey → Row → Bool
is_taken view apart key values = list_any (λ entry. not (is_apart apart entry.0) && has_key key.table key.cols values entry.1) view

abbrev pub unless_taken : Bool → SqlFault → Outcome → Outcome
unless_taken taken fault next = if taken then Faulty fault else next

-- a key that another transaction has to do with is a wait, and one that a row has is refused
abbrev pub probed : Schema → Around → Party → Option ℕ → ℕ → UniqueKey → Row → Outcome → Outcome
probed schema around party apart number key values next =
    if has_no_null values
    then (unless_blocked schema.catalog around party (For_key number values apart) (unless_taken (is_taken (latest around party) apart key values) (duplicate_key schema key values) next))
    else next

abbrev pub key_probed : Schema → Around → Party → Option ℕ → Row → ℕ → Option UniqueKey → Outcome → Outcome
key_probed schema around party apart new number None next = next
key_probed schema around party apart new number (Some key) next = probed schema around party apart number key (values_at key.cols new) next

-- key after key
abbrev pub keys_probed : Schema → Around → Party → Option ℕ → Row → List ℕ → Outcome → Outcome
keys_probed schema around party apart new [] next = next
keys_probed schema around party apart new (number ∷ others) next =
    key_probed schema around party apart new number (slice_get schema.catalog.keys number) (keys_probed schema around party apart new others next)

-- ---- 5 to 7 for a new version, of which these unique keys are new

abbrev pub unless_null : Schema → ℕ → Row → Option ℕ → Outcome → Outcome
unless_null schema table new None next = next
unless_null schema table new (Some column) next = Faulty (null_value schema table column new)

abbrev pub putting : Schema → Around → Party → List ℕ → Change → Option LockMode → Row → Outcome
putting schema around party keys change lock new =
    unless_null schema change.table new (null_column schema change.table new) (keys_probed schema around party change.row new keys (Done change lock))

abbrev pub updating : Schema → Around → Party → ℕ → ℕ → Row → List ℕ → Row → Outcome
updating schema around party table row old keys new =
    unless_blocked schema.catalog around party (For_row row (mode_for keys))
    (putting schema around party keys (record { table = table; row = Some row; op = ops.Update; old = Some old; new = Some new }) (Some (mode_for keys)) new)

abbrev pub with_new : Schema → Around → Party → ℕ → ℕ → Row → Result Row Kind → Outcome
with_new schema around party table row old (Err kind) = Faulty (out_of_range kind)
with_new schema around party table row old (Ok new) = updating schema around party table row old (changed_keys schema.catalog table old new) new

abbrev pub wished : Schema → Around → Party → ℕ → ℕ → Row → Wish → Outcome
wished schema around party table row old To_delete =
    Done (record { table = table; row = Some row; op = ops.Delete; old = Some old; new = None }) (Some modes.Update)
wished schema around party table row old (To_update new_version) = with_new schema around party table row old (new_version old)
wished schema around party table row old (To_lock mode) = Locked mode old

-- ---- the step

-- a row that is gone is passed over
abbrev pub on_newest : Schema → Around → Party → ℕ → ℕ → Wish → (Row → Result Bool Kind) → Option Stored → Outcome
on_newest schema around party table row wish test None = Passed_over
on_newest schema around party table row wish test (Some stored) =
    on_test (still_wanted party.fixed test stored.values) (wished schema around party table row stored.values wish)

abbrev pub unless_changed : Bool → Outcome → Outcome
unless_changed changed next = if changed then Faulty not_serializable else next

unfoldable pub row_step : Schema → Around → Party → ℕ → Wish → (Row → Result Bool Kind) → ℕ → Outcome
row_step schema around party table wish test row =
    unless_blocked schema.catalog around party (For_row row (mode_of wish))
    (unless_changed (has_changed_since around party row) (on_newest schema around party table row wish test (at row (latest around party))))

-- a row of an INSERT: no lock, and all unique keys are new
unfoldable pub insert_step : Schema → Around → Party → ℕ → Row → Outcome
insert_step schema around party table new =
    putting schema around party (keys_of schema.catalog table) (record { table = table; row = None; op = ops.Insert; old = None; new = Some new }) None new
