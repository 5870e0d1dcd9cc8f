-- The numbers of a table's keys, and of the triggers that its changes fire, as a catalog keeps them.
use Rattle.std.specs.Prelude.{ℕ, zero, suc, Bool, false, ◌≡◌, ◌≤◌, ◌==◌, List, [], ◌∷◌, ◌++◌, Some, None, if◌then◌else◌, filter, length, map, nat_lt, slice_get}
use Rattle.std.specs.List.{list_any, enumerate_from, insert, position_or_len}
use Rattle.aq_base.specs.Names.{Text}
use Rattle.aq_base.specs.declared.catalog.Op.{Op}
use Rattle.aq_base.specs.declared.catalog.Op.TheVariants as ops
use Rattle.aq_base.specs.declared.catalog.Table.{Table}
use Rattle.aq_base.specs.declared.catalog.UniqueKey.{UniqueKey}
use Rattle.aq_base.specs.declared.catalog.ForeignKey.{ForeignKey}
use Rattle.aq_base.specs.declared.catalog.Trigger.{Trigger}
use Rattle.aq_catalog.specs.Catalogs.{places, same_op, fires_on, stands_before, in_name_order}

pub record Listed : Type 0 where
  pub keys : List ℕ
  -- the triggers in byte order of their names
  pub inserts : List ℕ
  pub updates : List ℕ
  pub deletes : List ℕ

abbrev pub nothing_listed : Listed
nothing_listed = record { keys = []; inserts = []; updates = []; deletes = [] }

abbrev pub listed_at : List Listed → ℕ → Listed
listed_at [] table = nothing_listed
listed_at (l ∷ others) zero = l
listed_at (l ∷ others) (suc table) = listed_at others table

abbrev pub listed_on : Op → Listed → List ℕ
listed_on ops.Insert l = l.inserts
listed_on ops.Update l = l.updates
listed_on ops.Delete l = l.deletes

-- the triggers of a list that a change of a table fires, each with its number
abbrev pub fired_by : List Trigger → ℕ → Op → List (ℕ × Trigger)
fired_by triggers table op = in_name_order [] (filter (λ entry. fires_on table op entry.1) (enumerate_from 0 triggers))

abbrev pub numbers_by : List Trigger → ℕ → Op → List ℕ
numbers_by triggers table op = map (λ entry. entry.0) (fired_by triggers table op)

abbrev pub listed_of : List UniqueKey → List Trigger → ℕ → Listed
listed_of keys triggers table =
    record {
      keys = places (λ key. key.table == table) keys;
      inserts = numbers_by triggers table ops.Insert;
      updates = numbers_by triggers table ops.Update;
      deletes = numbers_by triggers table ops.Delete;
    }

-- what a catalog keeps is right, and its tables and foreign keys have numbers
pub record IsKept (tables : List Table) (keys : List UniqueKey) (fks : List ForeignKey) (triggers : List Trigger) (kept : List Listed) : Type 0 where
  pub tables_fit : length tables ≤ 65535
  pub fks_fit : length fks ≤ 65535
  pub listed : (table : ℕ) → listed_at kept table ≡ listed_of keys triggers table

-- ---- one key or one trigger more

abbrev pub with_key_listed : ℕ → Listed → Listed
with_key_listed n l = record l { keys = l.keys ++ n ∷ [] }

-- whether a trigger of this name stands before that of a number
abbrev pub goes_before : List Trigger → Text → ℕ → Bool
goes_before triggers name n = elim (slice_get triggers n) [ None ↦ false | Some t ↦ stands_before name t.name ]

abbrev pub place_among : List Trigger → Text → List ℕ → ℕ
place_among triggers name numbers = position_or_len (goes_before triggers name) numbers

abbrev pub with_number : List Trigger → Trigger → Op → ℕ → List ℕ → List ℕ
with_number triggers trigger op n numbers =
    if list_any (same_op op) trigger.ops then insert numbers (place_among triggers trigger.name numbers) n else numbers

abbrev pub with_trigger_listed : List Trigger → Trigger → ℕ → Listed → Listed
with_trigger_listed triggers trigger n l =
    record l {
      inserts = with_number triggers trigger ops.Insert n l.inserts;
      updates = with_number triggers trigger ops.Update n l.updates;
      deletes = with_number triggers trigger ops.Delete n l.deletes;
    }

-- ---- as many keys and triggers as there were

abbrev pub below : ℕ → List ℕ → List ℕ
below bound numbers = filter (λ n. nat_lt n bound) numbers

abbrev pub listed_below : ℕ → ℕ → Listed → Listed
listed_below keys triggers l =
    record { keys = below keys l.keys; inserts = below triggers l.inserts; updates = below triggers l.updates; deletes = below triggers l.deletes }
