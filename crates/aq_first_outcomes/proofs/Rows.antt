-- A new row that isn't refused, and the events that a change queues.
use Rattle.std.proofs.Common.{◌≡◌, ℕ, zero, suc, ◌+◌, true, false, cond, ◌&&◌, ◌==◌, List, [], ◌∷◌, Option, Some, None, slice_get, Contains, find, ◌⊎◌, inl, inr, refl, sym, ◌∙◌, ap, subst, arith, add-zero, zero-add}
use Rattle.std.proofs.lemmas.Bool.{true≢false, and_cases, eq-eqb}
use Rattle.std.proofs.lemmas.Option.{none-some, same_Some}
use Rattle.aq_base.specs.Values.{Row, values_at}
use Rattle.aq_base.specs.Maps.{at}
use Rattle.aq_first_base.specs.Catalogs.{Catalog}
use Rattle.aq_first_base.specs.Databases.{Database, Stored, has_key}
use Rattle.aq_first_base.specs.Works.{Event}
use Rattle.aq_first_base.specs.declared.catalog.Table.{Table}
use Rattle.aq_first_base.specs.declared.catalog.UniqueKey.{UniqueKey}
use Rattle.aq_first_base.specs.declared.catalog.Trigger.{Trigger}
use Rattle.aq_base.specs.declared.catalog.Op.{Op}
use Rattle.aq_base.specs.declared.catalog.Op.TheVariants.{Insert, Delete}
use Rattle.aq_base.proofs.Lists.{find_none, Contains-first, Contains-later, Contains-map, Contains-map_from}
use Rattle.aq_base.proofs.Maps.{passes_none}
use Rattle.aq_first_outcomes.specs.Faults.{Fault}
use Rattle.aq_first_outcomes.specs.Rows.{is_taken, duplicate_of, duplicate_fault, not_null_cols, holds_null, null_or, insert_fault, fires_on, firing_from, queued_by, insert_events, delete_events}

found_none : (row : Row) (key : Option UniqueKey) → duplicate_of row key ≡ None → key ≡ None
found_none row None none = refl
found_none row (Some key) none = absurd (none-some _ (sym none))

-- neither of two refusals
neither : (table : ℕ) (row : Row) (col : Option ℕ) (other : Option Fault) → null_or table row col other ≡ None → (col ≡ None) × (other ≡ None)
neither table row None other none = (refl, none)
neither table row (Some col) other none = absurd (none-some _ (sym none))

-- a row that isn't refused has no null in a column that holds none
pub insert_fault-no_null : (cat : Catalog) (view : Database) (table : ℕ) (row : Row) → insert_fault cat view table row ≡ None
    → (t : Table) → slice_get cat.tables table ≡ Some t → (col : ℕ) → Contains t.not_null col → holds_null row col ≡ false
insert_fault-no_null cat view table row none t of_table col c =
    let parts = neither table row (find (holds_null row) (not_null_cols (slice_get cat.tables table))) (duplicate_fault cat view table row) none in
    find_none (holds_null row) t.not_null (ap (λ o. find (holds_null row) (not_null_cols o)) (sym of_table) ∙ parts.0) col c

-- a row that isn't refused has the key of no row that stands
pub insert_fault-none : (cat : Catalog) (view : Database) (table : ℕ) (row : Row) → insert_fault cat view table row ≡ None
    → (k : UniqueKey) → Contains cat.keys k → k.table ≡ table → (n : ℕ) (stored : Stored) → at n view ≡ Some stored → has_key k.table k.cols (values_at k.cols row) stored ≡ false
insert_fault-none cat view table row none k c of_table n stored stands =
    passes_none (has_key k.table k.cols (values_at k.cols row)) view (by_test (and_cases _ _ fails)) n stored stands
  where
    free : duplicate_fault cat view table row ≡ None
    free = (neither table row (find (holds_null row) (not_null_cols (slice_get cat.tables table))) (duplicate_fault cat view table row) none).1

    fails : (k.table == table && is_taken view row k) ≡ false
    fails = find_none (λ key. key.table == table && is_taken view row key) cat.keys (found_none row (find (λ key. key.table == table && is_taken view row key) cat.keys) free) k c

    by_test : ((k.table == table) ≡ false) ⊎ (is_taken view row k ≡ false) → is_taken view row k ≡ false
    by_test (inl other) = absurd (true≢false (sym (eq-eqb k.table table of_table) ∙ other))
    by_test (inr not_taken) = not_taken

-- a trigger that fires on the change is among those that queue an event
queued_from : (first table : ℕ) (op : Op) (triggers : List Trigger) (n : ℕ) (trigger : Trigger) → slice_get triggers n ≡ Some trigger → fires_on table op trigger ≡ true
    → Contains (firing_from first table op triggers) (first + n)
queued_from first table op [] n trigger stands fires = absurd (none-some trigger stands)
queued_from first table op (one ∷ triggers) zero trigger stands fires =
    rw add-zero (subst (λ b. Contains (cond b (first ∷ firing_from (first + 1) table op triggers) (firing_from (first + 1) table op triggers)) first)
    (sym (ap (fires_on table op) (same_Some one trigger stands) ∙ fires)) (Contains-first first (firing_from (first + 1) table op triggers)))
queued_from first table op (one ∷ triggers) (suc n) trigger stands fires =
    let rest : Contains (firing_from (first + 1) table op triggers) (first + suc n) = subst (Contains (firing_from (first + 1) table op triggers)) (omega arith) (queued_from (first + 1) table op triggers n trigger stands fires) in
    elim (fires_on table op one) as (λ b. Contains (cond b (first ∷ firing_from (first + 1) table op triggers) (firing_from (first + 1) table op triggers)) (first + suc n)) [
      | true ↦ Contains-later first (first + suc n) (firing_from (first + 1) table op triggers) rest
      | false ↦ rest
    ]

pub Contains-queued_by : (cat : Catalog) (table : ℕ) (op : Op) (n : ℕ) (trigger : Trigger) → slice_get cat.triggers n ≡ Some trigger → fires_on table op trigger ≡ true
    → Contains (queued_by cat table op) n
Contains-queued_by cat table op n trigger stands fires = rw zero-add at (queued_from 0 table op cat.triggers n trigger stands fires)

-- a new row queues an event of each such trigger
pub Contains-insert_events : (cat : Catalog) (table row write : ℕ) (values : Row) (n : ℕ) (trigger : Trigger) → slice_get cat.triggers n ≡ Some trigger → fires_on table Insert trigger ≡ true
    → Contains (insert_events cat table row write values) (record { trigger = n; row = row; write = write; old = None; new = Some values })
Contains-insert_events cat table row write values n trigger stands fires =
    Contains-map (λ t. record { trigger = t; row = row; write = write; old = None; new = Some values }) (queued_by cat table Insert) n (Contains-queued_by cat table Insert n trigger stands fires)

-- and so does a deleted one
pub Contains-delete_events : (cat : Catalog) (table row write : ℕ) (values : Row) (n : ℕ) (trigger : Trigger) → slice_get cat.triggers n ≡ Some trigger → fires_on table Delete trigger ≡ true
    → Contains (delete_events cat table row write values) (record { trigger = n; row = row; write = write; old = Some values; new = None })
Contains-delete_events cat table row write values n trigger stands fires =
    Contains-map (λ t. record { trigger = t; row = row; write = write; old = Some values; new = None }) (queued_by cat table Delete) n (Contains-queued_by cat table Delete n trigger stands fires)

-- an event of a change that leaves this image of the row
pub record IsOfChange (row write : ℕ) (image : Option Row) (event : Event) : Type 0 where
  pub of_row : event.row ≡ row
  pub of_write : event.write ≡ write
  pub has_image : event.new ≡ image

pub insert_events-of_change : (cat : Catalog) (table row write : ℕ) (values : Row) (event : Event) → Contains (insert_events cat table row write values) event → IsOfChange row write (Some values) event
insert_events-of_change cat table row write values event c =
    let from = Contains-map_from (λ t. record { trigger = t; row = row; write = write; old = None; new = Some values }) (queued_by cat table Insert) event c in
    record { of_row = ap (λ e. e.row) (sym from.2); of_write = ap (λ e. e.write) (sym from.2); has_image = ap (λ e. e.new) (sym from.2) }

pub delete_events-of_change : (cat : Catalog) (table row write : ℕ) (values : Row) (event : Event) → Contains (delete_events cat table row write values) event → IsOfChange row write None event
delete_events-of_change cat table row write values event c =
    let from = Contains-map_from (λ t. record { trigger = t; row = row; write = write; old = Some values; new = None }) (queued_by cat table Delete) event c in
    record { of_row = ap (λ e. e.row) (sym from.2); of_write = ap (λ e. e.write) (sym from.2); has_image = ap (λ e. e.new) (sym from.2) }
