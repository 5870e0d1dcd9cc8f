-- Who stands in the way of a session: the sessions whose transactions hold a row in a mode that conflicts, or have to do with a key
-- (PostgreSQL source, heapam.c, Do_MultiXactIdWait; nbtinsert.c, _bt_check_unique). Sessions are numbered by their places in the lists.
use Rattle.std.specs.Prelude.{ℕ, Bool, false, not, ◌&&◌, ◌||◌, ◌==◌, List, map, filter, Option, Some, None, true, ◌+◌, ◌∷◌, []}
use Rattle.std.specs.List.{list_any, enumerate_from}
use Rattle.aq_base.specs.Values.{Row, keys_match, values_at}
use Rattle.aq_base.specs.Maps.{at}
use Rattle.aq_base.specs.Databases.{Database, Stored, has_key}
use Rattle.aq_base.specs.Writes.{Write, Writes}
use Rattle.aq_base.specs.LockModes.{Holdings, conflicts_with}
use Rattle.aq_base.specs.declared.data.LockMode.{LockMode}

-- what a session wants: a row in a mode, or that nobody else has to do with a key of a table, one row apart
pub data Ask : Type 0 where
  For_row : (row : ℕ) → (mode : LockMode) → Ask
  For_key : (key : ℕ) → (values : Row) → (apart : Option ℕ) → Ask

-- the numbers, from a first one on, of the entries that pass a test, but one
abbrev pub with_number : Bool → ℕ → List ℕ → List ℕ
with_number true number numbers = number ∷ numbers
with_number false number numbers = numbers

abbrev pub others_from : {A : Type 0} → ℕ → ℕ → (A → Bool) → List A → List ℕ
others_from number own test [] = []
others_from number own test (entry ∷ entries) =
    with_number (not (number == own) && test entry) number (others_from (number + 1) own test entries)

abbrev pub others : {A : Type 0} → ℕ → (A → Bool) → List A → List ℕ
others own test entries = others_from 0 own test entries

-- what each session holds, nothing where it has no transaction
abbrev pub row_blockers : ℕ → List Holdings → ℕ → LockMode → List ℕ
row_blockers own holdings row mode = others own (λ held. conflicts_with mode (at row held)) holdings

-- ---- keys

abbrev pub image_has_key : List ℕ → Row → Option Row → Bool
image_has_key cols key None = false
image_has_key cols key (Some values) = keys_match (values_at cols values) key

abbrev pub stored_has_key : ℕ → List ℕ → Row → Option Stored → Bool
stored_has_key table cols key None = false
stored_has_key table cols key (Some stored) = has_key table cols key stored

abbrev pub is_apart : Option ℕ → ℕ → Bool
is_apart None row = false
is_apart (Some apart) row = apart == row

-- a written row of the table, not the one that is left out, has the key in this version of the writer or in the last database
abbrev pub touches_key : Database → ℕ → List ℕ → Row → Option ℕ → ℕ × Write → Bool
touches_key last table cols key apart entry =
    not (is_apart apart entry.0) && (entry.1.table == table && (image_has_key cols key entry.1.image || stored_has_key table cols key (at entry.0 last)))

-- what each session has written: its present writes, and those of each saved copy
abbrev pub key_blockers : ℕ → Database → List (List Writes) → ℕ → List ℕ → Row → Option ℕ → List ℕ
key_blockers own last versions table cols key apart =
    others own (λ works. list_any (λ writes. list_any (touches_key last table cols key apart) writes) works) versions
