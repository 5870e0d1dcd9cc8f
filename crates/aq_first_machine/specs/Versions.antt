-- Versions of rows: as a transaction wrote them, and as the history has them.
use Rattle.std.specs.Prelude.{ℕ, zero, suc, if◌then◌else◌, ◌≤◌, Bool, true, false, not, ◌&&◌, ◌==◌, List, [], ◌∷◌, ◌++◌, map, filter, nat_le, Option, Some, None, is_none}
use Rattle.std.specs.List.{AllByRecursion}
use Rattle.std.specs.Ordering.{nat_cmp}
use Rattle.std.specs.FinMap.Entries.{where_key}
use Rattle.aq_base.specs.Values.{Row, keys_match, values_at}
use Rattle.aq_base.specs.Maps.{at}
use Rattle.aq_first_base.specs.Databases.{Stored, Database}
use Rattle.aq_first_base.specs.Writes.{Write, Writes}
use Rattle.aq_first_machine.specs.declared.world.Version.{Version}
use Rattle.aq_first_machine.specs.declared.writes.Write.{Write as Own_write}

abbrev pub stored_entry : Version → ℕ × Stored
stored_entry v = (v.row, record { table = v.table; values = v.values; commit = v.commit })

abbrev pub write_shown : Own_write → Write
write_shown w = record { table = w.table; image = w.image; number = w.number }

abbrev pub write_entry : Own_write → ℕ × Write
write_entry w = (w.row, write_shown w)

-- a commit with that number or an earlier one deleted the row
abbrev pub was_deleted : ℕ → Option ℕ → Bool
was_deleted commit None = false
was_deleted commit (Some deleted) = nat_le deleted commit

-- the version is in the database of the commit
abbrev pub stands_at : ℕ → Version → Bool
stands_at commit v = nat_le v.commit commit && not (was_deleted commit v.deleted)

-- the database of a commit
abbrev pub database_at : ℕ → List Version → Database
database_at commit versions = map stored_entry (filter (stands_at commit) versions)

-- database 0 and those of the commits up to a last one
unfoldable pub databases : ℕ → List Version → List Database
databases zero versions = database_at 0 versions ∷ []
databases (suc commit) versions = databases commit versions ++ database_at (suc commit) versions ∷ []

abbrev pub IsWithin : ℕ → Option ℕ → Type 0
IsWithin commit None = Unit {0}
IsWithin commit (Some deleted) = deleted ≤ commit

-- a commit with that number or an earlier one made the version, and one deleted it if any did
abbrev pub IsCommitted : ℕ → Version → Type 0
IsCommitted commit v = (v.commit ≤ commit) × IsWithin commit v.deleted

abbrev pub AreCommitted : ℕ → List Version → Type 0
AreCommitted commit versions = AllByRecursion (IsCommitted commit) versions

-- no commit deleted the version
abbrev pub is_standing : Version → Bool
is_standing v = is_none v.deleted

-- the writes leave the row as it was
abbrev pub is_unwritten : Writes → ℕ → Bool
is_unwritten writes row = is_none (at row writes)

-- what the writes leave of a database
abbrev pub unwritten : Writes → Database → Database
unwritten writes db = where_key nat_cmp (is_unwritten writes) db

-- a row of the table that no commit deleted, and that the writes leave as it was
abbrev pub is_left : Writes → ℕ → Version → Bool
is_left writes table v = (is_standing v && v.table == table) && is_unwritten writes v.row

-- the same, and it has the key at the columns
abbrev pub has_left : Writes → ℕ → List ℕ → Row → Version → Bool
has_left writes table cols key v = ((is_standing v && v.table == table) && keys_match (values_at cols v.values) key) && is_unwritten writes v.row

abbrev pub image_has : List ℕ → Row → Option Row → Bool
image_has cols key None = false
image_has cols key (Some values) = keys_match (values_at cols values) key

-- the written version is in the table and has the key at the columns
abbrev pub write_has : ℕ → List ℕ → Row → Own_write → Bool
write_has table cols key w = w.table == table && image_has cols key w.image

-- the written version is in the table, and is no deletion
abbrev pub is_new_in : ℕ → Own_write → Bool
is_new_in table w = w.table == table && not (is_none w.image)

abbrev pub deleted_if : ℕ → Bool → Version → Version
deleted_if commit false v = v
deleted_if commit true v = record v { deleted = Some commit }

-- the version, deleted by the commit where it stands and the writes have its row
abbrev pub with_deletion : ℕ → Writes → Version → Version
with_deletion commit writes v = deleted_if commit (is_standing v && not (is_unwritten writes v.row)) v

-- the version that a write makes, by the commit with that number
abbrev pub version_made : ℕ → Own_write → Option Row → List Version
version_made commit w None = []
version_made commit w (Some values) = record { row = w.row; table = w.table; values = values; commit = commit; deleted = None } ∷ []

abbrev pub versions_made : ℕ → List Own_write → List Version
versions_made commit [] = []
versions_made commit (w ∷ writes) = version_made commit w w.image ++ versions_made commit writes

-- how many writes at the front of a list are of earlier rows
abbrev pub place_in : ℕ → List Own_write → ℕ
place_in row [] = 0
place_in row (w ∷ writes) = if nat_le row w.row then 0 else suc (place_in row writes)

abbrev pub is_of_row : ℕ → Option Own_write → Bool
is_of_row row None = false
is_of_row row (Some w) = w.row == row
