-- What a transaction has written, and a database with it.
use Rattle.std.specs.Prelude.{ℕ, ◌+◌, Bool, List, [], ◌∷◌, Option, Some, None, is_some}
use Rattle.aq_base.specs.Values.{Row}
use Rattle.aq_base.specs.Maps.{at, with_at, without}
use Rattle.aq_base.specs.Databases.{Database, History, database_at, last_number, last_database}

-- the newest version that the transaction has of a row
pub record Write : Type 0 where
  pub table : ℕ
  -- none where the row is deleted
  pub image : Option Row
  -- the number of the change that made it
  pub number : ℕ

abbrev pub Writes : Type 0
Writes = List (ℕ × Write)

abbrev pub has_written : ℕ → Writes → Bool
has_written row writes = is_some (at row writes)

-- the database with a row in a new version, as the commit with that number stores it
abbrev pub with_image : ℕ → ℕ → ℕ → Option Row → Database → Database
with_image commit row table None db = without row db
with_image commit row table (Some values) db = with_at row (record { table = table; values = values; commit = commit }) db

-- the database with each written row in its new version
abbrev pub overlay : ℕ → Writes → Database → Database
overlay commit [] db = db
overlay commit (entry ∷ writes) db = overlay commit writes (with_image commit entry.0 entry.1.table entry.1.image db)

-- what a transaction sees at a commit number: that database with its own versions
abbrev pub view_at : ℕ → History → Writes → Database
view_at number history writes = overlay (last_number history + 1) writes (database_at number history)

-- what it sees now, and what its commit would append
abbrev pub latest_view : History → Writes → Database
latest_view history writes = overlay (last_number history + 1) writes (last_database history)
