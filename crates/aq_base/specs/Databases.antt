-- A database: the rows of all tables, by their numbers.
use Rattle.std.specs.Prelude.{ℕ, ◌-◌, Bool, ◌&&◌, ◌==◌, List, [], length, filter, slice_index_or}
use Rattle.aq_base.specs.Values.{Row, keys_match, values_at}

-- a row as it was committed
pub record Stored : Type 0 where
  pub table : ℕ
  pub values : Row
  -- the number of the commit that wrote it
  pub commit : ℕ

abbrev pub Database : Type 0
Database = List (ℕ × Stored)

-- the rows of a table, by their numbers
abbrev pub rows_of : ℕ → Database → Database
rows_of table db = filter (λ entry. entry.1.table == table) db

-- the row is in the table and has the key at the columns
abbrev pub has_key : ℕ → List ℕ → Row → Stored → Bool
has_key table cols key stored = stored.table == table && keys_match (values_at cols stored.values) key

-- the rows of a table that have a key at some columns, by their numbers
abbrev pub rows_with_key : ℕ → List ℕ → Row → Database → Database
rows_with_key table cols key db = filter (λ entry. has_key table cols key entry.1) db

-- ---- the history: database 0, which is empty, and one for each commit, the oldest first

abbrev pub History : Type 0
History = List Database

-- the number of the last commit
abbrev pub last_number : History → ℕ
last_number history = length history - 1

abbrev pub database_at : ℕ → History → Database
database_at number history = slice_index_or history number []

abbrev pub last_database : History → Database
last_database history = database_at (last_number history) history
