-- A database: the rows of all tables, by their numbers.
use Rattle.std.specs.Prelude.{ℕ, Bool, ◌&&◌, ◌==◌, List, filter}
use Rattle.aq_base.specs.Values.{Row, keys_match, values_at}

-- a row as it was committed
pub record Stored : Type 0 where
  pub table : ℕ
  pub values : Row
  -- the number of the commit that wrote it
  pub commit : ℕ

abbrev pub Database : Type 0
Database = List (ℕ × Stored)

-- the rows of a table, by their numbers
abbrev pub rows_of : ℕ → Database → Database
rows_of table db = filter (λ entry. entry.1.table == table) db

-- the row is in the table and has the key at the columns
abbrev pub has_key : ℕ → List ℕ → Row → Stored → Bool
has_key table cols key stored = stored.table == table && keys_match (values_at cols stored.values) key
