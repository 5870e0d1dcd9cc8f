-- Row numbers are drawn from one counter: they rise along a database and along a transaction's writes.
use Rattle.std.specs.Prelude.{◌≡◌, ℕ, ◌<◌, ◌≤◌, true, T, [], Option, Some, None, is_some, length}
use Rattle.std.specs.Ordering.{nat_cmp}
use Rattle.std.specs.FinMap.Entries.{is_sorted}
use Rattle.aq_base.specs.Maps.{at}
use Rattle.aq_first_base.specs.Databases.{Database, Stored}
use Rattle.aq_first_base.specs.Writes.{Write, Writes, overlay}
use Rattle.aq_first_run.specs.States.{World, Session, Transaction, last_database}

-- The rows of a database and those that a transaction wrote stand in the order of their numbers, none above the last one drawn.
-- A row that the transaction has in a new version is above those of the database.
pub record IsOrdered (db : Database) (writes : Writes) (rows : ℕ) : Type 0 where
  pub rows_rise : T (is_sorted nat_cmp db)
  pub writes_rise : T (is_sorted nat_cmp writes)
  pub rows_drawn : (n : ℕ) (stored : Stored) → at n db ≡ Some stored → n ≤ rows
  pub writes_drawn : (n : ℕ) (write : Write) → at n writes ≡ Some write → n ≤ rows
  pub new_above : (n : ℕ) (write : Write) → at n writes ≡ Some write → is_some write.image ≡ true → (m : ℕ) (stored : Stored) → at m db ≡ Some stored → m < n

-- the last database with the writes
abbrev pub view_with : World → Writes → Database
view_with world writes = overlay (length world.history) writes (last_database world)

abbrev pub writes_of : Option Transaction → Writes
writes_of None = []
writes_of (Some t) = t.work.writes

-- so it is with the last database and what a session has written
abbrev pub IsOrderly : World → Session → Type 0
IsOrderly world me = IsOrdered (last_database world) (writes_of me.transaction) world.rows
