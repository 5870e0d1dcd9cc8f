-- What a step reads of the other sessions, and of its own.
use Rattle.std.specs.Prelude.{ℕ, Bool, false, true, not, ◌&&◌, List, [], Option, Some, None, nat_lt, slice_get}
use Rattle.aq_base.specs.Values.{Row}
use Rattle.aq_base.specs.Maps.{at}
use Rattle.aq_base.specs.Databases.{Database, Stored, History, last_number, last_database}
use Rattle.aq_base.specs.Writes.{Writes, has_written, view_at, latest_view}
use Rattle.aq_base.specs.LockModes.{Holdings}
use Rattle.aq_base.specs.Blockers.{Ask, row_blockers, key_blockers}
use Rattle.aq_base.specs.Blockers.Ask.{For_row, For_key}
use Rattle.aq_base.specs.declared.catalog.UniqueKey.{UniqueKey}
use Rattle.aq_catalog.specs.Catalogs.{Catalog}

pub record Around : Type 0 where
  pub history : History
  -- of each session: what it holds, and what it has written, in its work and in each saved copy; nothing where it has no transaction
  pub holdings : List Holdings
  pub versions : List (List Writes)

-- the session that steps
pub record Party : Type 0 where
  pub session : ℕ
  pub writes : Writes
  -- the commit number that a Repeatable Read transaction reads at
  pub fixed : Option ℕ

-- what the transaction would commit
abbrev pub latest : Around → Party → Database
latest around party = latest_view around.history party.writes

-- the commit number that a statement which starts now reads at, and what it sees
abbrev pub seen_number : Around → Option ℕ → ℕ
seen_number around None = last_number around.history
seen_number around (Some number) = number

abbrev pub seen : Around → Party → Database
seen around party = view_at (seen_number around party.fixed) around.history party.writes

abbrev pub key_ask_blockers : Around → ℕ → Row → Option ℕ → Option UniqueKey → List ℕ
key_ask_blockers around own values apart None = []
key_ask_blockers around own values apart (Some key) =
    key_blockers own (last_database around.history) around.versions key.table key.cols values apart

abbrev pub ask_blockers : Catalog → Around → ℕ → Ask → List ℕ
ask_blockers cat around own (For_row row mode) = row_blockers own around.holdings row mode
ask_blockers cat around own (For_key key values apart) = key_ask_blockers around own values apart (slice_get cat.keys key)

-- ---- what has happened since a Repeatable Read transaction took its snapshot

abbrev pub is_behind : Option ℕ → Option Stored → Bool
is_behind None stored = false
is_behind (Some number) None = true
is_behind (Some number) (Some stored) = nat_lt number stored.commit

-- another transaction has changed or deleted a row that stood in the snapshot
abbrev pub has_changed_since : Around → Party → ℕ → Bool
has_changed_since around party row = not (has_written row party.writes) && is_behind party.fixed (at row (last_database around.history))
