-- The holders of each row: for each session the mode in which it holds the row.
use Rattle.std.specs.Prelude.{◌≡◌, ◌≢◌, ℕ, ◌<◌, List, [], map, take, length, Option, Some, None, slice_get, slice_set, slice_index_or}
use Rattle.std.specs.BTreeMap.{BTreeMap, get}
use Rattle.std.specs.Ordering.{nat_cmp}
use Rattle.std.specs.Global.{Global}
use Rattle.std.specs.Prelude.{Vec}
use Rattle.aq_base.specs.Maps.{at}
use Rattle.aq_base.specs.declared.data.LockMode.{LockMode}
use Rattle.aq_locks.specs.Logs.{Lock, holdings_of}
use Rattle.aq_locks.specs.declared.log.Taken.{Taken}

abbrev pub Holders : Type 0
Holders = List (Option LockMode)

abbrev pub Rows : Type 0
Rows = BTreeMap ℕ Holders

abbrev pub mode_at : ℕ → Option Holders → Option LockMode
mode_at session None = None
mode_at session (Some modes) = slice_index_or modes session None

-- in which mode a session holds a row
abbrev pub mode_in : Rows → ℕ → ℕ → Option LockMode
mode_in rows row session = mode_at session (get nat_cmp rows row)

abbrev pub lock_of : Taken → Lock
lock_of taken = (taken.row, taken.mode)

abbrev pub locks_of : List Taken → List Lock
locks_of log = map lock_of log

-- what the session holds is what its log tells
abbrev pub IsHeldBy : Rows → ℕ → List Taken → Type 0
IsHeldBy rows session log = (row : ℕ) → mode_in rows row session ≡ at row (holdings_of (locks_of log))

-- each entry of a log has the mode in which the row was held before
abbrev pub IsLogged : List Taken → Type 0
IsLogged log = (place : ℕ) (taken : Taken) → slice_get log place ≡ Some taken → taken.before ≡ at taken.row (holdings_of (locks_of (take place log)))

-- what the other sessions hold stays
abbrev pub KeepsOthers : Rows → Rows → ℕ → Type 0
KeepsOthers old new session = (row other : ℕ) → other ≢ session → mode_in new row other ≡ mode_in old row other

-- what is held stays
abbrev pub KeepsModes : Rows → Rows → Type 0
KeepsModes old new = (row session : ℕ) → mode_in new row session ≡ mode_in old row session

-- one session holds one row in another mode
pub record SetsMode (old new : Rows) (row session : ℕ) (mode : Option LockMode) : Type 0 where
  pub here : mode_in new row session ≡ mode
  pub elsewhere : (r : ℕ) → r ≢ row → mode_in new r session ≡ mode_in old r session
  pub others : KeepsOthers old new session

-- what is held is what the logs tell
pub record IsLocks (rows : Rows) (logs : List (List Taken)) : Type 0 where
  pub sessions : length logs ≡ 16
  pub held : (session : ℕ) → session < 16 → IsHeldBy rows session (slice_index_or logs session [])
  pub logged : (session : ℕ) → session < 16 → IsLogged (slice_index_or logs session [])

abbrev pub items_of : List (Vec Taken Global) → List (List Taken)
items_of logs = map (λ log. log.items) logs

abbrev pub locks_shown : List (Vec Taken Global) → List (List Lock)
locks_shown logs = map locks_of (items_of logs)

abbrev pub returned_items : ℕ → ℕ → List (List Taken) → List (List Taken)
returned_items session count logs = slice_set logs session (take count (slice_index_or logs session []))
