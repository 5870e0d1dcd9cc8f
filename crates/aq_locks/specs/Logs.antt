-- What each session has locked, as the list of the locks that it took, in order.
use Rattle.std.specs.Prelude.{ℕ, Bool, true, false, List, [], ◌∷◌, ◌++◌, map, take, length, unwrap_or, Option, Some, None, nat_le, slice_set, slice_index_or}
use Rattle.aq_base.specs.Maps.{at}
use Rattle.aq_base.specs.LockModes.{Holdings, strength, locked}
use Rattle.aq_base.specs.declared.data.LockMode.{LockMode}

-- a row, and the mode that was taken
abbrev pub Lock : Type 0
Lock = ℕ × LockMode

-- what is held after more locks
abbrev pub held_after : Holdings → List Lock → Holdings
held_after holdings [] = holdings
held_after holdings (lock ∷ log) = held_after (locked lock.0 lock.1 holdings) log

-- the strongest mode taken of each row
abbrev pub holdings_of : List Lock → Holdings
holdings_of log = held_after [] log

pub record Logs : Type 0 where
  -- of each session
  pub logs : List (List Lock)
  -- how many locks each had taken when the state was held
  pub kept : Option (List ℕ)

abbrev pub log_at : List (List Lock) → ℕ → List Lock
log_at logs session = slice_index_or logs session []

abbrev pub log_of : Logs → ℕ → List Lock
log_of locks session = log_at locks.logs session

-- what each session holds
abbrev pub all_holdings : Logs → List Holdings
all_holdings locks = map holdings_of locks.logs

abbrev pub with_log : ℕ → List Lock → Logs → Logs
with_log session log locks = record locks { logs = slice_set locks.logs session log }

-- the mode that is held is as strong
abbrev pub covers : Option LockMode → LockMode → Bool
covers None mode = false
covers (Some held) mode = nat_le (strength mode) (strength held)

abbrev pub log_unless : Bool → ℕ → LockMode → List Lock → List Lock
log_unless true row mode log = log
log_unless false row mode log = log ++ (row, mode) ∷ []

-- a lock is taken where none as strong is held
abbrev pub log_with : ℕ → LockMode → List Lock → List Lock
log_with row mode log = log_unless (covers (at row (holdings_of log)) mode) row mode log

abbrev pub with_lock : ℕ → ℕ → LockMode → List (List Lock) → List (List Lock)
with_lock session row mode logs = slice_set logs session (log_with row mode (log_at logs session))

-- the session has got the row in the mode
abbrev pub got : ℕ → ℕ → LockMode → Logs → Logs
got session row mode locks = record locks { logs = with_lock session row mode locks.logs }

-- the session holds what it held when it had taken so many locks
abbrev pub returned : ℕ → ℕ → Logs → Logs
returned session count locks = with_log session (take count (log_of locks session)) locks

-- the first so many of each list
abbrev pub cut : {A : Type 0} → List ℕ → List (List A) → List (List A)
cut [] logs = logs
cut (n ∷ ns) [] = []
cut (n ∷ ns) (log ∷ logs) = take n log ∷ cut ns logs

abbrev pub counts : Logs → List ℕ
counts locks = map length locks.logs

abbrev pub with_kept : Option (List ℕ) → Logs → Logs
with_kept kept locks = record locks { kept = kept }

abbrev pub undone : Logs → Logs
undone locks = record { logs = cut (unwrap_or locks.kept []) locks.logs; kept = None }
