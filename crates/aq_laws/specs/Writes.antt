-- What the rows satisfy that the transactions of a run have written, in their works and in the saved copies of these.
use Rattle.std.specs.Prelude.{◌≡◌, ◌≢◌, ℕ, ◌≤◌, true, false, List, [], ◌∷◌, map, Option, Some, None, Contains}
use Rattle.aq_base.specs.Values.{Row}
use Rattle.aq_base.specs.Maps.{at}
use Rattle.aq_base.specs.Databases.{Stored, last_database}
use Rattle.aq_base.specs.Writes.{Write, has_written}
use Rattle.aq_base.specs.LockModes.{Holdings, strength}
use Rattle.aq_base.specs.Works.{Work}
use Rattle.aq_base.specs.declared.data.LockMode.{LockMode}
use Rattle.aq_base.specs.declared.data.LockMode.TheVariants.{Update, NoKeyUpdate}
use Rattle.aq_run.specs.Programs.{Program}
use Rattle.aq_run.specs.States.{Session, session_at}
use Rattle.aq_run.specs.Runs.{Schedule, run}

-- the session's work, and those to which it may return
abbrev pub works_of : Session → List Work
works_of session = elim (session.transaction) [ None ↦ [] | Some t ↦ t.work ∷ map (λ saved. saved.work) t.saved ]

-- no two sessions have written one row
abbrev pub WritesAreApart : Type 0
WritesAreApart =
    (program : Program) (schedule : Schedule) (i j : ℕ) → i ≢ j → (mine theirs : Work) →
    Contains (works_of (session_at (run program schedule) i)) mine → Contains (works_of (session_at (run program schedule) j)) theirs →
    (row : ℕ) → has_written row mine.writes ≡ true → has_written row theirs.writes ≡ false

-- in which mode at least a row is held whose version was written
abbrev pub least_mode : Option Row → LockMode
least_mode None = Update
least_mode (Some values) = NoKeyUpdate

pub record IsHeld (row : ℕ) (least : LockMode) (holdings : Holdings) : Type 0 where
  pub mode : LockMode
  pub stands : at row holdings ≡ Some mode
  pub enough : strength least ≤ strength mode

-- a row of the last database that a transaction has written it holds as its change wants: in UPDATE where it is deleted
abbrev pub WrittenRowsAreHeld : Type 0
WrittenRowsAreHeld =
    (program : Program) (schedule : Schedule) (i : ℕ) (work : Work) → Contains (works_of (session_at (run program schedule) i)) work →
    (row : ℕ) (one : Write) (stored : Stored) → at row work.writes ≡ Some one → at row (last_database (run program schedule).world.history) ≡ Some stored →
    IsHeld row (least_mode one.image) work.holdings
