-- What the locks of every state of a run satisfy.
use Rattle.std.specs.Prelude.{◌≡◌, ◌≢◌, ℕ, false, Some}
use Rattle.aq_base.specs.Maps.{at}
use Rattle.aq_base.specs.LockModes.{conflict}
use Rattle.aq_base.specs.declared.data.LockMode.{LockMode}
use Rattle.aq_run.specs.Programs.{Program}
use Rattle.aq_run.specs.States.{held_by, session_at}
use Rattle.aq_run.specs.Runs.{Schedule, run}

-- no two sessions hold a row in modes that conflict
abbrev pub HoldingsAreApart : Type 0
HoldingsAreApart =
    (program : Program) (schedule : Schedule) (i j : ℕ) → i ≢ j → (row : ℕ) (a b : LockMode) →
    at row (held_by (session_at (run program schedule) i)) ≡ Some a → at row (held_by (session_at (run program schedule) j)) ≡ Some b → conflict a b ≡ false
