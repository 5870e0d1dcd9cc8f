-- Who waits for whom, in every state of a run.
use Rattle.std.specs.Prelude.{◌≡◌, ℕ, ◌<◌, zero, suc, Contains}
use Rattle.aq_run.specs.Programs.{Program}
use Rattle.aq_run.specs.States.{State}
use Rattle.aq_run.specs.Waits.{waits_for}
use Rattle.aq_run.specs.Runs.{Schedule, IsSchedule, run}

-- the sessions have ranks, and each waits for sessions of a lower rank alone
pub record IsRanked (program : Program) (st : State) : Type 0 where
  pub rank : ℕ → ℕ
  pub falls : (i j : ℕ) → Contains (waits_for program st i) j → rank j < rank i

abbrev pub WaitsAreRanked : Type 0
WaitsAreRanked = (program : Program) (schedule : Schedule) → IsSchedule program schedule → IsRanked program (run program schedule)

-- so many waits, one after the other, lead from one session to another
abbrev pub Leads : Program → State → ℕ → ℕ → ℕ → Type 0
Leads program st zero i j = i ≡ j
Leads program st (suc n) i j = (k : ℕ) × Contains (waits_for program st i) k × Leads program st n k j

-- no session waits for itself, by however many others
abbrev pub NoWaitIsCircular : Type 0
NoWaitIsCircular = (program : Program) (schedule : Schedule) → IsSchedule program schedule → (n i : ℕ) → Leads program (run program schedule) (suc n) i i → ⊥
