-- A return to a savepoint, or to the entry of a block, restores the transaction's work: rows, locks, events, levels with their rounds,
-- transition sets and modes.
use Rattle.std.specs.Prelude.{◌≡◌, ℕ, ◌+◌, Bool, true, false, ◌||◌, ◌&&◌, List, [], ◌∷◌, ◌++◌, length, Option, option_map, nat_lt, nat_le, Contains}
use Rattle.std.specs.List.{list_all}
use Rattle.aq_base.specs.Works.{Work, Mark}
use Rattle.aq_base.specs.Works.Kind.{Drain}
use Rattle.aq_base.specs.Works.Mark.{Named, Block}
use Rattle.aq_base.specs.declared.fault.Code.{Code}
use Rattle.aq_run.specs.Programs.{Program}
use Rattle.aq_run.specs.States.{State, Task, session_at}
use Rattle.aq_run.specs.Effects.{Effect}
use Rattle.aq_run.specs.Effects.Effect.{Opens, Saves, Releases, Returns, Commits, Aborts}
use Rattle.aq_run.specs.Starts.{saved_of}
use Rattle.aq_run.specs.Steps.{effects_of}
use Rattle.aq_run.specs.Runs.{Schedule, IsSchedule, run}

abbrev pub work_of : State → ℕ → Option Work
work_of st s = option_map (λ t. t.work) (session_at st s).transaction

-- how many copies the session's transaction has saved
abbrev pub saved_count : State → ℕ → ℕ
saved_count st s = length (saved_of (session_at st s).transaction)

abbrev pub is_of_savepoint : Mark → Bool
is_of_savepoint (Named name) = true
is_of_savepoint (Block number height) = false

-- the effect leaves a copy with the mark, behind so many others: a savepoint is still there after a return to it, the entry of a block isn't
abbrev pub keeps_copy : Mark → ℕ → Effect → Bool
keeps_copy mark before (Releases standing) = nat_lt before standing
keeps_copy mark before (Returns standing code tasks) = nat_lt before standing || (is_of_savepoint mark && nat_le before standing)
keeps_copy mark before (Opens Drain task) = false
keeps_copy mark before Commits = false
keeps_copy mark before Aborts = false
keeps_copy mark before _ = true

-- no step of the session in `between`, which comes behind `first`, drops the copy
abbrev pub StaysOpen : Program → ℕ → Mark → ℕ → Schedule → Schedule → Type 0
StaysOpen program s mark before first between =
    (front back : Schedule) → between ≡ front ++ s ∷ back → list_all (keeps_copy mark before) (effects_of program (run program (first ++ front)) s) ≡ true

-- One step of a session saves a copy, and a later one returns to it: then the work is what it was behind the first.
abbrev pub ReturnRestoresWork : Type 0
ReturnRestoresWork =
    (program : Program) (first between : Schedule) (s before : ℕ) (mark : Mark) (code : Code) (tasks : List Task) →
    IsSchedule program (first ++ s ∷ (between ++ s ∷ [])) →
    Contains (effects_of program (run program first) s) (Saves mark) → saved_count (run program (first ++ s ∷ [])) s ≡ before + 1 →
    StaysOpen program s mark before (first ++ s ∷ []) between →
    Contains (effects_of program (run program (first ++ s ∷ between)) s) (Returns before code tasks) →
    work_of (run program (first ++ s ∷ (between ++ s ∷ []))) s ≡ work_of (run program (first ++ s ∷ [])) s
