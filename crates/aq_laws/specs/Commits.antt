-- The commits that a trace tells of.
use Rattle.std.specs.Prelude.{◌≡◌, ℕ, ◌+◌, zero, suc, List, [], ◌∷◌}
use Rattle.std.specs.List.{flat_map}
use Rattle.aq_base.specs.Databases.{last_number}
use Rattle.aq_base.specs.declared.trace.TraceLine.{TraceLine}
use Rattle.aq_base.specs.declared.trace.TraceLine.TheVariants as lines
use Rattle.aq_run.specs.Programs.{Program}
use Rattle.aq_run.specs.Runs.{Schedule, run}

abbrev pub commit_in : TraceLine → List ℕ
commit_in (lines.Commit session number) = number ∷ []
commit_in _ = []

-- the numbers of the commits, in the order of the trace
abbrev pub commits_in : List TraceLine → List ℕ
commits_in trace = flat_map commit_in trace

-- so many numbers, from a first one on, each one more than the one before
abbrev pub counted_from : ℕ → ℕ → List ℕ
counted_from first zero = []
counted_from first (suc n) = first ∷ counted_from (first + 1) n

-- the commits of a trace are numbered from 1 on, without a gap, up to the number of the last database
abbrev pub CommitsAreNumbered : Type 0
CommitsAreNumbered =
    (program : Program) (schedule : Schedule) → commits_in (run program schedule).world.trace ≡ counted_from 1 (last_number (run program schedule).world.history)
