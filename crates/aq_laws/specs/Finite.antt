-- Every run is finite.
use Rattle.std.specs.Prelude.{◌≡◌, ℕ, zero, suc, true, [], ◌∷◌, ◌++◌}
use Rattle.aq_run.specs.Programs.{Program}
use Rattle.aq_run.specs.Waits.{is_enabled}
use Rattle.aq_run.specs.Steps.{step}
use Rattle.aq_run.specs.Runs.{Schedule, run}
use Rattle.aq_run.specs.Measure.{Falls, measure}
use Rattle.aq_laws.specs.Stacks.{ActionsAreForRows}

-- each step of an enabled session makes the measure of the state smaller
abbrev pub EveryStepFalls : Type 0
EveryStepFalls =
    (program : Program) → ActionsAreForRows program.schema.catalog → (schedule : Schedule) (s : ℕ) → is_enabled program (run program schedule) s ≡ true →
    Falls (measure program (step program (run program schedule) s)) (measure program (run program schedule))

-- the first so many sessions of an endless choice
abbrev pub first_choices : (ℕ → ℕ) → ℕ → Schedule
first_choices choice zero = []
first_choices choice (suc n) = first_choices choice n ++ choice n ∷ []

-- no choice of sessions goes on for ever
abbrev pub RunsAreFinite : Type 0
RunsAreFinite =
    (program : Program) → ActionsAreForRows program.schema.catalog → (choice : ℕ → ℕ) → ((n : ℕ) → is_enabled program (run program (first_choices choice n)) (choice n) ≡ true) → ⊥
