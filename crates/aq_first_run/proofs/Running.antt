-- A run with one step more at its end.
use Rattle.std.proofs.Common.{◌≡◌, ℕ, true, [], ◌∷◌, ◌++◌, refl}
use Rattle.aq_first_base.specs.Setup.{Program}
use Rattle.aq_first_run.specs.States.{State}
use Rattle.aq_first_run.specs.Steps.{step, is_enabled}
use Rattle.aq_first_run.specs.Runs.{Schedule, run_from, CanRunFrom, GoesByDefault, IsLeastEnabled}

pub run_from-push : (program : Program) (st : State) (schedule : Schedule) (s : ℕ) → run_from program st (schedule ++ s ∷ []) ≡ step program (run_from program st schedule) s
unfolding run_from
run_from-push program st [] s = refl
run_from-push program st (r ∷ schedule) s = run_from-push program (step program st r) schedule s

pub CanRunFrom-push : (program : Program) (st : State) (schedule : Schedule) (s : ℕ)
    → CanRunFrom program st schedule → is_enabled (run_from program st schedule) s ≡ true → CanRunFrom program st (schedule ++ s ∷ [])
unfolding run_from CanRunFrom
CanRunFrom-push program st [] s can enabled = (enabled, tt)
CanRunFrom-push program st (r ∷ schedule) s can enabled = (can.0, CanRunFrom-push program (step program st r) schedule s can.1 enabled)

pub GoesByDefault-push : (program : Program) (st : State) (schedule : Schedule) (s : ℕ)
    → GoesByDefault program st schedule → IsLeastEnabled (run_from program st schedule) s → GoesByDefault program st (schedule ++ s ∷ [])
unfolding run_from GoesByDefault
GoesByDefault-push program st [] s goes least = (least, tt)
GoesByDefault-push program st (r ∷ schedule) s goes least = (goes.0, GoesByDefault-push program (step program st r) schedule s goes.1 least)

-- a schedule that goes by default can be run
pub CanRunFrom-by_default : (program : Program) (st : State) (schedule : Schedule) → GoesByDefault program st schedule → CanRunFrom program st schedule
unfolding CanRunFrom GoesByDefault
CanRunFrom-by_default program st [] goes = tt
CanRunFrom-by_default program st (s ∷ schedule) goes = (goes.0.enabled, CanRunFrom-by_default program (step program st s) schedule goes.1)
