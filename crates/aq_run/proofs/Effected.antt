-- Effects and steps, one after the other.
use Rattle.std.proofs.Common.{◌≡◌, ℕ, List, [], ◌∷◌, ◌++◌, refl}
use Rattle.aq_run.specs.Programs.{Program}
use Rattle.aq_run.specs.States.{State}
use Rattle.aq_run.specs.Effects.{Effect, Scene, effect, effects}
use Rattle.aq_run.specs.Steps.{step}
use Rattle.aq_run.specs.Runs.{Schedule, run_from}

pub effects-append : (program : Program) (s : ℕ) (some others : List Effect) (scene : Scene) →
    effects program s (some ++ others) scene ≡ effects program s others (effects program s some scene)
effects-append program s [] others scene = refl
effects-append program s (one ∷ some) others scene = effects-append program s some others (effect program s one scene)

pub run_from-append : (program : Program) (st : State) (first second : Schedule) →
    run_from program st (first ++ second) ≡ run_from program (run_from program st first) second
unfolding run_from
run_from-append program st [] second = refl
run_from-append program st (s ∷ first) second = run_from-append program (step program st s) first second
