-- One step of one session, and the others.
use Rattle.std.proofs.Common.{◌≡◌, ℕ, ◌<◌, true, false, [], ◌∷◌, ◌∙◌, refl, length, length-set}
use Rattle.std.proofs.lemmas.List.{length-map}
use Rattle.std.proofs.lemmas.Bool.{and_parts, not-true, ltb-true}
use Rattle.aq_first_base.specs.Setup.{Program}
use Rattle.aq_first_run.specs.States.{State, session_at, at_start, opening}
use Rattle.aq_first_run.specs.Steps.{effects_of, scene_of, step, is_enabled}
use Rattle.aq_first_run.specs.Effects.{effects}
use Rattle.aq_first_run.specs.Runs.{Schedule, run_from, run}

-- an enabled session is one of the state's, and hasn't ended
pub record CanStep (st : State) (s : ℕ) : Type 0 where
  pub within : s < length st.sessions
  pub goes_on : (session_at st s).ended ≡ false

pub CanStep-enabled : (st : State) (s : ℕ) → is_enabled st s ≡ true → CanStep st s
CanStep-enabled st s enabled = let parts = and_parts _ _ enabled in record { within = ltb-true _ _ parts.0; goes_on = not-true _ parts.1 }

-- the sessions of a state stay in number
pub length-step : (program : Program) (st : State) (s : ℕ) → length (step program st s).sessions ≡ length st.sessions
unfolding step
length-step program st s = length-set st.sessions s (effects program.catalog s (effects_of program st s) (scene_of st s)).me

pub length-run_from : (program : Program) (st : State) (schedule : Schedule) → length (run_from program st schedule).sessions ≡ length st.sessions
unfolding run_from
length-run_from program st [] = refl
length-run_from program st (s ∷ schedule) = length-run_from program (step program st s) schedule ∙ length-step program st s

-- a run has the sessions of its program
pub length-run : (program : Program) (schedule : Schedule) → length (run program schedule).sessions ≡ length program.sessions
length-run program schedule = length-run_from program (opening program) schedule ∙ length-map program.sessions (λ _. at_start)
