-- What is in progress in each session fits what it has opened and saved, at each moment of each run.
use Rattle.std.proofs.Common.{◌≡◌, ◌≢◌, ◌<◌, ℕ, Bool, true, false, List, [], ◌∷◌, refl, sym, ◌∙◌, ap, subst, arith, length-set, map}
use Rattle.std.specs.Prelude.{zero, suc, length, slice_index_or, slice_set}
use Rattle.std.proofs.lemmas.List.{length-map}
use Rattle.aq_base.specs.Names.{Text}
use Rattle.aq_run.specs.Programs.{Program}
use Rattle.aq_run.specs.States.{Session, State, at_start, nobody, opening, session_at}
use Rattle.aq_base.specs.Blockers.{Ask}
use Rattle.aq_run.specs.Effects.{Effect, effect, effects}
use Rattle.aq_run.specs.Effects.Effect.{Starts_waiting}
use Rattle.aq_run.specs.Waits.{blockers}
use Rattle.aq_run.specs.Steps.{step, effects_of, scene_of}
use Rattle.aq_run.specs.Runs.{Schedule, run_from, run}
use Rattle.aq_laws.specs.Stacks.{ActionsAreForRows, SessionFits, StacksFit}
use Rattle.aq_laws.proofs.Apt.{Apt}
use Rattle.aq_laws.proofs.Moves.{after}
use Rattle.aq_laws.proofs.Step_moves.{Step_kind, step-kind, ended-stays}
use Rattle.aq_laws.proofs.Step_moves.Step_kind.{Waits_for_others, Goes_on}

-- ---- one session of several

pub set-same : (all : List Session) (s : ℕ) (me : Session) → s < length all → slice_index_or (slice_set all s me) s nobody ≡ me
set-same [] s me within = absurd (omega (arith, within))
set-same (one ∷ all) zero me within = refl
set-same (one ∷ all) (suc s) me within = set-same all s me (omega (arith, within))

pub set-other : (all : List Session) (s k : ℕ) (me : Session) → k ≢ s → slice_index_or (slice_set all s me) k nobody ≡ slice_index_or all k nobody
set-other [] s k me other = refl
set-other (one ∷ all) zero zero me other = absurd (other refl)
set-other (one ∷ all) zero (suc k) me other = refl
set-other (one ∷ all) (suc s) zero me other = refl
set-other (one ∷ all) (suc s) (suc k) me other = set-other all s k me (λ same. other (ap suc same))

-- what holds of each session holds of each when one has become another of which it holds
each-set : (P : ℕ → Session → Type 0) (all : List Session) (s : ℕ) (me : Session) → ((j : ℕ) → j < length all → P j (slice_index_or all j nobody)) → (s < length all → P s me) →
    (j : ℕ) → j < length (slice_set all s me) → P j (slice_index_or (slice_set all s me) j nobody)
each-set P [] s me each is j within = each j within
each-set P (one ∷ all) zero me each is zero within = is (omega arith)
each-set P (one ∷ all) zero me each is (suc j) within = each (suc j) within
each-set P (one ∷ all) (suc s) me each is zero within = each zero (omega arith)
each-set P (one ∷ all) (suc s) me each is (suc j) within =
    each-set (λ i. P (suc i)) all s me (λ i less. each (suc i) (omega (arith, less))) (λ less. is (omega (arith, less))) j (omega (arith, within))

-- ---- states

pub record Session_stands (program : Program) (s : ℕ) (me : Session) : Type 0 where
  pub fits : SessionFits program s me
  pub apt : Apt program.schema me.transaction

abbrev pub All_stand : Program → State → Type 0
All_stand program st = (j : ℕ) → j < length st.sessions → Session_stands program j (session_at st j)

waits-stands : (program : Program) (st : State) (s : ℕ) (me : Session) → Session_stands program s me → (ask : Ask) (others : List ℕ) → Session_stands program s (after program s (Starts_waiting ask others ∷ []) st.world me)
unfolding effect
waits-stands program st s me stands ask others =
    record { fits = record { tasks = stands.fits.tasks; block = stands.fits.block; end = stands.fits.end }; apt = stands.apt }

kind-stands : (program : Program) (st : State) (s : ℕ) (me : Session) → Session_stands program s me → (es : List Effect) → Step_kind program st s me es → Session_stands program s (after program s es st.world me)
kind-stands program st s me stands es (Goes_on goes) = record { fits = goes.fits; apt = goes.apt }
kind-stands program st s me stands es (Waits_for_others ask is blocked) =
    subst (λ l. Session_stands program s (after program s l st.world me)) (sym is) (waits-stands program st s me stands ask (blockers program st s ask))

module _ (program : Program) (are : ActionsAreForRows program.schema.catalog) where
  one-stands : (st : State) (s : ℕ) → Session_stands program s (session_at st s) → (ended : Bool) → (session_at st s).ended ≡ ended →
      Session_stands program s (after program s (effects_of program st s) st.world (session_at st s))
  one-stands st s stands true is =
      let kept : SessionFits program s (after program s (effects_of program st s) st.world (session_at st s)) × Apt program.schema (after program s (effects_of program st s) st.world (session_at st s)).transaction =
      ended-stays program st s stands.fits is in
      record { fits = kept.0; apt = kept.1 }
  one-stands st s stands false is = kind-stands program st s (session_at st s) stands (effects_of program st s) (step-kind program are st s stands.fits stands.apt is)

  pub step-stands : (st : State) (s : ℕ) → All_stand program st → All_stand program (step program st s)
  unfolding step
  step-stands st s all =
      each-set (λ j me. Session_stands program j me) st.sessions s (effects program s (effects_of program st s) (scene_of st s)).me all
      (λ within. one-stands st s (all s within) (session_at st s).ended refl)

  run-stands-from : (schedule : Schedule) (st : State) → All_stand program st → All_stand program (run_from program st schedule)
  unfolding run_from
  run-stands-from [] st all = all
  run-stands-from (s ∷ schedule) st all = run-stands-from schedule (step program st s) (step-stands st s all)

  opening-stands : (names : List Text) (k j : ℕ) → j < length (map (λ _. at_start) names) → Session_stands program k (slice_index_or (map (λ _. at_start) names) j nobody)
  opening-stands [] k j within = absurd (omega (arith, within))
  opening-stands (name ∷ names) k zero within = record { fits = record { tasks = refl; block = λ going. tt; end = tt }; apt = tt }
  opening-stands (name ∷ names) k (suc j) within = opening-stands names k j (omega (arith, within))

  pub run-stands : (schedule : Schedule) → All_stand program (run program schedule)
  run-stands schedule = run-stands-from schedule (opening program) (λ j within. opening-stands program.names j j within)

-- the sessions of a state stay in number
pub length-step : (program : Program) (st : State) (s : ℕ) → length (step program st s).sessions ≡ length st.sessions
unfolding step
length-step program st s = length-set st.sessions s (effects program s (effects_of program st s) (scene_of st s)).me

length-run_from : (program : Program) (st : State) (schedule : Schedule) → length (run_from program st schedule).sessions ≡ length st.sessions
unfolding run_from
length-run_from program st [] = refl
length-run_from program st (s ∷ schedule) = length-run_from program (step program st s) schedule ∙ length-step program st s

pub length-run : (program : Program) (schedule : Schedule) → length (run program schedule).sessions ≡ length program.names
length-run program schedule = length-run_from program (opening program) schedule ∙ length-map program.names (λ _. at_start)

pub stacks_fit : StacksFit
stacks_fit program are schedule s within = (run-stands program are schedule s (subst (λ m. s < m) (sym (length-run program schedule)) within)).fits
