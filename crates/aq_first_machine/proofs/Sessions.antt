-- A state with one session at the most.
use Rattle.std.proofs.Common.{◌≡◌, ℕ, zero, suc, ◌≤◌, ◌<◌, true, false, not, List, [], ◌∷◌, length, slice_get, ap, arith}
use Rattle.std.proofs.lemmas.Bool.{leb-true, ltb-true, and_parts, not-true}
use Rattle.aq_first_base.specs.Catalogs.{Catalog}
use Rattle.aq_first_base.specs.Scripts.{fits_first_language}
use Rattle.aq_first_base.specs.Setup.{catalog_of, program_of}
use Rattle.aq_first_base.specs.declared.simple.SimpleScript.{SimpleScript}
use Rattle.aq_first_base.specs.declared.bound.Bound.{Bound}
use Rattle.aq_first_run.specs.States.{World, Session, State}
use Rattle.aq_first_run.specs.Steps.{step, plan_of, effects_of, with_scene, is_enabled}
use Rattle.aq_first_machine.specs.Runnings.{StepsTo}

-- a script of the first language has one session at the most
pub one_session : (script : SimpleScript) → fits_first_language script ≡ true → length script.sessions ≤ 1
one_session script fits = leb-true _ _ (and_parts _ _ (and_parts _ _ (and_parts _ _ (and_parts _ _ fits).0).0).0).1

-- one step of the one session
pub step-one : (script : SimpleScript) (catalog : Catalog) (statements : List Bound) (world after : World) (session left : Session) (s : ℕ)
    → catalog ≡ catalog_of script → (program_of script).sessions ≡ statements ∷ [] → is_enabled (record { world = world; sessions = session ∷ [] }) s ≡ true
    → StepsTo catalog s (slice_get statements session.next) world session after left
    → record { world = after; sessions = left ∷ [] } ≡ step (program_of script) (record { world = world; sessions = session ∷ [] }) s
unfolding step plan_of effects_of
step-one script catalog statements world after session left zero is are enabled goes =
    let st : State = record { world = world; sessions = session ∷ [] } in
    rw are (rw (← is) (ap (with_scene st 0) goes))
step-one script catalog statements world after session left (suc s) is are enabled goes = absurd (omega (arith, ltb-true (suc s) 1 (and_parts _ _ enabled).0))

-- a session that may step has not ended
pub enabled-live : (world : World) (session : Session) (s : ℕ) → is_enabled (record { world = world; sessions = session ∷ [] }) s ≡ true → session.ended ≡ false
enabled-live world session zero enabled = not-true session.ended (and_parts true (not session.ended) enabled).1
enabled-live world session (suc s) enabled = let within : suc s < 1 = ltb-true (suc s) 1 (and_parts _ _ enabled).0 in absurd (omega (arith, within))
