-- A journal with one step more, and one that goes on to the end.
use Rattle.std.proofs.Common.{◌≡◌, ℕ, true, false, [], ◌∷◌, ◌++◌, refl, sym, ap, subst, ◌∙◌, append_assoc}
use Rattle.std.proofs.lemmas.List.{append-nil}
use Rattle.aq_first_base.specs.Setup.{program_of}
use Rattle.aq_first_base.specs.declared.simple.SimpleScript.{SimpleScript}
use Rattle.aq_first_run.specs.States.{State, opening}
use Rattle.aq_first_run.specs.Steps.{step, is_enabled}
use Rattle.aq_first_run.specs.Runs.{Schedule, run_from, CanRunFrom, GoesByDefault, IsLeastEnabled, have_all_ended}
use Rattle.aq_first_run.proofs.Running.{run_from-push, CanRunFrom-push, GoesByDefault-push}
use Rattle.aq_first_laws.proofs.Default.{have_all_ended-from_none}
use Rattle.aq_first_journal.specs.Journals.{Journal, IsJournal, GoesOn, Finishes}

pub IsJournal-start : (script : SimpleScript) (st : State) → st ≡ opening (program_of script) → IsJournal script st []
unfolding run_from CanRunFrom
IsJournal-start script st start = record { replay = start; can_run = tt }

pub IsJournal-push : (script : SimpleScript) (st : State) (schedule : Schedule) (s : ℕ) → IsJournal script st schedule → is_enabled st s ≡ true
    → IsJournal script (step (program_of script) st s) (schedule ++ s ∷ [])
IsJournal-push script st schedule s journal enabled =
    record {
      replay = ap (λ before. step (program_of script) before s) journal.replay ∙ sym (run_from-push (program_of script) (opening (program_of script)) schedule s);
      can_run = CanRunFrom-push (program_of script) (opening (program_of script)) schedule s journal.can_run (subst (λ now. is_enabled now s ≡ true) journal.replay enabled);
    }

-- no step more
pub GoesOn-start : (journal : Journal) → GoesOn journal journal
unfolding run_from GoesByDefault
GoesOn-start journal = record { same_script = refl; later = []; schedule = sym (append-nil journal.schedule); by_default = tt; ran = refl }

-- a step of a session
abbrev pub stepped : Journal → ℕ → Journal
stepped journal s = record { script = journal.script; state = step (program_of journal.script) journal.state s; schedule = journal.schedule ++ s ∷ [] }

pub GoesOn-push : (before after : Journal) (s : ℕ) → GoesOn before after → IsLeastEnabled after.state s → GoesOn before (stepped after s)
GoesOn-push before after s goes least =
    let least_there : IsLeastEnabled (run_from (program_of before.script) before.state goes.later) s = subst (λ st. IsLeastEnabled st s) goes.ran least in
    record {
      same_script = goes.same_script;
      later = goes.later ++ s ∷ [];
      schedule = ap (λ (w : Schedule). w ++ s ∷ []) goes.schedule ∙ append_assoc before.schedule goes.later (s ∷ []);
      by_default = GoesByDefault-push (program_of before.script) before.state goes.later s goes.by_default least_there;
      ran = ap (λ script. step (program_of script) after.state s) goes.same_script ∙ ap (λ st. step (program_of before.script) st s) goes.ran
          ∙ sym (run_from-push (program_of before.script) before.state goes.later s);
    }

pub Finishes-from_none : (before after : Journal) → GoesOn before after → IsJournal after.script after.state after.schedule → ((s : ℕ) → is_enabled after.state s ≡ false) → Finishes before after
Finishes-from_none before after goes journal none =
    record { goes_on = goes; complete = subst (λ st. have_all_ended st ≡ true) journal.replay (have_all_ended-from_none after.state (λ s below. none s)) }
