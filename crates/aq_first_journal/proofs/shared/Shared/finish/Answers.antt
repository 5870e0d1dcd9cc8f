use Rattle.std.proofs.Common.{◌≡◌, ℕ, false, subst}
use Rattle.aq_first_base.specs.Setup.{program_of}
use Rattle.aq_first_run.specs.Steps.{is_enabled}
use Rattle.aq_first_run.specs.Runs.{IsLeastEnabled}
use Rattle.aq_first_laws.proofs.Finite.{steps_left-step}
use Rattle.aq_first_journal.specs.Journals.{IsJournal}
use Rattle.aq_first_journal.proofs.Journaling.{GoesOn-start, GoesOn-push, Finishes-from_none}
use Rattle.aq_first_journal.proofs.shared.Shared.finish.Goals as goal

pub steps-init : goal.steps-init
steps-init c = GoesOn-start c.args.self.now

pub steps-smaller : goal.steps-smaller
steps-smaller c =
    let least : IsLeastEnabled c.steps.self.state c.in-Some.s.0 = subst (λ j. IsLeastEnabled j.state c.in-Some.s.0) c.self.view_is c.in-Some.ensures in
    rw c.in_ok-advance.ensures.ok (steps_left-step (program_of c.steps.self.script) c.steps.self.state c.in-Some.s.0 least.enabled)

pub steps-preserved : goal.steps-preserved
steps-preserved c =
    let least : IsLeastEnabled c.steps.self.state c.in-Some.s.0 = subst (λ j. IsLeastEnabled j.state c.in-Some.s.0) c.self.view_is c.in-Some.ensures in
    rw c.in_ok-advance.ensures.ok (GoesOn-push c.args.self.now c.steps.self c.in-Some.s.0 c.steps.invariant least)

pub returns-clause-ok : goal.returns-clause-ok
returns-clause-ok c =
    let journal : IsJournal c.steps.self.script c.steps.self.state c.steps.self.schedule = subst (λ j. IsJournal j.script j.state j.schedule) c.self.view_is c.self.invariant in
    let none : (s : ℕ) → is_enabled c.steps.self.state s ≡ false = subst (λ j. (s : ℕ) → is_enabled j.state s ≡ false) c.self.view_is c.in_default.ensures in
    Finishes-from_none c.args.self.now c.steps.self c.steps.invariant journal none
