use Rattle.std.proofs.Common.{◌≡◌, true, subst, sym}
use Rattle.aq_first_run.specs.Steps.{is_enabled}
use Rattle.aq_first_journal.proofs.Journaling.{IsJournal-push}
use Rattle.aq_first_journal.proofs.shared.Shared.advance.Goals as goal

pub invariant_of-self-in_default : goal.invariant_of-self-in_default
invariant_of-self-in_default c =
    let enabled : is_enabled c.self.inside.machine.state c.args.s.0 ≡ true = subst (λ j. is_enabled j.state c.args.s.0 ≡ true) (sym c.self.view_is) c.requires in
    let after = IsJournal-push c.self.inside.machine.script c.self.inside.machine.state c.self.inside.schedule c.args.s.0 c.self.invariant enabled in
    rw (c.in_default.ensures.ok, c.in_ok-push.ensures.ok) after
