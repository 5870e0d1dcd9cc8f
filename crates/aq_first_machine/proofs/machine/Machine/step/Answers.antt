use Rattle.std.proofs.Common.{◌≡◌, [], ◌∷◌, ap, subst}
use Rattle.aq_first_base.specs.Setup.{program_of}
use Rattle.aq_first_run.specs.States.{Standing, State}
use Rattle.aq_first_run.specs.Steps.{step}
use Rattle.aq_first_machine.proofs.Sessions.{step-one}
use Rattle.aq_first_machine.proofs.machine.Machine.step.Goals as goal

pub returns-in_ok-step_session-in-Some-clause-ok : goal.returns-in_ok-step_session-in-Some-clause-ok
returns-in_ok-step_session-in-Some-clause-ok c =
    let script = c.self.inside.script in
    let view = rw c.in-Some.is at c.self.view_is in
    let are = rw c.in-Some.is at c.self.invariant.statements_are in
    let after : State = record { world = c.step_session.new.world; sessions = c.step_session.new.session ∷ [] } in
    let P : Standing → Type 0 = λ m. record { script = script; state = after } ≡ record { script = m.script; state = step (program_of m.script) m.state c.args.s.0 } in
    subst P view
    (ap (λ st. record { script = script; state = st })
    (step-one script c.self.inside.catalog c.self.inside.statements c.self.inside.world c.step_session.new.world c.in-Some.session c.step_session.new.session c.args.s.0
    c.self.invariant.catalog_is are (rw (← view) at c.requires) c.in_ok-step_session-in-Some.ensures.ok))
