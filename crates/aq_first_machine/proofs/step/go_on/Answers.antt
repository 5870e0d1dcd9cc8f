use Rattle.std.proofs.Common.{Some, None, subst}
use Rattle.aq_first_run.specs.States.{Session}
use Rattle.aq_first_run.specs.Steps.{after_error}
use Rattle.aq_first_machine.specs.Found.{fault_shown}
use Rattle.aq_first_machine.specs.Shown.{answer_shown, block_shown, in_drain, waiting, closed}
use Rattle.std.specs.Prelude.{◌++◌}
use Rattle.aq_first_run.specs.States.Block.{Idle, Open, Failed}
use Rattle.aq_first_run.specs.States.Task.{Committing}
use Rattle.aq_first_run.specs.Effects.{given}
use Rattle.aq_first_run.specs.Replies.{answer_lines}
use Rattle.aq_first_machine.specs.Runnings.{StepsTo}
use Rattle.aq_first_machine.proofs.StepKinds.{holding, step-further, step-refused, step-commits, step-closes_alone, step-closes_open, step-closes_failed}
use Rattle.aq_first_machine.proofs.Standing.{stands-commit}
use Rattle.aq_first_machine.proofs.step.go_on.Goals as goal
use Rattle.aq_first_machine.proofs.step.go_on.Goals.{in-Idle+in_ok-open_drain-in-Idle, in-Open+in_ok-close_level-in-Open, in-Failed+in_ok-close_level-in-Failed}

pub returns-in-Further-clause-ok : goal.returns-in-Further-clause-ok
returns-in-Further-clause-ok c =
    let went = rw c.in-Further.is at c.in_ok-advance.ensures.ok in
    let inside = c.session.inside in
    let P : Session → Type 0 = λ me. StepsTo c.args.catalog.now c.args.s.0 None c.args.world.now me c.advance.new.world (holding inside.next (block_shown inside.block) (Some c.advance.new.transaction) inside.ended) in
    subst P (rw c.in-Some.is at c.session.view_is)
    (step-further c.args.catalog.now c.args.s.0 c.args.world.now c.in-Some.transaction c.advance.new.world c.advance.new.transaction inside.next (block_shown inside.block) inside.ended went.0)

pub returns-in_ok-refuse-in-Refused-clause-ok : goal.returns-in_ok-refuse-in-Refused-clause-ok
returns-in_ok-refuse-in-Refused-clause-ok c =
    let went = rw c.in-Refused.is at c.in_ok-advance.ensures.ok in
    let inside = c.session.inside in
    let fault = fault_shown c.in-Refused.fault in
    let P : Session → Type 0 = λ me. StepsTo c.args.catalog.now c.args.s.0 None c.args.world.now me c.refuse.new.world (holding inside.next (after_error (block_shown inside.block)) None inside.ended) in
    rw c.failed-session-inside.ensures
    (subst P (rw c.in-Some.is at c.session.view_is)
    (rw (c.in_ok-refuse-in-Refused.ensures.ok, went.0) (step-refused c.args.catalog.now c.args.s.0 c.args.world.now c.in-Some.transaction fault inside.next (block_shown inside.block) inside.ended went.2)))

pub returns-in_ok-commit-in-Commits-clause-ok : goal.returns-in_ok-commit-in-Commits-clause-ok
returns-in_ok-commit-in-Commits-clause-ok c =
    let went = rw c.in-Commits.is at c.in_ok-advance.ensures.ok in
    let inside = c.session.inside in
    let P : Session → Type 0 = λ me. StepsTo c.args.catalog.now c.args.s.0 None c.args.world.now me c.commit.new.world (holding inside.next (block_shown inside.block) None inside.ended) in
    subst P (rw c.in-Some.is at c.session.view_is)
    (rw (c.in_ok-commit-in-Commits.ensures.ok, went.0, went.1) (step-commits c.args.catalog.now c.args.s.0 c.args.world.now c.in-Some.transaction (answer_shown c.in-Commits.answer) inside.next (block_shown inside.block) inside.ended went.3))

pub returns-in_ok-commit-in-Commits-clause-stands : goal.returns-in_ok-commit-in-Commits-clause-stands
returns-in_ok-commit-in-Commits-clause-stands c =
    let went = rw c.in-Commits.is at c.in_ok-advance.ensures.ok in
    let inside = c.session.inside in
    let stands = rw (← (rw c.in-Some.is at c.session.view_is)) at c.requires.stands in
    let after = rw (went.0, went.1) at c.in_ok-commit-in-Commits.ensures.ok in
    stands-commit c.args.world.now c.commit.new.world inside.next (block_shown inside.block) c.in-Some.transaction inside.ended (answer_shown c.in-Commits.answer)
    (c.args.world.now.replies ++ given c.args.s.0 inside.next (answer_lines (answer_shown c.in-Commits.answer))) stands went.2 after

pub returns-after-session-4-clause-ok : goal.returns-after-session-4-clause-ok
returns-after-session-4-clause-ok c =
    let went = rw c.in-Closes.is at c.in_ok-advance.ensures.ok in
    let inside = c.session.inside in
    let cat = c.args.catalog.now in
    let s = c.args.s.0 in
    let world = c.args.world.now in
    let before = c.in-Some.transaction in
    let answer = answer_shown c.in-Closes.answer in
    elim c.match-session-4.branch [
      | in-Idle+in_ok-open_drain-in-Idle w ↦
          let P : Session → Type 0 = λ me. StepsTo cat s None world me world (holding inside.next Idle (Some (in_drain (closed cat before) (Committing answer))) inside.ended) in
          rw (w.world-is, w.session-inside-is, w.in-Idle.is, w.in_ok-open_drain-in-Idle.ensures.ok, went.0, went.1)
          (subst P (rw (c.in-Some.is, w.in-Idle.is) at c.session.view_is) (step-closes_alone cat s world before answer inside.next inside.ended went.2 went.3))
      | in-Open+in_ok-close_level-in-Open w ↦
          let P : Session → Type 0 = λ me. StepsTo cat s None world me (record world { replies = world.replies ++ given s inside.next (answer_lines answer) }) (holding inside.next Open (Some (waiting (closed cat before))) inside.ended) in
          rw (w.world-is, w.session-inside-is, w.in-Open.is, w.in_ok-close_level-in-Open.ensures.world, w.in_ok-close_level-in-Open.ensures.transaction, went.0, went.1)
          (subst P (rw (c.in-Some.is, w.in-Open.is) at c.session.view_is) (step-closes_open cat s world before answer inside.next inside.ended went.2 went.3))
      | in-Failed+in_ok-close_level-in-Failed w ↦
          let P : Session → Type 0 = λ me. StepsTo cat s None world me (record world { replies = world.replies ++ given s inside.next (answer_lines answer) }) (holding inside.next Failed (Some (waiting (closed cat before))) inside.ended) in
          rw (w.world-is, w.session-inside-is, w.in-Failed.is, w.in_ok-close_level-in-Failed.ensures.world, w.in_ok-close_level-in-Failed.ensures.transaction, went.0, went.1)
          (subst P (rw (c.in-Some.is, w.in-Failed.is) at c.session.view_is) (step-closes_failed cat s world before answer inside.next inside.ended went.2 went.3))
    ]
