use Rattle.std.proofs.Common.{◌≡◌, ap, sym, ◌∙◌}
use Rattle.aq_first_run.specs.States.{Session}
use Rattle.aq_first_run.specs.States.Block.{Idle, Open, Failed}
use Rattle.aq_first_run.specs.States.Answer.{Began}
use Rattle.aq_first_run.specs.Replies.{answer_lines, in_progress_warning}
use Rattle.std.specs.Prelude.{◌∷◌}
use Rattle.aq_first_run.specs.Steps.{begin_plan}
use Rattle.aq_first_machine.specs.Shown.{block_shown}
use Rattle.aq_first_machine.proofs.StartKinds.{as-plan, starts-begin, starts-reply, starts-refused}
use Rattle.aq_first_machine.proofs.start.begin.Goals as goal

pub returns-in_ok-take-in-Idle-clause-ok : goal.returns-in_ok-take-in-Idle-clause-ok
returns-in_ok-take-in-Idle-clause-ok c =
    let idle : c.args.session.now.block ≡ Idle = sym (ap (λ (m : Session). m.block) c.session.view_is) ∙ ap block_shown c.in-Idle.is in
    let next = ap (λ (m : Session). m.next) c.session-in-Idle.view_is ∙ ap (λ (m : Session). m.next) c.in_ok-take-in-Idle.ensures.session in
    let ended = ap (λ (m : Session). m.ended) c.session-in-Idle.view_is ∙ ap (λ (m : Session). m.ended) c.in_ok-take-in-Idle.ensures.session in
    rw (c.in_ok-take-in-Idle.ensures.world, c.in_ok-lines-in-Idle.ensures, next, ended, c.begin.ensures)
    (starts-begin c.args.catalog.now c.args.s.0 c.args.world.now c.args.session.now idle c.requires)

pub returns-in_ok-take-in-Open-clause-ok : goal.returns-in_ok-take-in-Open-clause-ok
returns-in_ok-take-in-Open-clause-ok c =
    let is_open : c.args.session.now.block ≡ Open = sym (ap (λ (m : Session). m.block) c.session.view_is) ∙ ap block_shown c.in-Open.is in
    rw (c.in_ok-take-in-Open.ensures.world, c.in_ok-take-in-Open.ensures.session, c.in_ok-lines-in-Open.ensures)
    (as-plan c.args.catalog.now c.args.s.0 c.args.world.now c.args.session.now _ _ (begin_plan c.args.session.now.block) _ (ap begin_plan is_open) (starts-reply c.args.catalog.now c.args.s.0 c.args.world.now c.args.session.now (in_progress_warning ∷ answer_lines Began)))

pub returns-in_ok-refuse_in_failed_block-in-Failed-clause-ok : goal.returns-in_ok-refuse_in_failed_block-in-Failed-clause-ok
returns-in_ok-refuse_in_failed_block-in-Failed-clause-ok c =
    let failed : c.args.session.now.block ≡ Failed = sym (ap (λ (m : Session). m.block) c.session.view_is) ∙ ap block_shown c.in-Failed.is in
    let done = starts-refused c.args.catalog.now c.args.s.0 c.args.world.now c.args.session.now failed in
    rw (c.in_ok-refuse_in_failed_block-in-Failed.ensures.world, c.in_ok-refuse_in_failed_block-in-Failed.ensures.session)
    (as-plan c.args.catalog.now c.args.s.0 c.args.world.now c.args.session.now _ _ (begin_plan c.args.session.now.block) _ (ap begin_plan failed) done)
