use Rattle.std.proofs.Common.{◌≡◌, ap, sym, ◌∙◌}
use Rattle.aq_first_run.specs.States.{Session, Block}
use Rattle.aq_first_run.specs.Steps.{rows_start}
use Rattle.aq_first_run.specs.States.Block.{Idle, Open, Failed}
use Rattle.aq_first_machine.specs.Shown.{block_shown}
use Rattle.aq_first_machine.proofs.StartKinds.{as-plan, starts-rows_alone, starts-rows_in_block, starts-refused, open-transaction}
use Rattle.aq_first_machine.proofs.start.start_rows.Goals as goal

pub returns-in_ok-open_alone-in-Idle-clause-ok : goal.returns-in_ok-open_alone-in-Idle-clause-ok
returns-in_ok-open_alone-in-Idle-clause-ok c =
    let idle : c.args.session.now.block ≡ Idle = sym (ap (λ (m : Session). m.block) c.session.view_is) ∙ ap block_shown c.in-Idle.is in
    λ operation targets begins. rw c.in_ok-open_alone-in-Idle.ensures.ok
    (starts-rows_alone c.args.catalog.now c.args.s.0 c.args.world.now c.args.session.now c.args.task operation targets idle begins)

pub returns-in_ok-open_task-in-Open-clause-ok : goal.returns-in_ok-open_task-in-Open-clause-ok
returns-in_ok-open_task-in-Open-clause-ok c =
    let is_open : c.args.session.now.block ≡ Open = sym (ap (λ (m : Session). m.block) c.session.view_is) ∙ ap block_shown c.in-Open.is in
    let t = open-transaction c.args.session.now.block c.args.session.now.transaction c.args.session.now.tasks is_open c.requires.transaction in
    let both = c.in_ok-open_task-in-Open.ensures.ok t.0 t.1 in
    λ operation targets begins. rw both.1
    (starts-rows_in_block c.args.catalog.now c.args.s.0 c.args.world.now c.args.session.now t.0 c.args.task operation targets is_open t.1 both.0 begins)

pub returns-in_ok-refuse_in_failed_block-in-Failed-clause-ok : goal.returns-in_ok-refuse_in_failed_block-in-Failed-clause-ok
returns-in_ok-refuse_in_failed_block-in-Failed-clause-ok c =
    let failed : c.args.session.now.block ≡ Failed = sym (ap (λ (m : Session). m.block) c.session.view_is) ∙ ap block_shown c.in-Failed.is in
    let done = starts-refused c.args.catalog.now c.args.s.0 c.args.world.now c.args.session.now failed in
    λ operation targets begins. rw (c.in_ok-refuse_in_failed_block-in-Failed.ensures.world, c.in_ok-refuse_in_failed_block-in-Failed.ensures.session)
    (as-plan c.args.catalog.now c.args.s.0 c.args.world.now c.args.session.now _ _ (rows_start c.args.session.now.block operation targets) _ (ap (λ (b : Block). rows_start b operation targets) failed) done)
