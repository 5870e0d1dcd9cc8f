use Rattle.std.proofs.Common.{◌≡◌, ◌∷◌, ap, sym, ◌∙◌}
use Rattle.aq_first_run.specs.States.{Session}
use Rattle.aq_first_run.specs.States.Block.{Idle, Open, Failed}
use Rattle.aq_first_run.specs.States.Answer.{Rolled_back}
use Rattle.aq_first_run.specs.Replies.{answer_lines, no_block_warning}
use Rattle.aq_first_run.specs.Steps.{rollback_plan}
use Rattle.aq_first_machine.specs.Shown.{block_shown}
use Rattle.aq_first_machine.proofs.StartKinds.{as-plan, starts-reply, starts-drop}
use Rattle.aq_first_machine.proofs.start.roll_back.Goals as goal

pub returns-in_ok-take-in-Idle-clause-ok : goal.returns-in_ok-take-in-Idle-clause-ok
returns-in_ok-take-in-Idle-clause-ok c =
    let idle : c.args.session.now.block ≡ Idle = sym (ap (λ (m : Session). m.block) c.session.view_is) ∙ ap block_shown c.in-Idle.is in
    λ cat. rw (c.in_ok-take-in-Idle.ensures.world, c.in_ok-take-in-Idle.ensures.session, c.in_ok-lines-in-Idle.ensures)
    (as-plan cat c.args.s.0 c.args.world.now c.args.session.now _ _ (rollback_plan c.args.session.now.block) _ (ap rollback_plan idle) (starts-reply cat c.args.s.0 c.args.world.now c.args.session.now (no_block_warning ∷ answer_lines Rolled_back)))

pub returns-in_ok-drop_block-in-Open-clause-ok : goal.returns-in_ok-drop_block-in-Open-clause-ok
returns-in_ok-drop_block-in-Open-clause-ok c =
    let is_open : c.args.session.now.block ≡ Open = sym (ap (λ (m : Session). m.block) c.session.view_is) ∙ ap block_shown c.in-Open.is in
    λ cat. rw (c.in_ok-drop_block-in-Open.ensures.world, c.in_ok-drop_block-in-Open.ensures.session)
    (as-plan cat c.args.s.0 c.args.world.now c.args.session.now _ _ (rollback_plan c.args.session.now.block) _ (ap rollback_plan is_open) (starts-drop cat c.args.s.0 c.args.world.now c.args.session.now c.requires))

pub returns-in_ok-drop_block-in-Failed-clause-ok : goal.returns-in_ok-drop_block-in-Failed-clause-ok
returns-in_ok-drop_block-in-Failed-clause-ok c =
    let failed : c.args.session.now.block ≡ Failed = sym (ap (λ (m : Session). m.block) c.session.view_is) ∙ ap block_shown c.in-Failed.is in
    λ cat. rw (c.in_ok-drop_block-in-Failed.ensures.world, c.in_ok-drop_block-in-Failed.ensures.session)
    (as-plan cat c.args.s.0 c.args.world.now c.args.session.now _ _ (rollback_plan c.args.session.now.block) _ (ap rollback_plan failed) (starts-drop cat c.args.s.0 c.args.world.now c.args.session.now c.requires))
