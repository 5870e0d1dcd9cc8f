use Rattle.std.proofs.Common.{◌≡◌, ◌∷◌, ap, sym, subst, ◌∙◌}
use Rattle.aq_first_run.specs.States.{Session}
use Rattle.aq_first_run.specs.States.Block.{Idle, Open, Failed}
use Rattle.aq_first_run.specs.States.Answer.{Committed}
use Rattle.aq_first_run.specs.Replies.{answer_lines, no_block_warning}
use Rattle.aq_first_run.specs.Steps.{commit_plan}
use Rattle.aq_first_machine.specs.Shown.{block_shown}
use Rattle.aq_first_machine.specs.Starts.{CarriesOut}
use Rattle.aq_first_machine.proofs.StartKinds.{as-plan, starts-commit, starts-reply, starts-drop, open-transaction}
use Rattle.aq_first_machine.proofs.start.commit_block.Goals as goal

pub returns-in_ok-take-in-Idle-clause-ok : goal.returns-in_ok-take-in-Idle-clause-ok
returns-in_ok-take-in-Idle-clause-ok c =
    let idle : c.args.session.now.block ≡ Idle = sym (ap (λ (m : Session). m.block) c.session.view_is) ∙ ap block_shown c.in-Idle.is in
    λ cat. rw (c.in_ok-take-in-Idle.ensures.world, c.in_ok-take-in-Idle.ensures.session, c.in_ok-lines-in-Idle.ensures)
    (as-plan cat c.args.s.0 c.args.world.now c.args.session.now _ _ (commit_plan c.args.session.now.block) _ (ap commit_plan idle) (starts-reply cat c.args.s.0 c.args.world.now c.args.session.now (no_block_warning ∷ answer_lines Committed)))

pub returns-in_ok-open_task-in-Open-clause-ok : goal.returns-in_ok-open_task-in-Open-clause-ok
returns-in_ok-open_task-in-Open-clause-ok c =
    let is_open : c.args.session.now.block ≡ Open = sym (ap (λ (m : Session). m.block) c.session.view_is) ∙ ap block_shown c.in-Open.is in
    let t = open-transaction c.args.session.now.block c.args.session.now.transaction c.args.session.now.tasks is_open c.requires.transaction in
    let both = c.in_ok-open_task-in-Open.ensures.ok t.0 t.1 in
    λ cat. subst (λ (left : Session). CarriesOut cat c.args.s.0 (commit_plan c.args.session.now.block) c.args.world.now c.args.session.now c.args.world.now left)
    (sym (ap (λ (m : Session). record m { block = Idle }) c.session-in-Open.view_is))
    (rw both.1 (starts-commit cat c.args.s.0 c.args.world.now c.args.session.now t.0 is_open t.1 both.0))

pub returns-in_ok-drop_block-in-Failed-clause-ok : goal.returns-in_ok-drop_block-in-Failed-clause-ok
returns-in_ok-drop_block-in-Failed-clause-ok c =
    let failed : c.args.session.now.block ≡ Failed = sym (ap (λ (m : Session). m.block) c.session.view_is) ∙ ap block_shown c.in-Failed.is in
    λ cat. rw (c.in_ok-drop_block-in-Failed.ensures.world, c.in_ok-drop_block-in-Failed.ensures.session)
    (as-plan cat c.args.s.0 c.args.world.now c.args.session.now _ _ (commit_plan c.args.session.now.block) _ (ap commit_plan failed) (starts-drop cat c.args.s.0 c.args.world.now c.args.session.now c.requires.none))
