use Rattle.aq_additions.proofs.Extending.{extends_itself, extends_to, extends_by_trigger}
use Rattle.aq_additions.proofs.steps.push_triggers.Goals as goal

pub returns-in_err-push_trigger-clause-kept : goal.returns-in_err-push_trigger-clause-kept
returns-in_err-push_trigger-clause-kept c = extends_to c.args.catalog.now c.args.catalog.now c.push_trigger.new.self c.in_err-push_trigger.ensures.err (extends_itself c.args.catalog.now)

pub returns-in_err-push_trigger-2-clause-kept : goal.returns-in_err-push_trigger-2-clause-kept
returns-in_err-push_trigger-2-clause-kept c =
    extends_to c.args.catalog.now c.push_trigger.new.self c.push_trigger-2.new.self c.in_err-push_trigger-2.ensures.err
    (extends_by_trigger c.args.catalog.now c.args.catalog.now c.push_trigger.new.self c.args.made.on_delete (extends_itself c.args.catalog.now) c.in_ok-push_trigger.ensures.ok)

pub returns-in_err-push_trigger-3-clause-kept : goal.returns-in_err-push_trigger-3-clause-kept
returns-in_err-push_trigger-3-clause-kept c =
    extends_to c.args.catalog.now c.push_trigger-2.new.self c.push_trigger-3.new.self c.in_err-push_trigger-3.ensures.err
    (extends_by_trigger c.args.catalog.now c.push_trigger.new.self c.push_trigger-2.new.self c.args.made.on_update
    (extends_by_trigger c.args.catalog.now c.args.catalog.now c.push_trigger.new.self c.args.made.on_delete (extends_itself c.args.catalog.now) c.in_ok-push_trigger.ensures.ok)
    c.in_ok-push_trigger-2.ensures.ok)

pub returns-clause-kept : goal.returns-clause-kept
returns-clause-kept c =
    extends_by_trigger c.args.catalog.now c.push_trigger-2.new.self c.push_trigger-3.new.self c.args.made.on_child
    (extends_by_trigger c.args.catalog.now c.push_trigger.new.self c.push_trigger-2.new.self c.args.made.on_update
    (extends_by_trigger c.args.catalog.now c.args.catalog.now c.push_trigger.new.self c.args.made.on_delete (extends_itself c.args.catalog.now) c.in_ok-push_trigger.ensures.ok)
    c.in_ok-push_trigger-2.ensures.ok)
    c.in_ok-push_trigger-3.ensures.ok
