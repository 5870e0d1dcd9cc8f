use Rattle.aq_additions.proofs.Extending.{extends_key, extends_constraint, extends_to, extends_after}
use Rattle.aq_additions.proofs.steps.put_key.Goals as goal

pub returns-in_err-push_constraint-clause-kept : goal.returns-in_err-push_constraint-clause-kept
returns-in_err-push_constraint-clause-kept c =
    extends_to c.args.catalog.now c.push_key.new.self c.push_constraint.new.self c.in_err-push_constraint.ensures.err
    (extends_to c.args.catalog.now _ c.push_key.new.self c.in_ok-push_key.ensures.ok (extends_key c.args.catalog.now c.args.key))

pub returns-clause-kept : goal.returns-clause-kept
returns-clause-kept c =
    extends_after c.args.catalog.now c.push_key.new.self c.push_constraint.new.self
    (extends_to c.args.catalog.now _ c.push_key.new.self c.in_ok-push_key.ensures.ok (extends_key c.args.catalog.now c.args.key))
    (extends_to c.push_key.new.self _ c.push_constraint.new.self c.in_ok-push_constraint.ensures.ok (extends_constraint c.push_key.new.self c.args.constraint))
