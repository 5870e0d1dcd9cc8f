use Rattle.aq_additions.proofs.Extending.{extends_fk, extends_constraint, extends_to, extends_after}
use Rattle.aq_additions.proofs.steps.put_reference.Goals as goal

pub returns-in_err-push_constraint-clause-kept : goal.returns-in_err-push_constraint-clause-kept
returns-in_err-push_constraint-clause-kept c =
    extends_to c.args.catalog.now c.push_fk.new.self c.push_constraint.new.self c.in_err-push_constraint.ensures.err
    (extends_to c.args.catalog.now _ c.push_fk.new.self c.in_ok-push_fk.ensures.ok (extends_fk c.args.catalog.now c.args.fk))

pub returns-in_err-push_triggers-clause-kept : goal.returns-in_err-push_triggers-clause-kept
returns-in_err-push_triggers-clause-kept c =
    extends_after c.args.catalog.now c.push_constraint.new.self c.push_triggers.new.catalog
    (extends_after c.args.catalog.now c.push_fk.new.self c.push_constraint.new.self
    (extends_to c.args.catalog.now _ c.push_fk.new.self c.in_ok-push_fk.ensures.ok (extends_fk c.args.catalog.now c.args.fk))
    (extends_to c.push_fk.new.self _ c.push_constraint.new.self c.in_ok-push_constraint.ensures.ok (extends_constraint c.push_fk.new.self c.args.constraint)))
    c.in_err-push_triggers.ensures.kept

pub returns-clause-kept : goal.returns-clause-kept
returns-clause-kept c =
    extends_after c.args.catalog.now c.push_constraint.new.self c.push_triggers.new.catalog
    (extends_after c.args.catalog.now c.push_fk.new.self c.push_constraint.new.self
    (extends_to c.args.catalog.now _ c.push_fk.new.self c.in_ok-push_fk.ensures.ok (extends_fk c.args.catalog.now c.args.fk))
    (extends_to c.push_fk.new.self _ c.push_constraint.new.self c.in_ok-push_constraint.ensures.ok (extends_constraint c.push_fk.new.self c.args.constraint)))
    c.in_ok-push_triggers.ensures.kept
