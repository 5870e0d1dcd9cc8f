use Rattle.aq_additions.proofs.Extending.{extends_after}
use Rattle.aq_additions.proofs.steps.put_primary_key.Goals as goal

pub returns-in_err-add_key-clause-kept : goal.returns-in_err-add_key-clause-kept
returns-in_err-add_key-clause-kept c =
    extends_after c.args.catalog.now c.put_primary.new.catalog c.add_key.new.catalog c.in_ok-put_primary.ensures.kept c.in_err-add_key.ensures.kept

pub returns-clause-kept : goal.returns-clause-kept
returns-clause-kept c =
    extends_after c.args.catalog.now c.put_primary.new.catalog c.add_key.new.catalog c.in_ok-put_primary.ensures.kept c.in_ok-add_key.ensures.kept
