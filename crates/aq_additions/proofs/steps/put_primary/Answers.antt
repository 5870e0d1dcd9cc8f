use Rattle.aq_additions.proofs.Extending.{extends_primary, extends_to}
use Rattle.aq_additions.proofs.steps.put_primary.Goals as goal

pub returns-clause-kept : goal.returns-clause-kept
returns-clause-kept c =
    extends_to c.args.catalog.now _ c.push_primary.new.self c.in_ok-push_primary.ensures.ok (extends_primary c.args.catalog.now c.new-number.result)
