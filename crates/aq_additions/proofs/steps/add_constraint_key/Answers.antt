use Rattle.aq_additions.proofs.Extending.{follows_extended}
use Rattle.aq_additions.proofs.steps.add_constraint_key.Goals as goal

pub returns-in-Unique-clause-kept : goal.returns-in-Unique-clause-kept
returns-in-Unique-clause-kept c = follows_extended c.args.table c.args.catalog.now c.add_key.new.catalog c.add_key.ensures.kept
