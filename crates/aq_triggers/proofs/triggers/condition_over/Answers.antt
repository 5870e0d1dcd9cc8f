use Rattle.aq_triggers.proofs.triggers.condition_over.Goals as goal

pub returns : goal.returns
returns c = rw c.no_row.ensures at c.bound_condition.ensures
