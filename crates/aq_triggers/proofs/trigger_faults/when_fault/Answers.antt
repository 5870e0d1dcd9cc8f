use Rattle.aq_triggers.proofs.trigger_faults.when_fault.Goals as goal

pub returns : goal.returns
returns c = rw c.no_row.ensures at c.condition_faults.ensures
