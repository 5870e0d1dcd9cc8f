use Rattle.aq_triggers.proofs.trigger_faults.missing_columns.Goals as goal

pub returns : goal.returns
returns c = rw (← c.w.view_is) (rw c.columns_of.ensures at c.columns_known.ensures)
