use Rattle.aq_triggers.proofs.trigger_faults.missing_table.Goals as goal

pub returns : goal.returns
returns c = rw (← c.w.view_is) (rw c.in_session.ensures at c.table_faults.ensures)
