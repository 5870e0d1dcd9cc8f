use Rattle.std.proofs.Common.{ap}
use Rattle.aq_setup.specs.Triggers.{Wanted}
use Rattle.aq_triggers.proofs.MadeTriggers.{same_trigger}
use Rattle.aq_triggers.proofs.triggers.made_trigger.Goals as goal

pub returns : goal.returns
returns c =
    same_trigger _ _ _ _ _ _ _ _ _ _ _ _ _ _ _ _ _ _ _ _ c.in_ok-name_of.ensures c.in_ok-table_of.ensures c.in_ok-ops.ensures c.in_ok-cols_of.ensures
    (ap (λ (w : Wanted). w.level) c.w.view_is) c.in_ok-condition_of.ensures c.in_ok-constraint_of_trigger.ensures c.in_ok-does_of.ensures
    c.in_ok-old_table_of.ensures c.in_ok-new_table_of.ensures
