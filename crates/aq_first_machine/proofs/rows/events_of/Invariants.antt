use Rattle.std.proofs.Common.{◌≡◌, ◌++◌, map, drop}
use Rattle.aq_first_outcomes.specs.Rows.{firing_from}
use Rattle.aq_first_machine.specs.Advances.{change_events}
use Rattle.aq_first_machine.proofs.rows.events_of.Given as goal

abbrev pub invariant-triggers : goal.invariant-triggers
invariant-triggers l =
    l.events.items ++ map (λ trigger. record { trigger = trigger; row = l.write.row; write = l.write.number; old = l.old; new = l.write.image }) (firing_from l.number l.write.table l.op (drop l.number l.fn.catalog.triggers))
    ≡ change_events l.fn.catalog l.fn.op l.fn.old l.fn.write
