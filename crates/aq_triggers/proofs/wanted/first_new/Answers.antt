use Rattle.std.proofs.Common.{rules}
use Rattle.aq_triggers.proofs.FirstNames.{new_here}
use Rattle.aq_triggers.proofs.wanted.first_new.Goals as goal

pub returns-then-eq : goal.returns-then-eq
returns-then-eq c =
    new_here c.args.transitions.now c.loop-table.table-index c.table-item.result c.loop-table-test.true c.table-item.is c.loop-table.invariant (search rules)
