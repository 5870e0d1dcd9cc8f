use Rattle.std.proofs.Common.{◌≡◌, take}
use Rattle.aq_first_machine.proofs.start.queue_of.Given as goal

abbrev pub invariant-rows : goal.invariant-rows
invariant-rows l = l.queue.items ≡ take l.row-index l.rows
