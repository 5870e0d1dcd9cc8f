use Rattle.std.proofs.Common.{◌≡◌, map, drop}
use Rattle.aq_base.specs.Maps.{at}
use Rattle.aq_first_machine.specs.Versions.{write_entry}
use Rattle.aq_first_machine.proofs.writes.write_at.Given as goal

abbrev pub invariant-writes : goal.invariant-writes
invariant-writes l = at l.row (map write_entry (drop l.w-index l.writes)) ≡ at l.fn.row (map write_entry l.fn.writes)
