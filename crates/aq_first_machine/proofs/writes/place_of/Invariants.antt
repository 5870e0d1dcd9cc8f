use Rattle.std.proofs.Common.{◌≡◌, ◌+◌, drop}
use Rattle.aq_first_machine.specs.Versions.{place_in}
use Rattle.aq_first_machine.proofs.writes.place_of.Given as goal

abbrev pub invariant-writes : goal.invariant-writes
invariant-writes l = l.place + place_in l.row (drop l.place l.fn.writes) ≡ place_in l.fn.row l.fn.writes
