use Rattle.std.proofs.Common.{◌≡◌, ◌≤◌, ◌+◌, ◌-◌, length}
use Rattle.std.specs.Vec.{vec_len}
use Rattle.std.specs.Io.KnownBytes.{Consumes}
use Rattle.aq_causes.proofs.reading.read_all.Given as goal

abbrev pub invariant-pieces : goal.invariant-pieces
invariant-pieces g l = record {
  given : Consumes (g.S.Source.left l.fn.input) (g.S.Source.left l.input) l.bytes.items;
  count : g.S.Source.faults l.fn.input ≤ g.S.Source.faults l.input;
  room : length l.piece ≡ 4096;
}

abbrev pub decreases-pieces : goal.decreases-pieces
decreases-pieces g l = l.limit + 1 - vec_len l.bytes
