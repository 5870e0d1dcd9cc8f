use Rattle.std.proofs.Common.{◌≡◌, ◌≤◌, ◌-◌, length, take}
use Rattle.std.specs.Io.KnownBytes.{Appends}
use Rattle.aq_causes.proofs.writing.write_all.Given as goal

abbrev pub invariant-pieces : goal.invariant-pieces
invariant-pieces g l = record {
  within : l.at ≤ length l.bytes;
  written : Appends (g.K.Sink.written l.fn.output) (g.K.Sink.written l.output) (take l.at l.bytes);
  count : g.K.Sink.faults l.fn.output ≤ g.K.Sink.faults l.output;
  untouched : l.at ≡ 0 → l.output ≡ l.fn.output;
}

abbrev pub decreases-pieces : goal.decreases-pieces
decreases-pieces g l = length l.bytes - l.at
