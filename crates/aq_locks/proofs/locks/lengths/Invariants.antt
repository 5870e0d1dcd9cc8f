use Rattle.std.proofs.Common.{◌≡◌, ℕ, ◌<◌, [], length}
use Rattle.std.specs.Prelude.{slice_index_or}
use Rattle.aq_locks.specs.Rows.{items_of}
use Rattle.aq_locks.proofs.locks.lengths.Given as goal

abbrev pub invariant-loop-n : goal.invariant-loop-n
invariant-loop-n l = record {
  long : length l.lens ≡ 16;
  each : (k : ℕ) → k < l.n → slice_index_or l.lens k 0 ≡ length (slice_index_or (items_of l.logs) k []);
}
