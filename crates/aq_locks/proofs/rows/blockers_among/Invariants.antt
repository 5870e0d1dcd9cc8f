use Rattle.std.proofs.Common.{◌≡◌, ℕ, ◌<◌, ◌≤◌, false, not, ◌&&◌, ◌==◌, None}
use Rattle.std.specs.Prelude.{slice_index_or}
use Rattle.aq_base.specs.LockModes.{conflicts_with}
use Rattle.aq_xids.specs.Sets.{has}
use Rattle.aq_locks.proofs.rows.blockers_among.Given as goal

abbrev pub invariant-loop-n : goal.invariant-loop-n
invariant-loop-n l = record {
  below : (j : ℕ) → j < l.n → has l.found.0 j ≡ (not (j == l.own.0) && conflicts_with l.mode (slice_index_or l.modes j None));
  above : (j : ℕ) → l.n ≤ j → has l.found.0 j ≡ false;
}
