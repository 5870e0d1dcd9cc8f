use Rattle.std.proofs.Common.{◌≡◌, ℕ, ◌<◌, ◌≤◌, false, ◌||◌, ◌==◌}
use Rattle.std.specs.List.{list_any}
use Rattle.aq_base.specs.Cycles.{is_in}
use Rattle.aq_xids.specs.Sets.{has, members}
use Rattle.aq_waits.specs.Edges.{waits_for}
use Rattle.aq_waits.proofs.layers.one_more.Given as goal

abbrev pub invariant-loop-k : goal.invariant-loop-k
invariant-loop-k l = record {
  below : (j : ℕ) → j < l.k → has l.found.0 j ≡ ((j == l.goal.0) || list_any (is_in (members l.fewer.0)) (waits_for l.edges j));
  above : (j : ℕ) → l.k ≤ j → has l.found.0 j ≡ false;
}
