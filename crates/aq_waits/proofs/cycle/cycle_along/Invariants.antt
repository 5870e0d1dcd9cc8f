use Rattle.std.proofs.Common.{◌≡◌, ◌+◌, ◌≤◌, ◌∷◌, ◌++◌}
use Rattle.aq_base.specs.Cycles.{way}
use Rattle.aq_xids.specs.Sets.{all_sessions, members}
use Rattle.aq_waits.specs.Edges.{waits_for, firsts}
use Rattle.aq_waits.proofs.cycle.cycle_along.Given as goal

abbrev pub invariant-waits : goal.invariant-waits
invariant-waits l = record {
  started : 1 ≤ l.len;
  room : l.len + l.left ≡ l.waits + 1;
  whole : firsts l.len l.items ++ way (waits_for l.edges) all_sessions l.fn.goal.0 l.left (members l.from.0)
      ≡ l.fn.goal.0 ∷ way (waits_for l.edges) all_sessions l.fn.goal.0 l.waits (members l.fn.from.0);
}

abbrev pub decreases-waits : goal.decreases-waits
decreases-waits l = l.left
