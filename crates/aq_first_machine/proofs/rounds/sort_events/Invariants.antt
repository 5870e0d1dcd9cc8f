use Rattle.std.proofs.Common.{◌≡◌, ◌+◌, ◌≤◌, ◌++◌, filter}
use Rattle.std.specs.VecDeque.{deque_len, deque_capacity}
use Rattle.aq_first_outcomes.specs.Rows.{is_deferred, is_immediate}
use Rattle.aq_first_machine.proofs.rounds.sort_events.Given as goal

abbrev pub invariant-events : goal.invariant-events
invariant-events l = record {
  deferred : l.deferred.items ++ filter (is_deferred l.fn.catalog) l.queued.items ≡ l.fn.deferred.items ++ filter (is_deferred l.fn.catalog) l.fn.queued.items;
  round : l.round.items ++ filter (is_immediate l.fn.catalog) l.queued.items ≡ l.fn.round.items ++ filter (is_immediate l.fn.catalog) l.fn.queued.items;
  deferred_room : deque_len l.deferred + deque_len l.queued ≤ deque_capacity l.deferred;
  round_room : deque_len l.round + deque_len l.queued ≤ deque_capacity l.round;
}

abbrev pub decreases-events : goal.decreases-events
decreases-events l = deque_len l.queued
