use Rattle.std.proofs.Common.{◌≡◌, ◌+◌, ◌≤◌, ◌++◌, length, take, drop}
use Rattle.aq_events.specs.Entries.{turned_from, count_turned}
use Rattle.aq_events.proofs.entries.turn_from.Given as goal

abbrev pub invariant-places : goal.invariant-places
invariant-places l = record {
  entries : l.entries ≡ take l.place (turned_from l.from l.turn l.fn.entries) ++ drop l.place l.fn.entries;
  count : l.count + count_turned l.turn (drop l.place l.fn.entries) ≡ count_turned l.turn (drop l.from l.fn.entries);
  at_least : l.count + l.from ≤ l.place;
  within : l.place ≤ length l.fn.entries;
}
