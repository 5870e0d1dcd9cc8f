use Rattle.std.proofs.Common.{◌≡◌, ◌+◌, ◌-◌, ◌≤◌, ◌++◌, length, take, drop}
use Rattle.aq_events.specs.Entries.{marked_from, count_marked}
use Rattle.aq_events.proofs.entries.mark_from.Given as goal

abbrev pub invariant-places : goal.invariant-places
invariant-places l = record {
  entries : l.entries ≡ take l.place (marked_from l.from l.picks l.firing l.fn.entries) ++ drop l.place l.fn.entries;
  count : l.count + count_marked (drop (l.place - l.from) l.picks) (drop l.place l.fn.entries) ≡ count_marked l.picks (drop l.from l.fn.entries);
  at_least : l.count + l.from ≤ l.place;
  within : l.place ≤ length l.fn.entries;
}
