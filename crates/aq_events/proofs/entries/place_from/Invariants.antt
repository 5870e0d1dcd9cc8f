use Rattle.std.proofs.Common.{◌≡◌, ◌+◌, ◌-◌, ◌≤◌, length, drop}
use Rattle.aq_events.specs.Entries.{first_place}
use Rattle.aq_events.proofs.entries.place_from.Given as goal

abbrev pub invariant-places : goal.invariant-places
invariant-places l = record {
  place : l.place + first_place l.firing (drop l.place l.entries) ≡ l.from + first_place l.firing (drop l.from l.entries);
  within : l.place ≤ length l.entries;
}

abbrev pub decreases-places : goal.decreases-places
decreases-places l = length l.entries - l.place
