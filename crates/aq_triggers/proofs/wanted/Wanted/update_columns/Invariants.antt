use Rattle.std.proofs.Common.{◌≡◌, take}
use Rattle.std.specs.List.{flat_map}
use Rattle.aq_setup.specs.Triggers.{event_columns}
use Rattle.aq_triggers.proofs.wanted.Wanted.update_columns.Given as goal

abbrev pub invariant-loop-event : goal.invariant-loop-event
invariant-loop-event l = l.made ≡ flat_map event_columns (take l.event-index l.event-items)
