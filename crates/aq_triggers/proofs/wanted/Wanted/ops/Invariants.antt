use Rattle.std.proofs.Common.{◌≡◌, map, take}
use Rattle.aq_setup.specs.Triggers.{op_of}
use Rattle.aq_triggers.proofs.wanted.Wanted.ops.Given as goal

abbrev pub invariant-loop-event : goal.invariant-loop-event
invariant-loop-event l = l.made ≡ map op_of (take l.event-index l.event-items)
