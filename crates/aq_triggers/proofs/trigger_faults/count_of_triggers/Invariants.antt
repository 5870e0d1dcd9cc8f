use Rattle.std.proofs.Common.{◌≡◌, filter, length, take}
use Rattle.aq_setup.specs.Triggers.{is_of_statement}
use Rattle.aq_triggers.proofs.trigger_faults.count_of_triggers.Given as goal

abbrev pub invariant-loop-trigger : goal.invariant-loop-trigger
invariant-loop-trigger l = l.count ≡ length (filter (λ t. is_of_statement t.does) (take l.trigger-index l.made))
