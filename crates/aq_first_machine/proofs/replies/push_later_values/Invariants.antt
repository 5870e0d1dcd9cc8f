use Rattle.std.proofs.Common.{◌≡◌, ◌++◌, map, drop, string_bytes}
use Rattle.aq_first_run.specs.Replies.{detail_value}
use Rattle.aq_first_machine.specs.Behind.{behind}
use Rattle.aq_first_machine.proofs.replies.push_later_values.Given as goal

abbrev pub invariant-values : goal.invariant-values
invariant-values l = string_bytes l.out ++ behind (map detail_value (drop l.value-index l.values)) ≡ string_bytes l.fn.out ++ behind (map detail_value l.fn.values)
