use Rattle.std.proofs.Common.{◌≡◌, ◌++◌, take, string_bytes}
use Rattle.aq_setup.specs.Constraints.{underscored}
use Rattle.aq_additions.proofs.constraints.push_underscored.Given as goal

abbrev pub invariant-loop-name : goal.invariant-loop-name
invariant-loop-name l = string_bytes l.out ≡ string_bytes l.fn.out ++ underscored (take l.name-index l.names)
