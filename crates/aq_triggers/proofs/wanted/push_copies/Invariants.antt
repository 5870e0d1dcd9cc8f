use Rattle.std.proofs.Common.{◌≡◌, ◌++◌, take}
use Rattle.aq_triggers.proofs.wanted.push_copies.Given as goal

abbrev pub invariant-loop-name : goal.invariant-loop-name
invariant-loop-name l = l.made ≡ l.fn.made ++ take l.name-index l.names
