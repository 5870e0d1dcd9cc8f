use Rattle.std.proofs.Common.{◌≡◌, ◌++◌, drop}
use Rattle.aq_setup.specs.Constraints.{named}
use Rattle.aq_additions.proofs.constraints.named.Given as goal

abbrev pub invariant-loop-constraint : goal.invariant-loop-constraint
invariant-loop-constraint l = l.made ++ named l.taken l.table (drop l.constraint-index l.all) ≡ named l.fn.taken l.table l.all
