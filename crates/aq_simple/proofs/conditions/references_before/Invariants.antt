use Rattle.std.proofs.Common.{◌≡◌, ◌-◌, ◌^◌, take, min}
use Rattle.aq_simple.specs.Conditions.{references_before}
use Rattle.aq_simple.proofs.conditions.references_before.Given as goal

abbrev pub invariant-loop-placed : goal.invariant-loop-placed
invariant-loop-placed l = l.total ≡ min (references_before (take l.placed-index l.earlier)) (2 ^ 64 - 1)
