use Rattle.std.proofs.Common.{◌≡◌, length}
use Rattle.aq_simple.specs.Conditions.{items_named}
use Rattle.aq_simple.proofs.conditions.items_named.Given as goal

abbrev pub invariant-statements : goal.invariant-statements
invariant-statements l = items_named l.rest l.name ≡ items_named l.fn.earlier l.fn.name

abbrev pub decreases-statements : goal.decreases-statements
decreases-statements l = length l.rest
