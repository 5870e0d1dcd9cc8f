use Rattle.std.proofs.Common.{◌≡◌, map, take}
use Rattle.aq_setup.specs.Binding.{bound_expression}
use Rattle.aq_binder.proofs.binding.bound_values.Given as goal

abbrev pub invariant-loop-value : goal.invariant-loop-value
invariant-loop-value l = l.made ≡ map (bound_expression l.scope) (take l.value-index l.values)
