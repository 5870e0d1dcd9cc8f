use Rattle.std.proofs.Common.{◌≡◌, map, take}
use Rattle.aq_setup.specs.Binding.{bound_given}
use Rattle.aq_binder.proofs.binding.bound_row.Given as goal

abbrev pub invariant-loop-given : goal.invariant-loop-given
invariant-loop-given l = l.made ≡ map (bound_given l.scope) (take l.given-index l.row)
