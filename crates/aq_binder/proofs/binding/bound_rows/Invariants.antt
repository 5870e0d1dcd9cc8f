use Rattle.std.proofs.Common.{◌≡◌, map, take}
use Rattle.aq_setup.specs.Binding.{bound_given}
use Rattle.aq_binder.proofs.binding.bound_rows.Given as goal

abbrev pub invariant-loop-row : goal.invariant-loop-row
invariant-loop-row l = l.made ≡ map (λ row. map (bound_given l.scope) row) (take l.row-index l.rows)
