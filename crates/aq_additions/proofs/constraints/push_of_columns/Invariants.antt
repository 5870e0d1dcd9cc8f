use Rattle.std.proofs.Common.{◌≡◌, ◌++◌, take}
use Rattle.std.specs.List.{flat_map}
use Rattle.aq_setup.specs.Constraints.{of_column}
use Rattle.aq_additions.proofs.constraints.push_of_columns.Given as goal

abbrev pub invariant-loop-found : goal.invariant-loop-found
invariant-loop-found l = l.out ≡ l.fn.out ++ flat_map (of_column l.column) (take l.found-index l.all)
