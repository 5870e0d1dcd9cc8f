use Rattle.std.proofs.Common.{◌≡◌, drop}
use Rattle.std.specs.List.{flat_map}
use Rattle.aq_setup.specs.Names.{given_names}
use Rattle.aq_binder.proofs.names.rows_names.Given as goal

abbrev pub invariant-rows : goal.invariant-rows
invariant-rows l = flat_map (λ row. flat_map (given_names l.scope) row) (drop l.row-index l.rows) ≡ flat_map (λ row. flat_map (given_names l.scope) row) l.rows
