use Rattle.std.proofs.Common.{◌≡◌, drop}
use Rattle.std.specs.List.{flat_map}
use Rattle.aq_setup.specs.Names.{given_names}
use Rattle.aq_binder.proofs.names.row_names.Given as goal

abbrev pub invariant-values : goal.invariant-values
invariant-values l = flat_map (given_names l.scope) (drop l.given-index l.row) ≡ flat_map (given_names l.scope) l.row
