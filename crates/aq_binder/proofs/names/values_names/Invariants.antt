use Rattle.std.proofs.Common.{◌≡◌, drop}
use Rattle.std.specs.List.{flat_map}
use Rattle.aq_setup.specs.Names.{expression_names}
use Rattle.aq_binder.proofs.names.values_names.Given as goal

abbrev pub invariant-values : goal.invariant-values
invariant-values l = flat_map (expression_names l.scope) (drop l.e-index l.values) ≡ flat_map (expression_names l.scope) l.values
