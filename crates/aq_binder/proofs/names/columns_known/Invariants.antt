use Rattle.std.proofs.Common.{◌≡◌, drop, map}
use Rattle.std.specs.List.{flat_map}
use Rattle.aq_setup.specs.Names.{unknown}
use Rattle.aq_refusals.specs.Faults.{no_column}
use Rattle.aq_binder.proofs.names.columns_known.Given as goal

abbrev pub invariant-columns : goal.invariant-columns
invariant-columns l = map no_column (flat_map (unknown l.cols) (drop l.column-index l.columns)) ≡ map no_column (flat_map (unknown l.cols) l.columns)
