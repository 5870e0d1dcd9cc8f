use Rattle.std.proofs.Common.{◌≡◌, drop}
use Rattle.std.specs.List.{flat_map}
use Rattle.aq_setup.specs.Tables.{default_faults}
use Rattle.aq_tables.proofs.tables.defaults_fit.Given as goal

abbrev pub invariant-loop-col : goal.invariant-loop-col
invariant-loop-col l = flat_map default_faults (drop l.col-index l.cols) ≡ flat_map default_faults l.cols
