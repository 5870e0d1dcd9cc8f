use Rattle.std.proofs.Common.{◌≡◌, [], take}
use Rattle.aq_binder.specs.Repeating.{faults_behind, column_faults}
use Rattle.aq_binder.proofs.names.insert_columns.Given as goal

abbrev pub invariant-columns : goal.invariant-columns
invariant-columns l = faults_behind (column_faults l.table l.cols) [] (take l.at l.columns) ≡ []
