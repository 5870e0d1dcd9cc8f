use Rattle.std.proofs.Common.{◌≡◌, map, take}
use Rattle.aq_catalog.specs.Catalogs.{number_of_column}
use Rattle.aq_catalog.proofs.lookups.numbers_of_columns.Given as goal

abbrev pub invariant-loop-name : goal.invariant-loop-name
invariant-loop-name l = l.made ≡ map (number_of_column l.cols) (take l.name-index l.names)
