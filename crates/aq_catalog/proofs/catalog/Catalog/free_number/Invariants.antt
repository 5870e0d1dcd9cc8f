use Rattle.std.proofs.Common.{◌≤◌}
use Rattle.aq_catalog.specs.Catalogs.{constraint_names}
use Rattle.aq_catalog.specs.Numbered.{AreTaken}
use Rattle.aq_catalog.proofs.catalog.Catalog.free_number.Given as goal

abbrev pub invariant-loop-number : goal.invariant-loop-number
invariant-loop-number l = (1 ≤ l.number) × AreTaken (constraint_names l.self l.table) l.name l.number
