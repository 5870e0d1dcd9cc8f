use Rattle.std.proofs.Common.{◌≡◌, map, take}
use Rattle.aq_catalog.specs.Catalogs.{constraints_named}
use Rattle.aq_binder.proofs.statements.constraints_named.Given as goal

abbrev pub invariant-loop-name : goal.invariant-loop-name
invariant-loop-name l = l.made ≡ map (constraints_named l.catalog) (take l.name-index l.names)
