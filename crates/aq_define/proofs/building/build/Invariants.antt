use Rattle.std.proofs.Common.{◌≡◌, drop}
use Rattle.aq_catalog.specs.Catalogs.{no_tables}
use Rattle.aq_setup.specs.Setup.{setup_from}
use Rattle.aq_define.proofs.building.build.Given as goal

abbrev pub invariant-loop-placed : goal.invariant-loop-placed
invariant-loop-placed l = setup_from l.natives l.catalog (drop l.placed-index l.script.setup) ≡ setup_from l.natives no_tables l.script.setup
