use Rattle.std.proofs.Common.{◌≡◌, true, drop}
use Rattle.aq_first_base.specs.Setup.{setup_from, catalog_of}
use Rattle.aq_first_base.specs.Scripts.{can_set_up}
use Rattle.aq_first_machine.proofs.catalog.catalog_for.Given as goal

abbrev pub invariant-setup : goal.invariant-setup
invariant-setup l = record {
  made : setup_from l.catalog (drop l.placed-index l.fn.script.setup) ≡ catalog_of l.fn.script;
  can : can_set_up l.catalog (drop l.placed-index l.fn.script.setup) ≡ true;
}
