use Rattle.std.proofs.Common.{◌≡◌, drop}
use Rattle.std.specs.List.{flat_map}
use Rattle.aq_catalog.specs.Catalogs.{constraints_named}
use Rattle.aq_setup.specs.Binding.{set_name_faults}
use Rattle.aq_binder.proofs.statements.set_names_faults.Given as goal

abbrev pub invariant-loop-name : goal.invariant-loop-name
invariant-loop-name l =
    flat_map (λ name. set_name_faults l.catalog l.mode name (constraints_named l.catalog name)) (drop l.name-index l.names)
    ≡ flat_map (λ name. set_name_faults l.catalog l.mode name (constraints_named l.catalog name)) l.names
