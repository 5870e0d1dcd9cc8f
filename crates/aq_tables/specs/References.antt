-- The faults of foreign keys in a catalog that has the keys of their statement.
use Rattle.std.specs.Prelude.{List, ◌++◌, length}
use Rattle.std.specs.List.{flat_map}
use Rattle.aq_base.specs.Names.{Text}
use Rattle.aq_base.specs.declared.fault.SqlFault.{SqlFault}
use Rattle.aq_catalog.specs.Catalogs.{Catalog}
use Rattle.aq_setup.specs.References.{count_faults, key_faults, primary_faults, set_faults, kind_faults}
use Rattle.aq_setup.specs.Tables.{Referring}

abbrev pub unreferable_in : Catalog → List Referring → List SqlFault
unreferable_in keyed found =
    flat_map (λ f. count_faults keyed (length f.cols) f.reference) found ++ flat_map (λ f. key_faults keyed f.reference) found

abbrev pub reference_faults : Catalog → Text → List Referring → List SqlFault
reference_faults keyed table found =
    unreferable_in keyed found
    ++ (flat_map (λ f. primary_faults keyed f.reference) found
    ++ (flat_map (λ f. set_faults f.cols f.reference) found ++ flat_map (λ f. kind_faults keyed table f.name f.cols f.reference) found))
