use Rattle.std.proofs.Common.{◌≡◌, drop}
use Rattle.std.specs.List.{flat_map}
use Rattle.aq_setup.specs.Names.{table_faults}
use Rattle.aq_tables.proofs.added.missing_parents.Given as goal

abbrev pub invariant-loop-f : goal.invariant-loop-f
invariant-loop-f l = flat_map (λ f. table_faults l.catalog f.reference.table) (drop l.f-index l.found) ≡ flat_map (λ f. table_faults l.catalog f.reference.table) l.found
