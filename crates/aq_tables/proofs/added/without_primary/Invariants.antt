use Rattle.std.proofs.Common.{◌≡◌, drop}
use Rattle.std.specs.List.{flat_map}
use Rattle.aq_setup.specs.References.{primary_faults}
use Rattle.aq_tables.proofs.added.without_primary.Given as goal

abbrev pub invariant-loop-f : goal.invariant-loop-f
invariant-loop-f l = flat_map (λ f. primary_faults l.keyed f.reference) (drop l.f-index l.found) ≡ flat_map (λ f. primary_faults l.keyed f.reference) l.found
