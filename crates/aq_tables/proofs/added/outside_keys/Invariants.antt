use Rattle.std.proofs.Common.{◌≡◌, drop}
use Rattle.std.specs.List.{flat_map}
use Rattle.aq_setup.specs.References.{set_faults}
use Rattle.aq_tables.proofs.added.outside_keys.Given as goal

abbrev pub invariant-loop-f : goal.invariant-loop-f
invariant-loop-f l = flat_map (λ f. set_faults f.cols f.reference) (drop l.f-index l.found) ≡ flat_map (λ f. set_faults f.cols f.reference) l.found
