use Rattle.std.proofs.Common.{◌≡◌, drop, length}
use Rattle.std.specs.List.{flat_map}
use Rattle.aq_setup.specs.References.{count_faults}
use Rattle.aq_tables.proofs.added.unequal_counts.Given as goal

abbrev pub invariant-loop-f : goal.invariant-loop-f
invariant-loop-f l =
    flat_map (λ f. count_faults l.keyed (length f.cols) f.reference) (drop l.f-index l.found)
    ≡ flat_map (λ f. count_faults l.keyed (length f.cols) f.reference) l.found
