use Rattle.std.proofs.Common.{◌≡◌, [], ◌∷◌, if◌then◌else◌, drop}
use Rattle.std.specs.List.{flat_map}
use Rattle.aq_base.specs.Names.{is_short}
use Rattle.aq_refusals.specs.Faults.{long_name}
use Rattle.aq_tables.proofs.added.long_names.Given as goal

abbrev pub invariant-loop-n : goal.invariant-loop-n
invariant-loop-n l =
    flat_map (λ n. if is_short n.name then [] else long_name n.name ∷ []) (drop l.n-index l.all)
    ≡ flat_map (λ n. if is_short n.name then [] else long_name n.name ∷ []) l.all
