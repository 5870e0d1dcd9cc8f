use Rattle.std.proofs.Common.{◌≡◌, ◌++◌, [], ◌∷◌, if◌then◌else◌, drop}
use Rattle.std.specs.List.{flat_map, enumerate_from}
use Rattle.aq_catalog.specs.Catalogs.{places}
use Rattle.aq_additions.proofs.declared.true_places.Given as goal

abbrev pub invariant-loop-number : goal.invariant-loop-number
invariant-loop-number l =
    l.made ++ flat_map (λ entry. if entry.1 then entry.0 ∷ [] else []) (enumerate_from l.number (drop l.number l.tests)) ≡ places (λ b. b) l.tests
