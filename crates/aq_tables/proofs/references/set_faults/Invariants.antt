use Rattle.std.proofs.Common.{◌≡◌, [], ◌∷◌, if◌then◌else◌, drop}
use Rattle.std.specs.List.{list_any, flat_map}
use Rattle.aq_base.specs.Names.{same_text}
use Rattle.aq_refusals.specs.Faults.{no_key_column}
use Rattle.aq_tables.proofs.references.set_faults.Given as goal

abbrev pub invariant-loop-name : goal.invariant-loop-name
invariant-loop-name l =
    flat_map (λ name. if list_any (same_text name) l.cols then [] else no_key_column name ∷ []) (drop l.name-index l.name-items)
    ≡ flat_map (λ name. if list_any (same_text name) l.cols then [] else no_key_column name ∷ []) l.name-items
