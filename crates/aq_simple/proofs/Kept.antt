-- The names and limits of a script, by the statements before a place and by the catalog that these make.
use Rattle.std.proofs.Common.{◌≡◌, ℕ, ◌+◌, ◌≤◌, Bool, true, ◌&&◌, ◌||◌, List, [], ◌∷◌, length, map, take, drop, Some, refl, ap, add-one}
use Rattle.std.specs.List.{list_any, slice_get}
use Rattle.aq_first_base.specs.declared.simple.SimplePlaced.{SimplePlaced}
use Rattle.aq_simple.specs.Conditions.{definition_kept, setup_kept}
use Rattle.aq_simple.proofs.Lists.{take_one, drop_one, drop_all}

pub any_mapped : {X Y : Type 0} (test : Y → Bool) (f : X → Y) (xs : List X) → list_any test (map f xs) ≡ list_any (λ x. test (f x)) xs
any_mapped test f [] = refl
any_mapped test f (x ∷ xs) = ap (λ (b : Bool). test (f x) || b) (any_mapped test f xs)

pub setup_step : (setup : List SimplePlaced) (at : ℕ) (placed : SimplePlaced) → slice_get setup at ≡ Some placed
    → setup_kept (take at setup) (drop at setup) ≡ (definition_kept (take at setup) placed.statement && setup_kept (take (at + 1) setup) (drop (at + 1) setup))
setup_step setup at placed e = rw (add-one, drop_one at setup placed e, take_one at setup placed e) refl

pub setup_ends : (setup : List SimplePlaced) (at : ℕ) → length setup ≤ at → setup_kept (take at setup) (drop at setup) ≡ true
setup_ends setup at le = rw (drop_all at setup le) refl
