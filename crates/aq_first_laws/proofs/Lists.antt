-- Sums, lengths and places of lists.
use Rattle.std.proofs.Common.{◌≡◌, ℕ, zero, suc, ◌+◌, ◌≤◌, Bool, true, false, cond, List, [], ◌∷◌, ◌++◌, length, drop, filter, slice_get, Some, refl, arith, sum_by, add-one}
use Rattle.std.proofs.lemmas.List.Sums.{sum_by-cons}
use Rattle.aq_first_base.specs.Databases.{Database}
use Rattle.aq_first_run.specs.States.{last_of}

-- a sum from a place on begins with the element there
pub sum_by-drop : {X : Type 0} (f : X → ℕ) (xs : List X) (n : ℕ) (x : X) → slice_get xs n ≡ Some x → sum_by f (drop n xs) ≡ f x + sum_by f (drop (n + 1) xs)
sum_by-drop f [] n x e = absurd (grind (arith, e))
sum_by-drop f (y ∷ xs) zero x e = grind (arith, e, sum_by-cons f y xs)
sum_by-drop f (y ∷ xs) (suc n) x e = let h = sum_by-drop f xs n x e in rw add-one (rw (add-one) at h)

pub length-filter-le : {X : Type 0} (test : X → Bool) (xs : List X) → length (filter test xs) ≤ length xs
length-filter-le test [] = omega arith
length-filter-le test (x ∷ xs) =
    let rest = length-filter-le test xs in
    elim (test x) as (λ b. length (cond b (x ∷ filter test xs) (filter test xs)) ≤ suc (length xs)) [ true ↦ omega arith | false ↦ omega arith ]

-- the last of some databases and one more
pub last_of-push : (history : List Database) (db : Database) → last_of (history ++ db ∷ []) ≡ db
last_of-push [] db = refl
last_of-push (first ∷ []) db = refl
last_of-push (first ∷ second ∷ history) db = last_of-push (second ∷ history) db
