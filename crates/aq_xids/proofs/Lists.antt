-- Lists in which one element is written.
use Rattle.std.proofs.Common.{◌≡◌, ◌⊎◌, inl, inr, ℕ, zero, suc, ◌+◌, Bool, true, false, cond, List, [], ◌∷◌, ◌++◌, length, count_by, Some, slice_get, get_or, refl, ap, ◌∙◌, arith}
use Rattle.std.proofs.Math.ListN.{set}
use Rattle.std.proofs.lemmas.List.Sums.{sum_by-set}
use Rattle.std.proofs.lemmas.Option.{get_or_from_slice_get, slice_get_within}

pub slice_get-set : {A : Type 0} (xs : List A) (i k : ℕ) (y z : A) → slice_get (set xs i y) k ≡ Some z → ((k ≡ i) × (y ≡ z)) ⊎ (slice_get xs k ≡ Some z)
slice_get-set [] i k y z e = inr e
slice_get-set (x ∷ xs) zero zero y z e = inl (refl, cc)
slice_get-set (x ∷ xs) zero (suc k) y z e = inr e
slice_get-set (x ∷ xs) (suc i) zero y z e = inr e
slice_get-set (x ∷ xs) (suc i) (suc k) y z e =
    elim (slice_get-set xs i k y z e) [ inl h ↦ inl (ap suc h.0, h.1) | inr h ↦ inr h ]

pub count_by-set : {A : Type 0} (p : A → Bool) (xs : List A) (i : ℕ) (x y : A) → slice_get xs i ≡ Some x → p x ≡ p y → count_by p (set xs i y) ≡ count_by p xs
count_by-set p xs i x y e h =
    let at : get_or xs i x ≡ x = get_or_from_slice_get xs i x x e in
    let sums = sum_by-set (λ a. cond (p a) 1 0) xs i y x (slice_get_within xs i x e) in
    let as_number : Bool → ℕ = λ b. cond b 1 0 in
    let same : as_number (p (get_or xs i x)) ≡ as_number (p y) = ap (λ a. as_number (p a)) at ∙ ap as_number h in
    omega (arith, sums, same)

pub count_by-set_more : {A : Type 0} (p : A → Bool) (xs : List A) (i : ℕ) (x y : A) → slice_get xs i ≡ Some x → p x ≡ false → p y ≡ true → count_by p (set xs i y) ≡ count_by p xs + 1
count_by-set_more p xs i x y e fails passes =
    let at : get_or xs i x ≡ x = get_or_from_slice_get xs i x x e in
    let sums = sum_by-set (λ a. cond (p a) 1 0) xs i y x (slice_get_within xs i x e) in
    let as_number : Bool → ℕ = λ b. cond b 1 0 in
    let before : as_number (p (get_or xs i x)) ≡ as_number false = ap (λ a. as_number (p a)) at ∙ ap as_number fails in
    let after : as_number (p y) ≡ as_number true = ap as_number passes in
    omega (arith, sums, before, after)

pub slice_get-push : {A : Type 0} (xs : List A) (k : ℕ) (y z : A) → slice_get (xs ++ y ∷ []) k ≡ Some z → ((k ≡ length xs) × (y ≡ z)) ⊎ (slice_get xs k ≡ Some z)
slice_get-push [] zero y z e = inl (refl, cc)
slice_get-push [] (suc k) y z e = cc
slice_get-push (x ∷ xs) zero y z e = inr e
slice_get-push (x ∷ xs) (suc k) y z e = elim (slice_get-push xs k y z e) [ inl h ↦ inl (ap suc h.0, h.1) | inr h ↦ inr h ]
