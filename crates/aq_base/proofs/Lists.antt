-- Elements of lists.
use Rattle.std.proofs.Common.{◌≡◌, ℕ, zero, suc, ◌⊎◌, inl, inr, ⊎_elim, List, [], ◌∷◌, ◌++◌, length, map, slice_get, Some, None, find, filter, cond, Contains, Bool, true, false, sym, ◌∙◌, refl, ap, subst, arith}
use Rattle.std.proofs.lemmas.Option.{same_Some, none-some}
use Rattle.std.proofs.lemmas.Bool.{cases_Bool}

pub Contains-first : {X : Type 0} (x : X) (xs : List X) → Contains (x ∷ xs) x
Contains-first x xs = (0, omega arith, refl)

pub Contains-later : {X : Type 0} (x y : X) (xs : List X) → Contains xs y → Contains (x ∷ xs) y
Contains-later x y xs c = (suc c.0, omega arith, c.2)

-- an element of a list is its first or a later one
pub Contains-cons_cases : {X : Type 0} (x y : X) (xs : List X) → Contains (x ∷ xs) y → (x ≡ y) ⊎ Contains xs y
Contains-cons_cases x y xs (zero, within, is) = inl is
Contains-cons_cases x y xs (suc k, within, is) = inr (k, omega arith, is)

pub Contains-none : {X : Type 0} (y : X) → Contains [] y → ⊥
Contains-none y c = omega arith

pub Contains-map : {X Y : Type 0} (f : X → Y) (xs : List X) (x : X) → Contains xs x → Contains (map f xs) (f x)
Contains-map f [] x c = absurd (Contains-none x c)
Contains-map f (y ∷ xs) x c =
    ⊎_elim (λ first. subst (λ z. Contains (f y ∷ map f xs) (f z)) first (Contains-first (f y) (map f xs))) (λ later. Contains-later (f y) (f x) (map f xs) (Contains-map f xs x later)) (Contains-cons_cases y x xs c)

-- an element of the images is an image
pub Contains-map_from : {X Y : Type 0} (f : X → Y) (xs : List X) (y : Y) → Contains (map f xs) y → (x : X) × Contains xs x × (f x ≡ y)
Contains-map_from f [] y c = absurd (Contains-none y c)
Contains-map_from {X = X} f (x ∷ xs) y c =
    ⊎_elim (λ first. (x, Contains-first x xs, first)) (λ later. let found = Contains-map_from f xs y later in (found.0, Contains-later x found.0 xs found.1, found.2)) (Contains-cons_cases (f x) y (map f xs) c)

pub Contains-slice_get : {X : Type 0} (xs : List X) (n : ℕ) (x : X) → slice_get xs n ≡ Some x → Contains xs x
Contains-slice_get [] n x e = absurd (grind (arith, e))
Contains-slice_get (y ∷ xs) zero x e = subst (Contains (y ∷ xs)) (same_Some y x e) (Contains-first y xs)
Contains-slice_get (y ∷ xs) (suc n) x e = Contains-later y x xs (Contains-slice_get xs n x e)

-- each element has a place
pub slice_get-Contains : {X : Type 0} (xs : List X) (x : X) → Contains xs x → (n : ℕ) × (slice_get xs n ≡ Some x)
slice_get-Contains [] x c = absurd (Contains-none x c)
slice_get-Contains (y ∷ xs) x c =
    ⊎_elim (λ first. (0, ap Some first)) (λ later. let found = slice_get-Contains xs x later in (suc found.0, found.1)) (Contains-cons_cases y x xs c)

pub slice_get-append : {X : Type 0} (xs ys : List X) (n : ℕ) (x : X) → slice_get xs n ≡ Some x → slice_get (xs ++ ys) n ≡ Some x
slice_get-append [] ys n x e = absurd (grind (arith, e))
slice_get-append (y ∷ xs) ys zero x e = e
slice_get-append (y ∷ xs) ys (suc n) x e = slice_get-append xs ys n x e

-- the elements behind a list, one after the other
pub slice_get-behind : {X : Type 0} (xs : List X) (y : X) (ys : List X) → slice_get (xs ++ y ∷ ys) (length xs) ≡ Some y
slice_get-behind [] y ys = refl
slice_get-behind (x ∷ xs) y ys = slice_get-behind xs y ys

pub slice_get-behind_next : {X : Type 0} (xs : List X) (y z : X) (ys : List X) → slice_get (xs ++ y ∷ z ∷ ys) (suc (length xs)) ≡ Some z
slice_get-behind_next [] y z ys = refl
slice_get-behind_next (x ∷ xs) y z ys = slice_get-behind_next xs y z ys

-- what stands in a list with one element more at its end stood there, or is that element
pub slice_get-push_cases : {X : Type 0} (xs : List X) (y : X) (n : ℕ) (x : X) → slice_get (xs ++ y ∷ []) n ≡ Some x → (slice_get xs n ≡ Some x) ⊎ ((n ≡ length xs) × (y ≡ x))
slice_get-push_cases [] y zero x e = inr (refl, same_Some y x e)
slice_get-push_cases [] y (suc n) x e = absurd (grind (arith, e))
slice_get-push_cases (z ∷ xs) y zero x e = inl e
slice_get-push_cases (z ∷ xs) y (suc n) x e = ⊎_elim (λ old. inl old) (λ new. inr (ap suc new.0, new.1)) (slice_get-push_cases xs y n x e)

-- an element that passes a test stays in what the test keeps
pub Contains-filter : {X : Type 0} (test : X → Bool) (xs : List X) (x : X) → Contains xs x → test x ≡ true → Contains (filter test xs) x
Contains-filter test [] x c passes = absurd (Contains-none x c)
Contains-filter test (y ∷ xs) x c passes = by_place (Contains-cons_cases y x xs c) (λ later. Contains-filter test xs x later passes)
  where
    later_one : (b : Bool) → Contains (filter test xs) x → Contains (cond b (y ∷ filter test xs) (filter test xs)) x
    later_one true rest = Contains-later y x (filter test xs) rest
    later_one false rest = rest

    by_place : (y ≡ x) ⊎ Contains xs x → (Contains xs x → Contains (filter test xs) x) → Contains (filter test (y ∷ xs)) x
    by_place (inl first) rest =
        subst (λ b. Contains (cond b (y ∷ filter test xs) (filter test xs)) x) (sym (ap test first ∙ passes)) (subst (Contains (y ∷ filter test xs)) first (Contains-first y (filter test xs)))
    by_place (inr later) rest = later_one (test y) (rest later)

-- an element of what a test keeps
pub record Kept {X : Type 0} (test : X → Bool) (xs : List X) (x : X) : Type 0 where
  pub was : Contains xs x
  pub passes : test x ≡ true

pub Kept-filter : {X : Type 0} (test : X → Bool) (xs : List X) (x : X) → Contains (filter test xs) x → Kept test xs x
Kept-filter test [] x c = absurd (Contains-none x c)
Kept-filter {X} test (y ∷ xs) x c = by_test (test y) refl c (λ kept. Kept-filter test xs x kept)
  where
    later_one : Kept test xs x → Kept test (y ∷ xs) x
    later_one kept = record { was = Contains-later y x xs kept.was; passes = kept.passes }

    by_place : test y ≡ true → (y ≡ x) ⊎ Contains (filter test xs) x → (Contains (filter test xs) x → Kept test xs x) → Kept test (y ∷ xs) x
    by_place passes (inl first) rest = record { was = subst (Contains (y ∷ xs)) first (Contains-first y xs); passes = ap test (sym first) ∙ passes }
    by_place passes (inr later) rest = later_one (rest later)

    by_test : (b : Bool) → test y ≡ b → Contains (cond b (y ∷ filter test xs) (filter test xs)) x → (Contains (filter test xs) x → Kept test xs x) → Kept test (y ∷ xs) x
    by_test true passes kept rest = by_place passes (Contains-cons_cases y x (filter test xs) kept) rest
    by_test false fails kept rest = later_one (rest kept)

-- where no element passes a test, each fails it
pub find_none : {X : Type 0} (test : X → Bool) (xs : List X) → find test xs ≡ None → (x : X) → Contains xs x → test x ≡ false
find_none test [] none x c = absurd (Contains-none x c)
find_none test (y ∷ xs) none x c = by_test (cases_Bool (test y)) (Contains-cons_cases y x xs c) (λ rest later. find_none test xs rest x later)
  where
    found : (b : Bool) → test y ≡ b → cond b (Some y) (find test xs) ≡ None
    found b is = ap (λ b. cond b (Some y) (find test xs)) (sym is) ∙ none

    by_test : (test y ≡ true) ⊎ (test y ≡ false) → (y ≡ x) ⊎ Contains xs x → (find test xs ≡ None → Contains xs x → test x ≡ false) → test x ≡ false
    by_test (inl passes) place rest = absurd (none-some y (sym (found true passes)))
    by_test (inr fails) (inl first) rest = subst (λ z. test z ≡ false) first fails
    by_test (inr fails) (inr later) rest = rest (found false fails) later
