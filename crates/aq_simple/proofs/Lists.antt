-- Options that are given, fronts of lists, and what each element of a list gives.
use Rattle.std.proofs.Common.{◌≡◌, ℕ, zero, suc, ◌+◌, ◌≤◌, List, [], ◌∷◌, ◌++◌, length, take, drop, Option, Some, None, refl, ap, arith, add-one}
use Rattle.std.specs.Prelude.{option_map, option_and_then}
use Rattle.std.specs.List.{slice_get}
use Rattle.aq_simple.specs.declared.fault.FormFault.{FormFault}
use Rattle.aq_simple.specs.declared.fault.FormFault.TheVariants.{NoMemory, NotSimple}
use Rattle.aq_simple.specs.Forms.{all_of}
use Rattle.aq_simple.specs.Steps.{Fails}

pub some_is : {A : Type 0} (x y : A) → ◌≡◌ {A = Option A} (Some x) (Some y) → x ≡ y
some_is x y e = cc

pub none_is_not : {A B : Type 0} (y : A) → ◌≡◌ {A = Option A} None (Some y) → B
none_is_not y e = absurd cc

pub take_one : {X : Type 0} (n : ℕ) (xs : List X) (x : X) → slice_get xs n ≡ Some x → take (suc n) xs ≡ take n xs ++ x ∷ []
take_one zero [] x e = none_is_not x e
take_one {X = X} zero (y ∷ ys) x e = ap (λ (z : X). z ∷ []) (some_is y x e)
take_one (suc n) [] x e = none_is_not x e
take_one {X = X} (suc n) (y ∷ ys) x e = ap (λ (zs : List X). y ∷ zs) (take_one n ys x e)

pub drop_one : {X : Type 0} (n : ℕ) (xs : List X) (x : X) → slice_get xs n ≡ Some x → drop n xs ≡ x ∷ drop (suc n) xs
drop_one zero [] x e = none_is_not x e
drop_one {X = X} zero (y ∷ ys) x e = ap (λ (z : X). z ∷ ys) (some_is y x e)
drop_one (suc n) [] x e = none_is_not x e
drop_one (suc n) (y ∷ ys) x e = drop_one n ys x e

pub drop_all : {X : Type 0} (n : ℕ) (xs : List X) → length xs ≤ n → drop n xs ≡ []
drop_all zero [] le = refl
drop_all zero (y ∷ ys) le = absurd (omega arith)
drop_all (suc n) [] le = refl
drop_all (suc n) (y ∷ ys) le = drop_all n ys (omega arith)

-- ---- what each element gives

-- what an element gives before those after it
abbrev pub before_all : {B : Type 0} → Option B → Option (List B) → Option (List B)
before_all first others = option_and_then (λ y. option_map (λ ys. y ∷ ys) others) first

before_more : {B : Type 0} (first : Option B) (others more : Option (List B)) (y : B) (ys : List B) → ((zs : List B) → others ≡ Some zs → more ≡ Some (zs ++ y ∷ []))
    → before_all first others ≡ Some ys → before_all first more ≡ Some (ys ++ y ∷ [])
before_more None others more y ys later all = none_is_not ys all
before_more (Some z) None more y ys later all = none_is_not ys all
before_more (Some z) (Some zs) more y ys later all = rw (later zs refl, ← some_is (z ∷ zs) ys all) refl

-- one more element gives something
pub all_of-push : {A B : Type 0} (f : A → Option B) (xs : List A) (ys : List B) (x : A) (y : B) → all_of f xs ≡ Some ys → f x ≡ Some y → all_of f (xs ++ x ∷ []) ≡ Some (ys ++ y ∷ [])
all_of-push {B = B} f [] ys x y all one = rw (one, ← some_is {A = List B} [] ys all) refl
all_of-push f (z ∷ zs) ys x y all one = before_more (f z) (all_of f zs) (all_of f (zs ++ x ∷ [])) y ys (λ ws e. all_of-push f zs ws x y e one) all

pub all_of_more : {A B : Type 0} (f : A → Option B) (n : ℕ) (xs : List A) (ys : List B) (x : A) (y : B) → slice_get xs n ≡ Some x → all_of f (take n xs) ≡ Some ys → f x ≡ Some y
    → all_of f (take (n + 1) xs) ≡ Some (ys ++ y ∷ [])
all_of_more f n xs ys x y at all one = rw (add-one, take_one n xs x at) (all_of-push f (take n xs) ys x y all one)

none_before : {B : Type 0} (first : Option B) → before_all first None ≡ None
none_before None = refl
none_before (Some y) = refl

-- where one element gives nothing, there is no list
all_of_none : {A B : Type 0} (f : A → Option B) (n : ℕ) (xs : List A) (x : A) → slice_get xs n ≡ Some x → f x ≡ None → all_of f xs ≡ None
all_of_none f zero [] x at none = none_is_not x at
all_of_none f zero (z ∷ zs) x at none = rw (some_is z x at, none) refl
all_of_none f (suc n) [] x at none = none_is_not x at
all_of_none f (suc n) (z ∷ zs) x at none = rw (all_of_none f n zs x at none) (none_before (f z))

pub all_of_fails : {A B : Type 0} (fault : FormFault) (f : A → Option B) (n : ℕ) (xs : List A) (x : A) → slice_get xs n ≡ Some x → Fails fault (f x) → Fails fault (all_of f xs)
all_of_fails NoMemory f n xs x at fails = tt
all_of_fails NotSimple f n xs x at fails = all_of_none f n xs x at fails
