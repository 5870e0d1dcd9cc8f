-- What a loop over a list finds first, and a test of the images of some elements.
use Rattle.std.proofs.Common.{◌≡◌, refl, ℕ, suc, ◌<◌, Bool, true, false, ◌&&◌, ◌||◌, cond, List, [], ◌∷◌, ◌++◌, length, get_or, take, drop, drop-cons, sym, ap, ◌∙◌, map, filter}
use Rattle.std.specs.List.{flat_map, list_any}
use Rattle.std.proofs.lemmas.List.{take-append-drop}
use Rattle.std.proofs.lemmas.Grind.{flat_map-append}

-- what a list gives whose first elements give nothing
pub found_here : {A B : Type 0} (f : A → List B) (xs : List A) (i : ℕ) (x : A) → i < length xs → x ≡ get_or xs i x → flat_map f (take i xs) ≡ []
    → flat_map f xs ≡ f x ++ flat_map f (drop (suc i) xs)
found_here f xs i x within is none =
    ap (flat_map f) (sym (take-append-drop i xs)) ∙ flat_map-append f (take i xs) (drop i xs) ∙ ap (λ l. l ++ flat_map f (drop i xs)) none
    ∙ ap (flat_map f) (drop-cons xs i x within) ∙ ap (λ y. f y ++ flat_map f (drop (suc i) xs)) (sym is)

one_more : {A B : Type 0} (p : B → Bool) (f : A → B) (q : A → Bool) (x : A) (xs : List A) (kept : Bool)
    → list_any p (map f (filter q xs)) ≡ list_any (λ y. q y && p (f y)) xs
    → list_any p (map f (cond kept (x ∷ filter q xs) (filter q xs))) ≡ ((kept && p (f x)) || list_any (λ y. q y && p (f y)) xs)
one_more p f q x xs true later = ap (λ (b : Bool). p (f x) || b) later
one_more p f q x xs false later = later

pub any_of_images : {A B : Type 0} (p : B → Bool) (f : A → B) (q : A → Bool) (xs : List A)
    → list_any p (map f (filter q xs)) ≡ list_any (λ y. q y && p (f y)) xs
any_of_images p f q [] = refl
any_of_images p f q (x ∷ xs) = one_more p f q x xs (q x) (any_of_images p f q xs)
