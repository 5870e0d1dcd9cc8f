-- What stands at the place of the first element that passes a test, and the places of all that do.
use Rattle.std.proofs.Common.{◌≡◌, ℕ, ◌+◌, ◌<◌, Bool, true, false, List, [], ◌∷◌, ◌++◌, length, Some, None, ap, sym, ◌∙◌, arith, take, get_or, if◌then◌else◌, unwrap_or, ◌≤◌, not, slice_set, zero, refl, cond, suc}
use Rattle.std.specs.List.{find, position, position_from, position_or_len, slice_get, enumerate_from, flat_map}
use Rattle.std.proofs.lemmas.List.Folds.{find_at}
use Rattle.std.proofs.lemmas.List.Sums.{prefix_len-le-length}
use Rattle.std.proofs.lemmas.Iterator.Adapters.{position_from-zero}
use Rattle.std.proofs.lemmas.Option.{slice_get_past}
use Rattle.std.proofs.lemmas.Grind.{common_steps, flat_map-append}
use Rattle.std.proofs.lemmas.List.{append-nil, length-take-le, take_more}
use Rattle.aq_catalog.specs.Catalogs.{places}

pub found_at : {X : Type 0} (p : X → Bool) (xs : List X) (k : ℕ) → position p xs ≡ Some k → slice_get xs k ≡ find p xs
found_at p xs k e = grind (arith, common_steps, find_at)

pub found_nowhere : {X : Type 0} (p : X → Bool) (xs : List X) → position p xs ≡ None → find p xs ≡ None
found_nowhere p xs e = find_at p xs ∙ slice_get_past xs (position_or_len p xs) (grind (arith, common_steps))

-- a list with one element more at its end
pub enumerated_more : {X : Type 0} (n : ℕ) (xs : List X) (x : X) → enumerate_from n (xs ++ x ∷ []) ≡ enumerate_from n xs ++ (n + length xs, x) ∷ []
enumerated_more n [] x = ap (λ k. (k, x) ∷ []) (omega arith)
enumerated_more n (y ∷ ys) x = ap (λ l. (n, y) ∷ l) (enumerated_more (n + 1) ys x ∙ ap (λ k. enumerate_from (n + 1) ys ++ (k, x) ∷ []) (omega arith))

pub places_push : {X : Type 0} (p : X → Bool) (xs : List X) (x : X) → places p (xs ++ x ∷ []) ≡ places p xs ++ (if p x then length xs ∷ [] else [])
places_push p xs x =
    ap (flat_map (λ entry. if p entry.1 then entry.0 ∷ [] else [])) (enumerated_more 0 xs x)
    ∙ (flat_map-append (λ entry. if p entry.1 then entry.0 ∷ [] else []) (enumerate_from 0 xs) ((0 + length xs, x) ∷ [])
    ∙ (ap (λ k. places p xs ++ ((if p x then k ∷ [] else []) ++ [])) (omega arith)
    ∙ ap (λ l. places p xs ++ l) (append-nil (if p x then length xs ∷ [] else []))))

pub places_more : {X : Type 0} (p : X → Bool) (xs : List X) (i : ℕ) (x : X) → i < length xs → x ≡ get_or xs i x → places p (take (i + 1) xs) ≡ places p (take i xs) ++ (if p x then i ∷ [] else [])
places_more p xs i x h e =
    ap (places p) (take_more xs i x h ∙ ap (λ y. take i xs ++ y ∷ []) (sym e))
    ∙ (places_push p (take i xs) x ∙ ap (λ k. places p (take i xs) ++ (if p x then k ∷ [] else [])) (length-take-le i xs (omega arith)))

-- a walk over a list that gathers the places
pub place_taken : {X : Type 0} (p : X → Bool) (xs : List X) (i : ℕ) (x : X) (found next : List ℕ) → i < length xs → x ≡ get_or xs i x → found ≡ places p (take i xs) → p x ≡ true → next ≡ found ++ i ∷ [] → next ≡ places p (take (i + 1) xs)
place_taken p xs i x found next h e before passes more =
    more ∙ (ap (λ l. l ++ i ∷ []) before ∙ sym (places_more p xs i x h e ∙ ap (λ b. places p (take i xs) ++ (if b then i ∷ [] else [])) passes))

pub place_left : {X : Type 0} (p : X → Bool) (xs : List X) (i : ℕ) (x : X) (found next : List ℕ) → i < length xs → x ≡ get_or xs i x → found ≡ places p (take i xs) → p x ≡ false → next ≡ found → next ≡ places p (take (i + 1) xs)
place_left p xs i x found next h e before fails same =
    same ∙ (before ∙ sym (places_more p xs i x h e ∙ (ap (λ b. places p (take i xs) ++ (if b then i ∷ [] else [])) fails ∙ append-nil (places p (take i xs)))))

pub place_or_end : {X : Type 0} (p : X → Bool) (xs : List X) → unwrap_or (position p xs) (length xs) ≡ position_or_len p xs
place_or_end p xs = grind (arith, common_steps, prefix_len-le-length (λ x. not (p x)) xs)

pub place_within : {X : Type 0} (p : X → Bool) (xs : List X) → position_or_len p xs ≤ length xs
place_within p xs = prefix_len-le-length (λ x. not (p x)) xs

-- the first place of all is that of the first element that passes
first_from : {X : Type 0} (n : ℕ) (p : X → Bool) (xs : List X) → slice_get (flat_map (λ entry. if p entry.1 then entry.0 ∷ [] else []) (enumerate_from n xs)) 0 ≡ position_from p n xs
first_from n p [] = refl
first_from n p (x ∷ xs) = by (p x) (first_from (n + 1) p xs)
  where
    by : (b : Bool) → slice_get (flat_map (λ entry. if p entry.1 then entry.0 ∷ [] else []) (enumerate_from (n + 1) xs)) 0 ≡ position_from p (n + 1) xs → slice_get ((if b then n ∷ [] else []) ++ flat_map (λ entry. if p entry.1 then entry.0 ∷ [] else []) (enumerate_from (n + 1) xs)) 0 ≡ cond b (Some n) (position_from p (n + 1) xs)
    by true rest = refl
    by false rest = rest

pub first_place : {X : Type 0} (p : X → Bool) (xs : List X) → slice_get (places p xs) 0 ≡ position p xs
first_place p xs = first_from 0 p xs ∙ sym (position_from-zero p xs)

pub found_first : {X : Type 0} (p : X → Bool) (xs : List X) (k : ℕ) → slice_get (places p xs) 0 ≡ Some k → slice_get xs k ≡ find p xs
found_first p xs k e = found_at p xs k (sym (first_place p xs) ∙ e)

pub found_none : {X : Type 0} (p : X → Bool) (xs : List X) → slice_get (places p xs) 0 ≡ None → find p xs ≡ None
found_none p xs e = found_nowhere p xs (sym (first_place p xs) ∙ e)

-- another element in the place of one, which passes where that one does
set_from : {X : Type 0} (n : ℕ) (p : X → Bool) (xs : List X) (k : ℕ) (x y : X) → slice_get xs k ≡ Some x → p y ≡ p x → flat_map (λ entry. if p entry.1 then entry.0 ∷ [] else []) (enumerate_from n (slice_set xs k y)) ≡ flat_map (λ entry. if p entry.1 then entry.0 ∷ [] else []) (enumerate_from n xs)
set_from n p [] k x y h e = refl
set_from n p (z ∷ zs) zero x y h e =
    let same : z ≡ x = cc in
    ap (λ b. (if b then n ∷ [] else []) ++ flat_map (λ entry. if p entry.1 then entry.0 ∷ [] else []) (enumerate_from (n + 1) zs)) (e ∙ ap p (sym same))
set_from n p (z ∷ zs) (suc k) x y h e = ap (λ l. (if p z then n ∷ [] else []) ++ l) (set_from (n + 1) p zs k x y h e)

pub places_set : {X : Type 0} (p : X → Bool) (xs : List X) (k : ℕ) (x y : X) → slice_get xs k ≡ Some x → p y ≡ p x → places p (slice_set xs k y) ≡ places p xs
places_set p xs k x y h e = set_from 0 p xs k x y h e
