-- Whether something that stands at one of some places passes a test.
use Rattle.std.proofs.Common.{◌≡◌, refl, ap, sym, ◌∙◌, subst, arith, ℕ, zero, suc, ◌+◌, ◌<◌, ◌==◌, ◌&&◌, ◌||◌, Bool, true, false, cond, List, [], ◌∷◌, ◌++◌, Some, length, slice_get, option_map, is_some, if◌then◌else◌, append_assoc, filter, map}
use Rattle.std.specs.List.{list_any, enumerate_from, flat_map, find}
use Rattle.std.specs.Cmp.Lexicographic.{same_text as texts_same}
use Rattle.std.proofs.lemmas.Bool.Decides.{nat_tests}
use Rattle.std.proofs.lemmas.List.{length_push}
use Rattle.aq_base.proofs.Lists.{slice_get-behind}
use Rattle.aq_base.specs.Names.{Text, same_text}
use Rattle.aq_catalog.specs.Catalogs.{places, is_number_in}
use Rattle.aq_catalog.specs.Indexed.{passes}
use Rattle.aq_catalog.proofs.FirstFound.{any_of_images}

-- ---- at the places of what passes another test

any_from : {X : Type 0} (q p : X → Bool) (front xs : List X)
    → list_any (λ n. passes q (slice_get (front ++ xs) n)) (flat_map (λ entry. if p entry.1 then entry.0 ∷ [] else []) (enumerate_from (length front) xs))
    ≡ list_any (λ x. p x && q x) xs
any_from q p front [] = refl
any_from q p front (x ∷ xs) =
    by (p x)
    (subst (λ l. list_any (λ n. passes q (slice_get l n)) (flat_map (λ entry. if p entry.1 then entry.0 ∷ [] else []) (enumerate_from (length front + 1) xs)) ≡ list_any (λ y. p y && q y) xs) (append_assoc front (x ∷ []) xs)
    (subst (λ k. list_any (λ n. passes q (slice_get ((front ++ x ∷ []) ++ xs) n)) (flat_map (λ entry. if p entry.1 then entry.0 ∷ [] else []) (enumerate_from k xs)) ≡ list_any (λ y. p y && q y) xs) (length_push front x)
    (any_from q p (front ++ x ∷ []) xs)))
  where
    by : (b : Bool)
        → list_any (λ n. passes q (slice_get (front ++ x ∷ xs) n)) (flat_map (λ entry. if p entry.1 then entry.0 ∷ [] else []) (enumerate_from (length front + 1) xs)) ≡ list_any (λ y. p y && q y) xs
        → list_any (λ n. passes q (slice_get (front ++ x ∷ xs) n)) ((if b then length front ∷ [] else []) ++ flat_map (λ entry. if p entry.1 then entry.0 ∷ [] else []) (enumerate_from (length front + 1) xs))
        ≡ ((b && q x) || list_any (λ y. p y && q y) xs)
    by true rest =
        ap (λ o. passes q o || list_any (λ n. passes q (slice_get (front ++ x ∷ xs) n)) (flat_map (λ entry. if p entry.1 then entry.0 ∷ [] else []) (enumerate_from (length front + 1) xs))) (slice_get-behind front x xs)
        ∙ ap (λ r. q x || r) rest
    by false rest = rest

any_at_places : {X : Type 0} (q p : X → Bool) (xs : List X) → list_any (λ n. passes q (slice_get xs n)) (places p xs) ≡ list_any (λ x. p x && q x) xs
any_at_places q p xs = any_from q p [] xs

-- ---- at the places of a name

pub text_order : (a b : Text) → same_text a b ≡ same_text b a
text_order a b = by (same_text a b) (same_text b a) refl refl
  where
    by : (x y : Bool) → same_text a b ≡ x → same_text b a ≡ y → same_text a b ≡ same_text b a
    by true y e f = let is : a ≡ b = texts_same a b (sym e) in λ i. same_text (is i) (sym is i)
    by false true e f = let is : b ≡ a = texts_same b a (sym f) in λ i. same_text (sym is i) (is i)
    by false false e f = e ∙ sym f

and_order : (a b : Bool) → (a && b) ≡ (b && a)
and_order true true = refl
and_order true false = refl
and_order false true = refl
and_order false false = refl

pub any_named : {X : Type 0} (q : X → Bool) (name_of : X → Text) (name : Text) (xs : List X)
    → list_any (λ n. passes q (slice_get xs n)) (places (λ x. same_text (name_of x) name) xs) ≡ list_any (same_text name) (map name_of (filter q xs))
any_named {X = X} q name_of name xs =
    any_at_places q (λ x. same_text (name_of x) name) xs
    ∙ ap (λ (test : X → Bool). list_any test xs) (λ i x. (ap (λ b. b && q x) (text_order (name_of x) name) ∙ and_order (same_text name (name_of x)) (q x)) i)
    ∙ sym (any_of_images (same_text name) name_of q xs)

-- ---- at some numbers

any_never : {X : Type 0} (xs : List X) → list_any (λ x. false) xs ≡ false
any_never [] = refl
any_never (x ∷ xs) = any_never xs

either_moves : (a b c r s : Bool) → (((a || b) && c) || (r || s)) ≡ (((a && c) || r) || ((b && c) || s))
either_moves true true true r s = refl
either_moves true true false true s = refl
either_moves true true false false s = refl
either_moves true false true r s = refl
either_moves true false false true s = refl
either_moves true false false false s = refl
either_moves false true true true s = refl
either_moves false true true false s = refl
either_moves false true false true s = refl
either_moves false true false false s = refl
either_moves false false true true s = refl
either_moves false false true false s = refl
either_moves false false false true s = refl
either_moves false false false false s = refl

any_of_either : {X : Type 0} (a b c : X → Bool) (xs : List X) → list_any (λ x. (a x || b x) && c x) xs ≡ (list_any (λ x. a x && c x) xs || list_any (λ x. b x && c x) xs)
any_of_either a b c [] = refl
any_of_either a b c (x ∷ xs) =
    ap (λ r. ((a x || b x) && c x) || r) (any_of_either a b c xs) ∙ either_moves (a x) (b x) (c x) (list_any (λ y. a y && c y) xs) (list_any (λ y. b y && c y) xs)

none_behind : {X : Type 0} (q : X → Bool) (m n : ℕ) (xs : List X) → m < n → list_any (λ entry. (m == entry.0) && q entry.1) (enumerate_from n xs) ≡ false
none_behind q m n [] h = refl
none_behind q m n (x ∷ xs) h =
    let other : (m == n) ≡ false = grind (arith, nat_tests) in
    ap (λ b. (b && q x) || list_any (λ entry. (m == entry.0) && q entry.1) (enumerate_from (n + 1) xs)) other ∙ none_behind q m (n + 1) xs (omega arith)

or_none : (a : Bool) → (a || false) ≡ a
or_none true = refl
or_none false = refl

any_under : {X : Type 0} (q : X → Bool) (n m : ℕ) (xs : List X) → list_any (λ entry. ((n + m) == entry.0) && q entry.1) (enumerate_from n xs) ≡ passes q (slice_get xs m)
any_under q n m [] = refl
any_under q n zero (x ∷ xs) =
    let here : ((n + 0) == n) ≡ true = grind (arith, nat_tests) in
    ap (λ b. (b && q x) || list_any (λ entry. ((n + 0) == entry.0) && q entry.1) (enumerate_from (n + 1) xs)) here
    ∙ ap (λ r. q x || r) (none_behind q (n + 0) (n + 1) xs (omega arith))
    ∙ or_none (q x)
any_under q n (suc m) (x ∷ xs) =
    let other : ((n + suc m) == n) ≡ false = grind (arith, nat_tests) in
    let up : n + suc m ≡ (n + 1) + m = omega arith in
    ap (λ b. (b && q x) || list_any (λ entry. ((n + suc m) == entry.0) && q entry.1) (enumerate_from (n + 1) xs)) other
    ∙ ap (λ k. list_any (λ entry. (k == entry.0) && q entry.1) (enumerate_from (n + 1) xs)) up
    ∙ any_under q (n + 1) m xs

any_numbered : {X : Type 0} (q : X → Bool) (numbers : List ℕ) (xs : List X)
    → list_any (λ entry. is_number_in numbers entry.0 && q entry.1) (enumerate_from 0 xs) ≡ list_any (λ n. passes q (slice_get xs n)) numbers
any_numbered q [] xs = any_never (enumerate_from 0 xs)
any_numbered q (m ∷ numbers) xs =
    let same : 0 + m ≡ m = omega arith in
    any_of_either (λ entry. m == entry.0) (λ entry. is_number_in numbers entry.0) (λ entry. q entry.1) (enumerate_from 0 xs)
    ∙ ap (λ b. b || list_any (λ entry. is_number_in numbers entry.0 && q entry.1) (enumerate_from 0 xs))
    (ap (λ k. list_any (λ entry. (k == entry.0) && q entry.1) (enumerate_from 0 xs)) (sym same) ∙ any_under q 0 m xs)
    ∙ ap (λ b. passes q (slice_get xs m) || b) (any_numbered q numbers xs)

some_found : {X Y : Type 0} (f : X → Y) (test : X → Bool) (xs : List X) → is_some (option_map f (find test xs)) ≡ list_any test xs
some_found f test [] = refl
some_found f test (x ∷ xs) = by (test x) (some_found f test xs)
  where
    by : (b : Bool) → is_some (option_map f (find test xs)) ≡ list_any test xs → is_some (option_map f (cond b (Some x) (find test xs))) ≡ (b || list_any test xs)
    by true rest = refl
    by false rest = rest

pub any_at_numbers : {X Y : Type 0} (f : ℕ × X → Y) (q : X → Bool) (numbers : List ℕ) (xs : List X)
    → is_some (option_map f (find (λ entry. is_number_in numbers entry.0 && q entry.1) (enumerate_from 0 xs))) ≡ list_any (λ n. passes q (slice_get xs n)) numbers
any_at_numbers f q numbers xs =
    some_found f (λ entry. is_number_in numbers entry.0 && q entry.1) (enumerate_from 0 xs) ∙ any_numbered q numbers xs
