-- The search for a free name of a constraint ends, and finds the name of the definition.
use Rattle.std.proofs.Common.{◌≡◌, ℕ, zero, suc, ◌+◌, ◌^◌, ◌<◌, ◌≤◌, Bool, true, false, ◌||◌, if◌then◌else◌, List, [], ◌∷◌, ◌++◌, length, Some, unwrap_or, find, refl, ap, sym, ◌∙◌, subst, arith}
use Rattle.std.specs.List.{list_any}
use Rattle.std.specs.Fmt.{decimal}
use Rattle.std.specs.Cmp.Lexicographic.{same_text as texts_same}
use Rattle.std.proofs.lemmas.Bool.{false≢true}
use Rattle.std.proofs.lemmas.List.{append_cancel_left, length-append}
use Rattle.std.proofs.lemmas.Fmt.{decimal_injective, decimal_nonempty}
use Rattle.indexmap.proofs.IndexTableLemmas.Probe.{pigeonhole}
use Rattle.aq_base.specs.Names.{Text, same_text, is_apart_from}
use Rattle.aq_setup.specs.Constraints.{numbered, free_name}
use Rattle.aq_catalog.specs.Numbered.{AreTaken}

-- ---- texts that differ have different places in a list

abbrev place_of : Text → List Text → ℕ
place_of name [] = 0
place_of name (x ∷ xs) = if same_text name x then 0 else suc (place_of name xs)

within : (name : Text) (xs : List Text) → list_any (same_text name) xs ≡ true → place_of name xs < length xs
within name [] there = absurd (false≢true there)
within name (x ∷ xs) there = by (same_text name x) there (within name xs)
  where
    by : (b : Bool) → (b || list_any (same_text name) xs) ≡ true → (list_any (same_text name) xs ≡ true → place_of name xs < length xs) → (if b then 0 else suc (place_of name xs)) < suc (length xs)
    by true there deeper = omega arith
    by false there deeper = omega (arith, deeper there)

same_place : (a b : Text) (xs : List Text) → list_any (same_text a) xs ≡ true → list_any (same_text b) xs ≡ true → place_of a xs ≡ place_of b xs → a ≡ b
same_place a b [] in_a in_b same = absurd (false≢true in_a)
same_place a b (x ∷ xs) in_a in_b same = by (same_text a x) refl (same_text b x) refl in_a in_b same (same_place a b xs)
  where
    by : (at_a : Bool) → same_text a x ≡ at_a → (at_b : Bool) → same_text b x ≡ at_b → (at_a || list_any (same_text a) xs) ≡ true → (at_b || list_any (same_text b) xs) ≡ true
        → (if at_a then 0 else suc (place_of a xs)) ≡ (if at_b then 0 else suc (place_of b xs))
        → (list_any (same_text a) xs ≡ true → list_any (same_text b) xs ≡ true → place_of a xs ≡ place_of b xs → a ≡ b)
        → a ≡ b
    by true is_a true is_b in_a in_b same deeper = texts_same a x (sym is_a) ∙ sym (texts_same b x (sym is_b))
    by true is_a false is_b in_a in_b same deeper = absurd (omega (arith, same))
    by false is_a true is_b in_a in_b same deeper = absurd (omega (arith, same))
    by false is_a false is_b in_a in_b same deeper = deeper in_a in_b (omega (arith, same))

-- ---- a name alone, and with 1, 2 and so on behind it

abbrev with_number : Text → ℕ → Text
with_number name zero = name
with_number name (suc k) = name ++ decimal (suc k)

longer : (name : Text) (k : ℕ) → suc k < 2 ^ 64 → name ≡ name ++ decimal (suc k) → ⊥
longer name k small same = omega (arith, ap length same, length-append name (decimal (suc k)), decimal_nonempty (suc k) small)

numbers_differ : (name : Text) (i j : ℕ) → i < 2 ^ 64 → j < 2 ^ 64 → with_number name i ≡ with_number name j → i ≡ j
numbers_differ name zero zero small_i small_j same = refl
numbers_differ name zero (suc j) small_i small_j same = absurd (longer name j small_j same)
numbers_differ name (suc i) zero small_i small_j same = absurd (longer name i small_i (sym same))
numbers_differ name (suc i) (suc j) small_i small_j same =
    decimal_injective (suc i) (suc j) small_i small_j (append_cancel_left name (decimal (suc i)) (decimal (suc j)) same)

taken_at : (taken : List Text) (name : Text) (n k : ℕ) → list_any (same_text name) taken ≡ true → AreTaken taken name n → k < n → list_any (same_text (with_number name k)) taken ≡ true
taken_at taken name n zero itself lesser below = itself
taken_at taken name n (suc k) itself lesser below = lesser (suc k) (omega arith) below

-- so many names are in a list that is at least as long
pub taken_within : (taken : List Text) (name : Text) (n : ℕ) → n < 2 ^ 64 → list_any (same_text name) taken ≡ true → AreTaken taken name n → n ≤ length taken
taken_within taken name n small itself lesser =
    pigeonhole n (length taken) (λ k. place_of (with_number name k) taken)
    (λ k below. within (with_number name k) taken (taken_at taken name n k itself lesser below))
    (λ i j below_i below_j same.
    numbers_differ name i j (omega arith) (omega arith)
    (same_place (with_number name i) (with_number name j) taken (taken_at taken name n i itself lesser below_i) (taken_at taken name n j itself lesser below_j) same))

-- ---- the name that is found

taken_first : (taken : List Text) (name : Text) (names : List Text) → list_any (same_text name) taken ≡ true → find (is_apart_from taken) (name ∷ names) ≡ find (is_apart_from taken) names
taken_first taken name names h = rw h refl

free_first : (taken : List Text) (name : Text) (names : List Text) → list_any (same_text name) taken ≡ false → find (is_apart_from taken) (name ∷ names) ≡ Some name
free_first taken name names h = rw h refl

-- the number is so many above a
found_number : (taken : List Text) (name : Text) (n : ℕ) (names : List Text) (a more : ℕ) → n ≡ a + more → more < length names → 1 ≤ a → AreTaken taken name n
    → list_any (same_text (name ++ decimal n)) taken ≡ false → find (is_apart_from taken) (numbered name a names) ≡ Some (name ++ decimal n)
found_number taken name n [] a more is room positive lesser free = absurd (omega (arith, room))
found_number taken name n (x ∷ names) a zero is room positive lesser free =
    subst (λ m. find (is_apart_from taken) (numbered name m (x ∷ names)) ≡ Some (name ++ decimal n)) (omega (arith, is))
    (free_first taken (name ++ decimal n) (numbered name (n + 1) names) free)
found_number taken name n (x ∷ names) a (suc more) is room positive lesser free =
    taken_first taken (name ++ decimal a) (numbered name (a + 1) names) (lesser a positive (omega (arith, is)))
    ∙ found_number taken name n names (a + 1) more (omega (arith, is)) (omega (arith, room)) (omega arith) lesser free

pub free_numbered : (taken : List Text) (name : Text) (n : ℕ) → 1 ≤ n → n < 2 ^ 64 → list_any (same_text name) taken ≡ true → AreTaken taken name n
    → list_any (same_text (name ++ decimal n)) taken ≡ false → name ++ decimal n ≡ free_name taken name
free_numbered taken name zero positive small itself lesser free = absurd (omega (arith, positive))
free_numbered taken name (suc more) positive small itself lesser free =
    sym (ap (λ found. unwrap_or found name)
    (taken_first taken name (numbered name 1 taken) itself
    ∙ found_number taken name (suc more) taken 1 more (omega arith) (omega (arith, taken_within taken name (suc more) small itself lesser)) (omega arith) lesser free))
