-- What is found in a run of numbers, and in the sets of sessions.
use Rattle.std.proofs.Common.{not, is_some, ◌≡◌, ◌≢◌, inl, inr, ℕ, zero, suc, ◌+◌, ◌<◌, ◌≤◌, Bool, true, false, ◌&&◌, ◌||◌, ◌==◌, cond, List, [], ◌∷◌, Some, None, refl, sym, ap, ◌∙◌, arith}
use Rattle.std.specs.List.{find, filter, list_any, range_with_len}
use Rattle.std.proofs.lemmas.Bool.{cases_eq}
use Rattle.std.proofs.lemmas.Bool.Decides.{nat_tests}
use Rattle.aq_xids.specs.Sets.{has, all_sessions, members, is_nil}

pub find-range : (p : ℕ → Bool) (a n k : ℕ) → a ≤ k → k < a + n → ((j : ℕ) → a ≤ j → j < k → p j ≡ false) → p k ≡ true → find p (range_with_len a n) ≡ Some k
find-range p a zero k low high before here = absurd (omega arith)
find-range p a (suc n) k low high before here = elim (cases_eq k a) [
  | inl e ↦ let at : p a ≡ true = ap p (sym e) ∙ here in rw at (ap Some (sym e))
  | inr other ↦ let first : p a ≡ false = before a (omega arith) (omega arith) in
      rw first (find-range p (a + 1) n k (omega arith) (omega arith) (λ j l h. before j (omega arith) h) here)
]

pub find-range_none : (p : ℕ → Bool) (a n : ℕ) → ((j : ℕ) → a ≤ j → j < a + n → p j ≡ false) → find p (range_with_len a n) ≡ None
find-range_none p a zero none = refl
find-range_none p a (suc n) none =
    let first : p a ≡ false = none a (omega arith) (omega arith) in
    rw first (find-range_none p (a + 1) n (λ j l h. none j (omega arith) (omega arith)))

pub find-sessions : (p : ℕ → Bool) (k : ℕ) → k < 16 → ((j : ℕ) → j < k → p j ≡ false) → p k ≡ true → find p all_sessions ≡ Some k
unfolding all_sessions
find-sessions p k high before here = find-range p 0 16 k (omega arith) (omega arith) (λ j l h. before j h) here

pub find-sessions_none : (p : ℕ → Bool) → ((j : ℕ) → j < 16 → p j ≡ false) → find p all_sessions ≡ None
unfolding all_sessions
find-sessions_none p none = find-range_none p 0 16 (λ j l h. none j (omega arith))

filter-range_same : (p q : ℕ → Bool) (a n : ℕ) → ((j : ℕ) → j < a + n → p j ≡ q j) → filter p (range_with_len a n) ≡ filter q (range_with_len a n)
filter-range_same p q a zero same = refl
filter-range_same p q a (suc n) same =
    rw (same a (omega arith), filter-range_same p q (a + 1) n (λ j h. same j (omega arith))) refl

-- a set in which are those that pass a test
pub members_by : (bits : ℕ) (p : ℕ → Bool) → ((j : ℕ) → j < 16 → has bits j ≡ p j) → members bits ≡ filter p all_sessions
unfolding members all_sessions
members_by bits p same = filter-range_same (has bits) p 0 16 (λ j h. same j (omega arith))

pub find-filter : {X : Type 0} (p q : X → Bool) (xs : List X) → find p (filter q xs) ≡ find (λ x. q x && p x) xs
find-filter p q [] = refl
find-filter p q (x ∷ xs) = elim (q x) as (λ b. find p (cond b (x ∷ filter q xs) (filter q xs)) ≡ cond (b && p x) (Some x) (find (λ y. q y && p y) xs)) [
  | true ↦ ap (cond (p x) (Some x)) (find-filter p q xs)
  | false ↦ find-filter p q xs
]

list_any-cond : (p : ℕ → Bool) (b : Bool) (x : ℕ) (xs : List ℕ) → list_any p (cond b (x ∷ xs) xs) ≡ cond b (p x || list_any p xs) (list_any p xs)
list_any-cond p true x xs = refl
list_any-cond p false x xs = refl

and_false : (b : Bool) → (b && false) ≡ false
and_false true = refl
and_false false = refl

one_kept : (found passes more : Bool) → cond passes (found || (more && passes)) (more && passes) ≡ (found || more) && passes
one_kept true true more = refl
one_kept true false more = and_false more
one_kept false true more = refl
one_kept false false more = refl

other_kept : (b more : Bool) → cond b more more ≡ more
other_kept true more = refl
other_kept false more = refl

pub list_any-filter_eq : (q : ℕ → Bool) (n : ℕ) (xs : List ℕ) → list_any (λ m. m == n) (filter q xs) ≡ (list_any (λ m. m == n) xs && q n)
list_any-filter_eq q n [] = refl
list_any-filter_eq q n (x ∷ xs) =
    let split = list_any-cond (λ m. m == n) (q x) x (filter q xs) in
    let rest = list_any-filter_eq q n xs in
    split ∙ (ap (λ r. cond (q x) ((x == n) || r) r) rest ∙ elim (cases_eq x n) [
      | inl e ↦ let same : q x ≡ q n = ap q e in rw same (one_kept (x == n) (q n) (list_any (λ m. m == n) xs))
      | inr other ↦ let no : (x == n) ≡ false = grind (arith, nat_tests) in rw no (other_kept (q x) (list_any (λ m. m == n) xs && q n))
    ])

is_in_range : (a n k : ℕ) → a ≤ k → k < a + n → list_any (λ m. m == k) (range_with_len a n) ≡ true
is_in_range a zero k low high = absurd (omega arith)
is_in_range a (suc n) k low high = elim (cases_eq a k) [
  | inl e ↦ let yes : (a == k) ≡ true = grind (arith, nat_tests) in rw yes refl
  | inr other ↦ let no : (a == k) ≡ false = grind (arith, nat_tests) in rw no (is_in_range (a + 1) n k (omega arith) (omega arith))
]

-- a session is in the list of those that are in the set, where it is in the set
pub list_any-members : (bits k : ℕ) → k < 16 → list_any (λ m. m == k) (members bits) ≡ has bits k
unfolding members all_sessions
list_any-members bits k high = list_any-filter_eq (has bits) k (range_with_len 0 16) ∙ ap (λ b. b && has bits k) (is_in_range 0 16 k (omega arith) high)

find-range_same : (p q : ℕ → Bool) (a n : ℕ) → ((j : ℕ) → j < a + n → p j ≡ q j) → find p (range_with_len a n) ≡ find q (range_with_len a n)
find-range_same p q a zero same = refl
find-range_same p q a (suc n) same = rw (same a (omega arith), find-range_same p q (a + 1) n (λ j h. same j (omega arith))) refl

pub find-sessions_same : (p q : ℕ → Bool) → ((j : ℕ) → j < 16 → p j ≡ q j) → find p all_sessions ≡ find q all_sessions
unfolding all_sessions
find-sessions_same p q same = find-range_same p q 0 16 (λ j h. same j (omega arith))

members_found : (a : ℕ) (p : ℕ → Bool) → find p (members a) ≡ find (λ s. has a s && p s) all_sessions
unfolding members
members_found a p = find-filter p (has a) all_sessions

-- the first of a set that is in another one
pub find-members : (a b : ℕ) → find (λ s. list_any (λ m. m == s) (members b)) (members a) ≡ find (λ s. has a s && has b s) all_sessions
find-members a b =
    members_found a (λ s. list_any (λ m. m == s) (members b))
    ∙ find-sessions_same (λ s. has a s && list_any (λ m. m == s) (members b)) (λ s. has a s && has b s) (λ j h. ap (λ t. has a j && t) (list_any-members b j h))

none-range : (p : ℕ → Bool) (a n : ℕ) → ((j : ℕ) → a ≤ j → p j ≡ false) → filter p (range_with_len a n) ≡ []
none-range p a zero fails = refl
none-range p a (suc n) fails = rw (fails a (omega arith)) (none-range p (a + 1) n (λ j l. fails j (omega arith)))

single-range : (p : ℕ → Bool) (a n k : ℕ) → a ≤ k → k < a + n → p k ≡ true → ((j : ℕ) → j ≢ k → p j ≡ false) → filter p (range_with_len a n) ≡ k ∷ []
single-range p a zero k low high holds fails = absurd (omega arith)
single-range p a (suc n) k low high holds fails = elim (cases_eq a k) [
  | inl e ↦ let here : p a ≡ true = ap p e ∙ holds in rw here (ap (λ rest. a ∷ rest) (none-range p (a + 1) n (λ j l. fails j (λ (f : j ≡ k). omega arith))) ∙ ap (λ x. x ∷ []) e)
  | inr other ↦ rw (fails a other) (single-range p (a + 1) n k (omega arith) (omega arith) holds fails)
]

-- the set of one session
pub members_single : (bits k : ℕ) → k < 16 → has bits k ≡ true → ((j : ℕ) → j ≢ k → has bits j ≡ false) → members bits ≡ k ∷ []
unfolding members all_sessions
members_single bits k high holds fails = single-range (has bits) 0 16 k (omega arith) high holds fails

-- the first that is in a list itself
pub find_itself : (xs : List ℕ) → not (is_some (find (λ s. list_any (λ m. m == s) xs) xs)) ≡ is_nil xs
find_itself [] = refl
find_itself (x ∷ xs) = let here : (x == x) ≡ true = grind (arith, nat_tests) in rw here refl
