-- What stands at the places of a list that pass a test.
use Rattle.std.proofs.Common.{◌≡◌, ℕ, ◌+◌, Bool, true, false, cond, if◌then◌else◌, List, [], ◌∷◌, ◌++◌, length, slice_get, Some, find, refl, subst, append_assoc}
use Rattle.std.specs.List.{enumerate_from, flat_map}
use Rattle.std.proofs.lemmas.List.{length_push}
use Rattle.std.proofs.lemmas.Option.{same_Some, none-some}
use Rattle.aq_catalog.specs.Catalogs.{places}
use Rattle.aq_base.proofs.Lists.{slice_get-behind}

-- an element that passes stands at a place
pub record StandsAt {X : Type 0} (p : X → Bool) (xs : List X) (place : ℕ) : Type 0 where
  pub element : X
  pub stands : slice_get xs place ≡ Some element
  pub passes : p element ≡ true

abbrev AllStand : {X : Type 0} → (X → Bool) → List X → List ℕ → Type 0
AllStand p xs [] = Unit {0}
AllStand p xs (place ∷ others) = StandsAt p xs place × AllStand p xs others

all_stand : {X : Type 0} (p : X → Bool) (front xs : List X) → AllStand p (front ++ xs) (flat_map (λ entry. if p entry.1 then entry.0 ∷ [] else []) (enumerate_from (length front) xs))
all_stand p front [] = tt
all_stand p front (x ∷ xs) =
    by (p x) refl
    (subst (λ l. AllStand p l (flat_map (λ entry. if p entry.1 then entry.0 ∷ [] else []) (enumerate_from (length front + 1) xs))) (append_assoc front (x ∷ []) xs)
    (subst (λ n. AllStand p ((front ++ x ∷ []) ++ xs) (flat_map (λ entry. if p entry.1 then entry.0 ∷ [] else []) (enumerate_from n xs))) (length_push front x) (all_stand p (front ++ x ∷ []) xs)))
  where
    by : (b : Bool) → p x ≡ b → AllStand p (front ++ x ∷ xs) (flat_map (λ entry. if p entry.1 then entry.0 ∷ [] else []) (enumerate_from (length front + 1) xs))
        → AllStand p (front ++ x ∷ xs) ((if b then length front ∷ [] else []) ++ flat_map (λ entry. if p entry.1 then entry.0 ∷ [] else []) (enumerate_from (length front + 1) xs))
    by true e later = (record { element = x; stands = slice_get-behind front x xs; passes = e }, later)
    by false e later = later

found_among : {X : Type 0} (p : X → Bool) (xs : List X) (test : ℕ → Bool) (among : List ℕ) (place : ℕ) → AllStand p xs among → find test among ≡ Some place → StandsAt p xs place × (test place ≡ true)
found_among p xs test [] place all e = absurd (none-some place e)
found_among p xs test (next ∷ others) place all e = by (test next) refl e (found_among p xs test others place all.1)
  where
    by : (b : Bool) → test next ≡ b → cond b (Some next) (find test others) ≡ Some place → (find test others ≡ Some place → StandsAt p xs place × (test place ≡ true)) → StandsAt p xs place × (test place ≡ true)
    by true passes is later = subst (λ n. StandsAt p xs n × (test n ≡ true)) (same_Some next place is) (all.0, passes)
    by false fails is later = later is

pub found_in_places : {X : Type 0} (p : X → Bool) (xs : List X) (test : ℕ → Bool) (place : ℕ) → find test (places p xs) ≡ Some place → StandsAt p xs place × (test place ≡ true)
found_in_places p xs test place e = found_among p xs test (places p xs) place (all_stand p [] xs) e
