-- Finite maps from numbers, as lists of entries whose keys rise.
use Rattle.std.specs.Prelude.{ℕ, List, Option, ◌==◌, not}
use Rattle.std.specs.Ordering.{nat_cmp}
use Rattle.std.proofs.Math.Dec.{T}
use Rattle.std.specs.FinMap.Entries.{find, put, where_key, is_sorted}

-- what the map has at a number
abbrev pub at : {X : Type 0} → ℕ → List (ℕ × X) → Option X
at n entries = find nat_cmp n entries

-- the map without what it has at a number
abbrev pub without : {X : Type 0} → ℕ → List (ℕ × X) → List (ℕ × X)
without n entries = where_key nat_cmp (λ k. not (k == n)) entries

-- the map with a value at a number, and the rest as it was
abbrev pub with_at : {X : Type 0} → ℕ → X → List (ℕ × X) → List (ℕ × X)
with_at n x entries = put nat_cmp n x entries

-- the numbers rise, so that each stands once
abbrev pub KeysRise : {X : Type 0} → List (ℕ × X) → Type 0
KeysRise entries = T (is_sorted nat_cmp entries)
