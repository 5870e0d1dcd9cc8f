-- The columns that hold no null.
use Rattle.std.proofs.Common.{◌≡◌, ℕ, ◌+◌, Bool, true, ◌||◌, List, [], ◌∷◌, ◌++◌, map, refl, ap, sym, if◌then◌else◌}
use Rattle.std.specs.List.{flat_map, enumerate_from}
use Rattle.aq_base.specs.declared.catalog.Table.{Table}
use Rattle.aq_catalog.specs.Catalogs.{is_number_in}
use Rattle.aq_setup.specs.Tables.{without_nulls}
use Rattle.aq_additions.specs.Steps.{among_places}

abbrev all_places : {A : Type 0} → ℕ → List A → List ℕ
all_places n xs = flat_map (λ entry. if true then entry.0 ∷ [] else []) (enumerate_from n xs)

abbrev true_places : ℕ → List Bool → List ℕ
true_places n bs = flat_map (λ entry. if entry.1 then entry.0 ∷ [] else []) (enumerate_from n bs)

from_any : {A : Type 0} (test : ℕ → Bool) (n : ℕ) (xs : List A) → true_places n (map test (all_places n xs)) ≡ among_places test (enumerate_from n xs)
from_any test n [] = refl
from_any test n (x ∷ xs) = ap (λ l. (if test n then n ∷ [] else []) ++ l) (from_any test (n + 1) xs)

pub as_defined : (cols : List ℕ) (table : Table) → among_places (λ n. is_number_in table.not_null n || is_number_in cols n) (enumerate_from 0 table.cols) ≡ (without_nulls cols table).not_null
as_defined cols table = sym (from_any (λ n. is_number_in table.not_null n || is_number_in cols n) 0 table.cols)
