-- The numbers at which the search for a free name of a constraint begins.
use Rattle.std.specs.Prelude.{ℕ, Bool, true, ◌≡◌, ◌<◌, ◌≤◌, ◌==◌, ◌++◌, List, Some, length, slice_get, slice_index_or}
use Rattle.std.specs.List.{list_any}
use Rattle.std.specs.Fmt.{decimal}
use Rattle.aq_base.specs.Names.{Text, same_text}
use Rattle.aq_base.specs.declared.catalog.Constraint.{Constraint}
use Rattle.aq_catalog.specs.Catalogs.{names_in}
use Rattle.aq_catalog.specs.Indexed.{passes}

-- a name is taken with each number behind it that is less than another one, counted from 1
abbrev pub AreTaken : List Text → Text → ℕ → Type 0
AreTaken names name number = (k : ℕ) → 1 ≤ k → k < number → list_any (same_text (name ++ decimal k)) names ≡ true

-- whether a constraint of a table stands at a place
abbrev pub is_of : List Constraint → ℕ → ℕ → Bool
is_of constraints table place = passes (λ con. con.table == table) (slice_get constraints place)

-- each constraint has a number, and its table has the name of the constraint with each lesser one behind it
pub record IsNumbered (constraints : List Constraint) (numbers : List ℕ) : Type 0 where
  pub count : length numbers ≡ length constraints
  pub positive : (place : ℕ) → 1 ≤ slice_index_or numbers place 1
  pub lesser : (place : ℕ) (con : Constraint) → slice_get constraints place ≡ Some con → AreTaken (names_in constraints con.table) con.name (slice_index_or numbers place 1)
