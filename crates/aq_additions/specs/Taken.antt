-- The names that the constraints of a table have, and those that a statement adds.
use Rattle.std.specs.Prelude.{ℕ, ◌≡◌, ◌≤◌, ◌&&◌, List, Option, Some, if◌then◌else◌, is_some, unwrap_or}
use Rattle.std.specs.List.{list_any}
use Rattle.std.specs.Map.{lookup}
use Rattle.aq_base.specs.Names.{Text, same_text}
use Rattle.aq_catalog.specs.Numbered.{AreTaken}

-- the names in the index are those that were added
abbrev pub HasAdded : List (Text × ℕ) → List Text → Type 0
HasAdded entries added = (name : Text) → is_some (lookup (same_text name) entries) ≡ list_any (same_text name) added

-- below the number of a name in the index there is none that is free
abbrev pub IsSearched : List (Text × ℕ) → List Text → Type 0
IsSearched entries taken = (name : Text) (n : ℕ) → lookup (same_text name) entries ≡ Some n → (1 ≤ n) × AreTaken taken name n

-- what an index has under q once a name is entered with the number 1, unless it has the name
abbrev pub entered : Text → List (Text × ℕ) → Text → Option ℕ
entered name entries q = if same_text name q then Some (unwrap_or (lookup (same_text q) entries) 1) else lookup (same_text q) entries

-- what it has under q once a name that it has gets another number
abbrev pub renumbered : Text → ℕ → List (Text × ℕ) → Text → Option ℕ
renumbered name number entries q =
    if same_text name q && is_some (lookup (same_text q) entries) then Some number else lookup (same_text q) entries
