-- The places of names in a list, found by the name.
use Rattle.std.specs.Prelude.{ℕ, ◌≡◌, ◌-◌, Bool, false, List, [], Option, Some, None, length, take, unwrap_or}
use Rattle.std.specs.Map.{lookup}
use Rattle.aq_base.specs.Names.{Text, same_text}
use Rattle.aq_catalog.specs.Catalogs.{places}

abbrev pub places_under : List (Text × List ℕ) → Text → List ℕ
places_under entries name = unwrap_or (lookup (same_text name) entries) []

-- the list without its last element
abbrev pub front : List ℕ → List ℕ
front xs = take (length xs - 1) xs

-- each name has its places
abbrev pub IsIndexed : {X : Type 0} → (X → Text) → List X → List (Text × List ℕ) → Type 0
IsIndexed name_of xs entries = (name : Text) → places_under entries name ≡ places (λ x. same_text (name_of x) name) xs

-- whether there is something, and it passes a test
abbrev pub passes : {X : Type 0} → (X → Bool) → Option X → Bool
passes test None = false
passes test (Some x) = test x
