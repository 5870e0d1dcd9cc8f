-- The kinds of the columns of a foreign key, pair by pair.
use Rattle.std.proofs.Common.{◌≡◌, ℕ, List, [], ◌∷◌, ◌&&◌, refl, ap, zip}
use Rattle.std.specs.List.{list_all}
use Rattle.aq_base.specs.Names.{Text}
use Rattle.aq_base.specs.declared.catalog.Column.{Column}
use Rattle.aq_setup.specs.References.{all_kinds_fit}
use Rattle.aq_tables.specs.Pairs.{fit_at}

pub all_fit_as_kinds : (child : List Column) (names : List Text) (parent : List Column) (numbers : List ℕ) → list_all (fit_at child parent) (zip names numbers) ≡ all_kinds_fit child names parent numbers
all_fit_as_kinds child [] parent numbers = refl
all_fit_as_kinds child (name ∷ names) parent [] = refl
all_fit_as_kinds child (name ∷ names) parent (number ∷ numbers) = ap (λ others. fit_at child parent (name, number) && others) (all_fit_as_kinds child names parent numbers)
