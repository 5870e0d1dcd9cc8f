-- The columns of a foreign key, each with the one that it refers to.
use Rattle.std.specs.Prelude.{ℕ, Bool, List, option_map, slice_get}
use Rattle.aq_base.specs.Names.{Text}
use Rattle.aq_base.specs.declared.catalog.Column.{Column}
use Rattle.aq_catalog.specs.Catalogs.{number_of_column}
use Rattle.aq_setup.specs.References.{kinds_fit}

-- a column's name, and the number of the one that it refers to
abbrev pub fit_at : List Column → List Column → Text × ℕ → Bool
fit_at child parent pair =
    kinds_fit (option_map (λ col. col.kind) (slice_get child (number_of_column child pair.0))) (option_map (λ col. col.kind) (slice_get parent pair.1))
