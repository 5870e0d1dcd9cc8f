-- What a catalog had at a mark, and a change of a table.
use Rattle.std.specs.Prelude.{ℕ, List, Some, None, length, take, slice_get, slice_set}
use Rattle.aq_base.specs.declared.catalog.Table.{Table}
use Rattle.aq_catalog.specs.Catalogs.{Catalog}
use Rattle.aq_catalog.specs.declared.mark.Mark.{Mark}

abbrev pub mark_of : Catalog → Mark
mark_of cat =
    record { tables = length cat.tables; keys = length cat.keys; primaries = length cat.primaries; fks = length cat.fks; constraints = length cat.constraints; functions = length cat.functions; triggers = length cat.triggers }

-- the catalog without what was added behind the mark
abbrev pub shortened : Mark → Catalog → Catalog
shortened m cat =
    record { tables = take m.tables cat.tables; keys = take m.keys cat.keys; primaries = take m.primaries cat.primaries; fks = take m.fks cat.fks; constraints = take m.constraints cat.constraints; functions = take m.functions cat.functions; triggers = take m.triggers cat.triggers }

-- other columns that hold no null in a table; the same where there is no such table
abbrev pub with_columns_at : ℕ → List ℕ → List Table → List Table
with_columns_at table cols tables =
    elim (slice_get tables table) [
      | None ↦ tables
      | Some t ↦ slice_set tables table (record t { not_null = cols })
    ]

abbrev pub with_columns_not_null : ℕ → List ℕ → Catalog → Catalog
with_columns_not_null table cols cat = record cat { tables = with_columns_at table cols cat.tables }
