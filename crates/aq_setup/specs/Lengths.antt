-- The faults of the lengths in a statement whose names are there: columns that are assigned twice, rows of VALUES of unequal length, more
-- values than columns, fewer values than named columns (PostgreSQL source, analyze.c, transformInsertStmt; rewriteHandler.c, process_matched_tle).
use Rattle.std.specs.Prelude.{ℕ, List, [], ◌∷◌, ◌++◌, ◌==◌, Option, Some, None, if◌then◌else◌, length, map, nat_lt}
use Rattle.std.specs.List.{list_all}
use Rattle.aq_base.specs.Names.{Text}
use Rattle.aq_base.specs.declared.fault.SqlFault.{SqlFault}
use Rattle.aq_base.specs.declared.data.Given.{Given}
use Rattle.aq_base.specs.declared.data.Source.{Source}
use Rattle.aq_base.specs.declared.data.Source.TheVariants as sources
use Rattle.aq_base.specs.declared.data.Insert.{Insert}
use Rattle.aq_base.specs.declared.data.Update.{Update}
use Rattle.aq_base.specs.declared.catalog.Column.{Column}
use Rattle.aq_catalog.specs.Catalogs.{table_columns}
use Rattle.aq_setup.specs.Scopes.{Setting, repeats}
use Rattle.aq_refusals.specs.Faults.{assigned_twice, unequal_rows, many_values, few_values}

-- all rows are as long as the first
abbrev pub row_lengths : List (List Given) → List SqlFault
row_lengths [] = []
row_lengths (first ∷ others) = if list_all (λ row. length row == length first) others then [] else unequal_rows ∷ []

-- so many values for the columns of the table, or for those that are named
abbrev pub value_count : List Column → Option (List Text) → ℕ → List SqlFault
value_count cols None count = if nat_lt (length cols) count then many_values ∷ [] else []
value_count cols (Some names) count =
    if nat_lt (length names) count then many_values ∷ [] else (if nat_lt count (length names) then few_values ∷ [] else [])

abbrev pub first_length : List (List Given) → ℕ
first_length [] = 0
first_length (first ∷ others) = length first

abbrev pub source_lengths : List Column → Option (List Text) → Source → List SqlFault
source_lengths cols names (sources.Values rows) = row_lengths rows ++ value_count cols names (first_length rows)
source_lengths cols names (sources.Query values table condition) = value_count cols names (length values)

abbrev pub insert_lengths : Setting → Insert → List SqlFault
insert_lengths setting s = source_lengths (table_columns setting.catalog s.table) s.columns s.source

abbrev pub update_lengths : Update → List SqlFault
update_lengths s = map assigned_twice (repeats (map (λ a. a.column) s.assignments))
