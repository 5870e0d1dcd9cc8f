-- What a script of the first language keeps beside its form: names and limits.
use Rattle.std.specs.Prelude.{ℕ, ◌+◌, Bool, true, false, ◌&&◌, ◌==◌, List, [], ◌∷◌, length, map, Option, Some, None, is_none, is_some, count_by, sum_by, nat_lt, nat_le, slice_get}
use Rattle.std.specs.List.{list_all}
use Rattle.aq_base.specs.Values.{Row}
use Rattle.aq_base.specs.Names.{Text, is_name, is_short, all_differ, primary_key_name, foreign_key_name}
use Rattle.aq_first_base.specs.Catalogs.{Catalog}
use Rattle.aq_first_base.specs.Setup.{no_tables, table_number, referred, is_primary, adds_table, adds_keys, defines, catalog_of}
use Rattle.aq_first_base.specs.declared.catalog.Table.{Table}
use Rattle.aq_first_base.specs.declared.simple.SimpleConstraint.{SimpleConstraint}
use Rattle.aq_first_base.specs.declared.simple.SimpleConstraint.TheVariants.{PrimaryKey, References}
use Rattle.aq_first_base.specs.declared.simple.SimpleColumn.{SimpleColumn}
use Rattle.aq_first_base.specs.declared.simple.SimpleStatement.{SimpleStatement}
use Rattle.aq_first_base.specs.declared.simple.SimpleStatement.TheVariants.{CreateTable, Insert, Delete, Begin, Commit, Rollback}
use Rattle.aq_first_base.specs.declared.simple.SimplePlaced.{SimplePlaced}
use Rattle.aq_first_base.specs.declared.simple.SimpleSession.{SimpleSession}
use Rattle.aq_first_base.specs.declared.simple.SimpleScript.{SimpleScript}

abbrev pub is_reference : Option SimpleConstraint → Bool
is_reference None = false
is_reference (Some PrimaryKey) = false
is_reference (Some (References parent decl)) = true

-- a constraint has a name that is short enough, and REFERENCES a table with a primary key: an earlier one, or the same one
abbrev pub constraint_fits : Catalog → Text → Text → Option SimpleConstraint → Bool
constraint_fits cat table col None = true
constraint_fits cat table col (Some PrimaryKey) = is_short (primary_key_name table)
constraint_fits cat table col (Some (References parent decl)) =
    is_some (referred parent cat) && is_short (foreign_key_name table col)

abbrev pub column_fits : Catalog → Text → SimpleColumn → Bool
column_fits cat table item = constraint_fits cat table item.name item.constraint

-- the table and its keys, behind what was there before
abbrev pub with_keys : Catalog → Text → List SimpleColumn → Catalog
with_keys cat table items = adds_keys (length cat.tables) table 0 items (adds_table table items cat)

-- the table may be created after what is there: 64 tables, 32 columns and 128 foreign keys at the most, and one primary key
abbrev pub can_create : Catalog → Text → List SimpleColumn → Bool
can_create cat table items =
    is_none (table_number table cat) && nat_lt (length cat.tables) 64 && nat_le (length items) 32
    && all_differ (map (λ item. item.name) items) && list_all (column_fits (with_keys cat table items) table) items
    && nat_le (count_by (λ item. is_primary item.constraint) items) 1
    && nat_le (length cat.fks + count_by (λ item. is_reference item.constraint) items) 128

abbrev pub can_define : Catalog → SimpleStatement → Bool
can_define cat (CreateTable table items) = can_create cat table items
can_define cat (Insert table rows) = false
can_define cat (Delete table) = false
can_define cat Begin = false
can_define cat Commit = false
can_define cat Rollback = false

abbrev pub can_set_up : Catalog → List SimplePlaced → Bool
can_set_up cat [] = true
can_set_up cat (placed ∷ others) = can_define cat placed.statement && can_set_up (defines placed.statement cat) others

-- each row gives one value to each column
abbrev pub rows_fit : Option Table → List Row → Bool
rows_fit None rows = false
rows_fit (Some table) rows = list_all (λ (row : Row). length row == length table.cols) rows

abbrev pub table_named : Catalog → Text → Option Table
table_named cat name = on_number cat (table_number name cat)
  where
    on_number : Catalog → Option ℕ → Option Table
    on_number cat None = None
    on_number cat (Some number) = slice_get cat.tables number

abbrev pub can_run : Catalog → SimpleStatement → Bool
can_run cat (CreateTable table items) = false
can_run cat (Insert table rows) = rows_fit (table_named cat table) rows
can_run cat (Delete table) = is_some (table_number table cat)
can_run cat Begin = true
can_run cat Commit = true
can_run cat Rollback = true

abbrev pub session_fits : Catalog → SimpleSession → Bool
session_fits cat session = is_name session.name && list_all (λ placed. can_run cat placed.statement) session.statements

abbrev pub rows_in : SimpleStatement → ℕ
rows_in (CreateTable table items) = 0
rows_in (Insert table rows) = length rows
rows_in (Delete table) = 0
rows_in Begin = 0
rows_in Commit = 0
rows_in Rollback = 0

abbrev pub rows_in_session : SimpleSession → ℕ
rows_in_session session = sum_by (λ placed. rows_in placed.statement) session.statements

-- one session, 65,536 statements and 1,000 rows of values at the most
abbrev pub fits_first_language : SimpleScript → Bool
fits_first_language script =
    can_set_up no_tables script.setup && list_all (session_fits (catalog_of script)) script.sessions
    && nat_le (length script.sessions) 1 && is_none script.schedule
    && nat_le (length script.setup + sum_by (λ session. length session.statements) script.sessions) 65536
    && nat_le (sum_by rows_in_session script.sessions) 1000
