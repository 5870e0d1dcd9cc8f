-- The names and limits of a script, by the statements that stand before a place.
use Rattle.std.specs.Prelude.{ℕ, ◌+◌, Bool, true, false, ◌&&◌, ◌==◌, List, [], ◌∷◌, ◌++◌, length, map, Option, Some, None, is_none, is_some, count_by, sum_by, nat_lt, nat_le, if◌then◌else◌}
use Rattle.std.specs.List.{list_all, list_any}
use Rattle.std.specs.Option.{option_or}
use Rattle.aq_base.specs.Values.{Row}
use Rattle.aq_base.specs.Names.{Text, same_text, is_name, is_short, all_differ, primary_key_name, foreign_key_name}
use Rattle.aq_first_base.specs.Setup.{is_primary}
use Rattle.aq_first_base.specs.Scripts.{is_reference, rows_in_session}
use Rattle.aq_first_base.specs.declared.simple.SimpleConstraint.{SimpleConstraint}
use Rattle.aq_first_base.specs.declared.simple.SimpleConstraint.TheVariants.{PrimaryKey, References}
use Rattle.aq_first_base.specs.declared.simple.SimpleColumn.{SimpleColumn}
use Rattle.aq_first_base.specs.declared.simple.SimpleStatement.{SimpleStatement}
use Rattle.aq_first_base.specs.declared.simple.SimpleStatement.TheVariants.{CreateTable, Insert, Delete, Begin, Commit, Rollback}
use Rattle.aq_first_base.specs.declared.simple.SimplePlaced.{SimplePlaced}
use Rattle.aq_first_base.specs.declared.simple.SimpleSession.{SimpleSession}
use Rattle.aq_first_base.specs.declared.simple.SimpleScript.{SimpleScript}

-- the columns of a statement that creates a table of a name
abbrev pub created : Text → SimpleStatement → Option (List SimpleColumn)
created name (CreateTable table items) = if same_text table name then Some items else None
created name (Insert table rows) = None
created name (Delete table) = None
created name Begin = None
created name Commit = None
created name Rollback = None

-- the columns of the first table of a name that statements create
abbrev pub items_named : List SimplePlaced → Text → Option (List SimpleColumn)
items_named [] name = None
items_named (placed ∷ others) name = option_or (created name placed.statement) (items_named others name)

-- the columns of the first table of a name, where a table comes next
abbrev pub items_with : List SimplePlaced → Text → List SimpleColumn → Text → Option (List SimpleColumn)
items_with earlier table items name = option_or (items_named earlier name) (if same_text table name then Some items else None)

-- how many columns are primary keys
abbrev pub primaries_in : List SimpleColumn → ℕ
primaries_in items = count_by (λ item. is_primary item.constraint) items

-- how many columns are foreign keys
abbrev pub references_in : List SimpleColumn → ℕ
references_in items = count_by (λ item. is_reference item.constraint) items

-- the columns are there, and one of them is a primary key
abbrev pub has_primary : Option (List SimpleColumn) → Bool
has_primary None = false
has_primary (Some items) = list_any (λ item. is_primary item.constraint) items

-- a constraint has a name that is short enough, and REFERENCES a table with a primary key: an earlier one, or the same one
abbrev pub constraint_kept : List SimplePlaced → Text → List SimpleColumn → Text → Option SimpleConstraint → Bool
constraint_kept earlier table items col None = true
constraint_kept earlier table items col (Some PrimaryKey) = is_short (primary_key_name table)
constraint_kept earlier table items col (Some (References parent decl)) =
    has_primary (items_with earlier table items parent) && is_short (foreign_key_name table col)

-- the constraint of a column is kept
abbrev pub column_kept : List SimplePlaced → Text → List SimpleColumn → SimpleColumn → Bool
column_kept earlier table items item = constraint_kept earlier table items item.name item.constraint

-- the foreign keys that a statement makes
abbrev pub statement_references : SimpleStatement → ℕ
statement_references (CreateTable table items) = references_in items
statement_references (Insert table rows) = 0
statement_references (Delete table) = 0
statement_references Begin = 0
statement_references Commit = 0
statement_references Rollback = 0

-- the foreign keys that statements make
abbrev pub references_before : List SimplePlaced → ℕ
references_before earlier = sum_by (λ placed. statement_references placed.statement) earlier

-- the table may be created after those before it: 64 tables, 32 columns and 128 foreign keys at the most, and one primary key
abbrev pub create_kept : List SimplePlaced → Text → List SimpleColumn → Bool
create_kept earlier table items =
    is_none (items_named earlier table) && nat_lt (length earlier) 64 && nat_le (length items) 32
    && all_differ (map (λ item. item.name) items) && list_all (column_kept earlier table items) items
    && nat_le (primaries_in items) 1 && nat_le (references_before earlier + references_in items) 128

-- a statement may stand in the setup after those before it: it creates a table
abbrev pub definition_kept : List SimplePlaced → SimpleStatement → Bool
definition_kept earlier (CreateTable table items) = create_kept earlier table items
definition_kept earlier (Insert table rows) = false
definition_kept earlier (Delete table) = false
definition_kept earlier Begin = false
definition_kept earlier Commit = false
definition_kept earlier Rollback = false

-- each statement of a setup may stand after those before it
abbrev pub setup_kept : List SimplePlaced → List SimplePlaced → Bool
setup_kept earlier [] = true
setup_kept earlier (placed ∷ others) = definition_kept earlier placed.statement && setup_kept (earlier ++ placed ∷ []) others

-- each row gives one value to each column
abbrev pub rows_kept : Option (List SimpleColumn) → List Row → Bool
rows_kept None rows = false
rows_kept (Some items) rows = list_all (λ (row : Row). length row == length items) rows

-- a statement of a session runs on a setup: its table is there
abbrev pub run_kept : List SimplePlaced → SimpleStatement → Bool
run_kept setup (CreateTable table items) = false
run_kept setup (Insert table rows) = rows_kept (items_named setup table) rows
run_kept setup (Delete table) = is_some (items_named setup table)
run_kept setup Begin = true
run_kept setup Commit = true
run_kept setup Rollback = true

-- a session has a name, and its statements run on the setup
abbrev pub session_kept : List SimplePlaced → SimpleSession → Bool
session_kept setup session = is_name session.name && list_all (λ placed. run_kept setup placed.statement) session.statements

-- how many statements a script has
abbrev pub statements_in : SimpleScript → ℕ
statements_in script = length script.setup + sum_by (λ session. length session.statements) script.sessions

-- no schedule section, one session, 65,536 statements and 1,000 rows of values at the most
unfoldable pub script_kept : SimpleScript → Bool
script_kept script =
    is_none script.schedule && nat_le (length script.sessions) 1 && nat_le (statements_in script) 65536
    && nat_le (sum_by rows_in_session script.sessions) 1000
    && setup_kept [] script.setup && list_all (session_kept script.setup) script.sessions
