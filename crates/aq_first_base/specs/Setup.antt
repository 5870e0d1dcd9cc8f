-- What the setup statements of a script make, and what its sessions' statements say with numbers for names.
use Rattle.std.specs.Prelude.{ℕ, ◌+◌, Bool, true, false, ◌==◌, List, [], ◌∷◌, ◌++◌, length, map, Option, Some, None, find, position, option_map, option_and_then, if◌then◌else◌}
use Rattle.std.specs.List.{filter_map}
use Rattle.aq_base.specs.Names.{Text, same_text, primary_key_name, foreign_key_name}
use Rattle.aq_first_base.specs.Catalogs.{Catalog}
use Rattle.aq_first_base.specs.declared.catalog.Column.{Column}
use Rattle.aq_base.specs.declared.catalog.Decl.{Decl}
use Rattle.aq_base.specs.declared.catalog.Op.TheVariants.{Insert as On_insert, Update as On_update, Delete as On_delete}
use Rattle.aq_first_base.specs.declared.catalog.Does.TheVariants.{Check, Parent}
use Rattle.aq_first_base.specs.declared.simple.SimpleConstraint.{SimpleConstraint}
use Rattle.aq_first_base.specs.declared.simple.SimpleConstraint.TheVariants.{PrimaryKey, References}
use Rattle.aq_first_base.specs.declared.simple.SimpleColumn.{SimpleColumn}
use Rattle.aq_first_base.specs.declared.simple.SimpleStatement.{SimpleStatement}
use Rattle.aq_first_base.specs.declared.simple.SimpleStatement.TheVariants.{CreateTable, Insert, Delete, Begin, Commit, Rollback}
use Rattle.aq_first_base.specs.declared.bound.Bound.{Bound}
use Rattle.aq_first_base.specs.declared.bound.Bound.TheVariants.{InsertRows, DeleteRows, BeginBlock, CommitBlock, RollbackBlock}
use Rattle.aq_first_base.specs.declared.simple.SimplePlaced.{SimplePlaced}
use Rattle.aq_first_base.specs.declared.simple.SimpleSession.{SimpleSession}
use Rattle.aq_first_base.specs.declared.simple.SimpleScript.{SimpleScript}

abbrev pub no_tables : Catalog
no_tables = record { tables = []; keys = []; fks = []; triggers = [] }

-- the number of the table with a name
abbrev pub table_number : Text → Catalog → Option ℕ
table_number name cat = position (λ table. same_text table.name name) cat.tables

-- the columns of a table's primary key
abbrev pub primary_cols : ℕ → Catalog → Option (List ℕ)
primary_cols table cat = option_map (λ k. k.cols) (find (λ k. k.table == table) cat.keys)

-- what REFERENCES of a table refers to: its number, and the columns of its primary key
abbrev pub referred : Text → Catalog → Option (ℕ × List ℕ)
referred parent cat =
    option_and_then (λ number. option_map (λ cols. (number, cols)) (primary_cols number cat)) (table_number parent cat)

abbrev pub is_primary : Option SimpleConstraint → Bool
is_primary None = false
is_primary (Some PrimaryKey) = true
is_primary (Some (References parent decl)) = false

abbrev pub column_of : SimpleColumn → Column
column_of item = record { name = item.name; kind = item.kind }

-- the columns that hold no null: those of the primary key
abbrev pub primary_items : ℕ → List SimpleColumn → List ℕ
primary_items col [] = []
primary_items col (item ∷ items) = if is_primary item.constraint then col ∷ primary_items (col + 1) items else primary_items (col + 1) items

abbrev pub adds_table : Text → List SimpleColumn → Catalog → Catalog
adds_table name items cat =
    record cat { tables = cat.tables ++ record { name = name; cols = map column_of items; not_null = primary_items 0 items } ∷ [] }

-- the primary key that a column's constraint makes
abbrev pub adds_key : ℕ → Text → ℕ → Option SimpleConstraint → Catalog → Catalog
adds_key number table col None cat = cat
adds_key number table col (Some PrimaryKey) cat =
    record cat { keys = cat.keys ++ record { name = primary_key_name table; table = number; cols = col ∷ [] } ∷ [] }
adds_key number table col (Some (References parent decl)) cat = cat

abbrev pub adds_keys : ℕ → Text → ℕ → List SimpleColumn → Catalog → Catalog
adds_keys number table col [] cat = cat
adds_keys number table col (item ∷ items) cat = adds_keys number table (col + 1) items (adds_key number table col item.constraint cat)

-- the foreign key, the trigger that looks for children of the rows of its parent table, and the one that checks the rows of its child table
abbrev pub adds_foreign_key : ℕ → Text → ℕ → Text → Decl → Option (ℕ × List ℕ) → Catalog → Catalog
adds_foreign_key number table col name decl None cat = cat
adds_foreign_key number table col name decl (Some parent) cat =
    record cat {
      fks = cat.fks ++ record { name = foreign_key_name table name; child = number; child_cols = col ∷ []; parent = parent.0; parent_cols = parent.1 } ∷ [];
      triggers =
          cat.triggers ++ record { table = parent.0; ops = On_update ∷ On_delete ∷ []; decl = decl; does = Parent (length cat.fks) }
          ∷ record { table = number; ops = On_insert ∷ On_update ∷ []; decl = decl; does = Check (length cat.fks) } ∷ [];
    }

-- the foreign key that a column's constraint makes
abbrev pub adds_reference : ℕ → Text → ℕ → Text → Option SimpleConstraint → Catalog → Catalog
adds_reference number table col name None cat = cat
adds_reference number table col name (Some PrimaryKey) cat = cat
adds_reference number table col name (Some (References parent decl)) cat = adds_foreign_key number table col name decl (referred parent cat) cat

abbrev pub adds_references : ℕ → Text → ℕ → List SimpleColumn → Catalog → Catalog
adds_references number table col [] cat = cat
adds_references number table col (item ∷ items) cat =
    adds_references number table (col + 1) items (adds_reference number table col item.name item.constraint cat)

-- the table, then its keys, then its foreign keys
abbrev pub creates : Text → List SimpleColumn → Catalog → Catalog
creates table items cat =
    adds_references (length cat.tables) table 0 items (adds_keys (length cat.tables) table 0 items (adds_table table items cat))

abbrev pub defines : SimpleStatement → Catalog → Catalog
defines (CreateTable table items) cat = creates table items cat
defines (Insert table rows) cat = cat
defines (Delete table) cat = cat
defines Begin cat = cat
defines Commit cat = cat
defines Rollback cat = cat

abbrev pub setup_from : Catalog → List SimplePlaced → Catalog
setup_from cat [] = cat
setup_from cat (placed ∷ others) = setup_from (defines placed.statement cat) others

abbrev pub catalog_of : SimpleScript → Catalog
catalog_of script = setup_from no_tables script.setup

-- what a statement says; none where it is no statement of a session, or its table isn't there
abbrev pub bound : Catalog → SimpleStatement → Option Bound
bound cat (CreateTable table items) = None
bound cat (Insert table rows) = option_map (λ number. InsertRows number rows) (table_number table cat)
bound cat (Delete table) = option_map DeleteRows (table_number table cat)
bound cat Begin = Some BeginBlock
bound cat Commit = Some CommitBlock
bound cat Rollback = Some RollbackBlock

abbrev pub bound_statements : Catalog → SimpleSession → List Bound
bound_statements cat session = filter_map (λ placed. bound cat placed.statement) session.statements

-- a script as it is run
pub record Program : Type 0 where
  pub catalog : Catalog
  pub names : List Text
  pub sessions : List (List Bound)

abbrev pub program_of : SimpleScript → Program
program_of script =
    record {
      catalog = catalog_of script;
      names = map (λ session. session.name) script.sessions;
      sessions = map (bound_statements (catalog_of script)) script.sessions;
    }
