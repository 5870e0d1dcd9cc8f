-- What the names in a statement and in its expressions may stand for (PostgreSQL manual, section "Column References", and chapter
-- "PL/pgSQL", section "Trigger Functions").
use Rattle.std.specs.Prelude.{Bool, false, ◌||◌, List, [], ◌∷◌, Option, Some, None, if◌then◌else◌}
use Rattle.std.specs.List.{list_any}
use Rattle.aq_base.specs.Names.{Text, same_text}
use Rattle.aq_base.specs.declared.catalog.Column.{Column}
use Rattle.aq_catalog.specs.Catalogs.{Catalog, table_columns}

-- where a statement stands. The columns of OLD and NEW are those of the trigger's table; a session's statement has none, and no transition
-- tables either.
pub record Setting : Type 0 where
  pub catalog : Catalog
  pub changed : List Column
  pub old_table : Option Text
  pub new_table : Option Text

abbrev pub in_session : Catalog → Setting
in_session cat = record { catalog = cat; changed = []; old_table = None; new_table = None }

-- whose columns an expression may name: those of the row at hand, also as `table.column`, and those of OLD and NEW
pub record Scope : Type 0 where
  pub table : Text
  pub cols : List Column
  pub changed : List Column

-- an expression with no row at hand
abbrev pub no_row : List Column → Scope
no_row changed = record { table = []; cols = []; changed = changed }

abbrev pub table_scope : Setting → Text → Scope
table_scope setting table = record { table = table; cols = table_columns setting.catalog table; changed = setting.changed }

abbrev pub is_text : Option Text → Text → Bool
is_text None name = false
is_text (Some text) name = same_text text name

abbrev pub is_transition : Setting → Text → Bool
is_transition setting name = is_text setting.old_table name || is_text setting.new_table name

-- the scope of a query's expressions: a transition table hides a table of the same name
abbrev pub query_scope : Setting → Text → Scope
query_scope setting name =
    if is_transition setting name then record { table = name; cols = setting.changed; changed = setting.changed } else table_scope setting name

-- the columns that may stand behind `table.`
abbrev pub qualified_cols : Scope → Text → List Column
qualified_cols scope table = if same_text scope.table table then scope.cols else []

-- ---- names that stand more than once

abbrev pub repeats_behind : List Text → List Text → List Text
repeats_behind before [] = []
repeats_behind before (name ∷ names) =
    if list_any (same_text name) before then name ∷ repeats_behind (name ∷ before) names else repeats_behind (name ∷ before) names

-- each name that stood before, where it stands again
abbrev pub repeats : List Text → List Text
repeats names = repeats_behind [] names
