-- The faults of the names in a statement, from left to right: tables that are not there, columns that are not there, columns that an INSERT
-- names twice (PostgreSQL source, parse_relation.c, parse_target.c). The table behind FROM comes before the columns that a query shows.
use Rattle.std.specs.Prelude.{List, [], ◌∷◌, ◌++◌, Option, Some, None, if◌then◌else◌, map, is_some}
use Rattle.std.specs.List.{list_any, flat_map}
use Rattle.aq_base.specs.Names.{Text, same_text}
use Rattle.aq_base.specs.declared.fault.SqlFault.{SqlFault}
use Rattle.aq_base.specs.declared.expr.Expr.{Expr, Expr-F, fold-Expr}
use Rattle.aq_base.specs.declared.expr.Expr.TheOpen as exprs
use Rattle.aq_base.specs.declared.data.Given.{Given}
use Rattle.aq_base.specs.declared.data.Given.TheVariants as givens
use Rattle.aq_base.specs.declared.data.Source.{Source}
use Rattle.aq_base.specs.declared.data.Source.TheVariants as sources
use Rattle.aq_base.specs.declared.data.Insert.{Insert}
use Rattle.aq_base.specs.declared.data.Assignment.{Assignment}
use Rattle.aq_base.specs.declared.data.Update.{Update}
use Rattle.aq_base.specs.declared.data.Delete.{Delete}
use Rattle.aq_base.specs.declared.data.Columns.{Columns}
use Rattle.aq_base.specs.declared.data.Columns.TheVariants as shown
use Rattle.aq_base.specs.declared.data.Select.{Select}
use Rattle.aq_base.specs.declared.catalog.Column.{Column}
use Rattle.aq_catalog.specs.Catalogs.{Catalog, table_number, table_columns, column_number}
use Rattle.aq_setup.specs.Scopes.{Setting, Scope, no_row, table_scope, is_transition, query_scope, qualified_cols}
use Rattle.aq_refusals.specs.Faults.{no_relation, no_target, no_column, column_twice}

-- the name where no column has it
abbrev pub unknown : List Column → Text → List Text
unknown cols name = if is_some (column_number cols name) then [] else name ∷ []

-- ---- expressions

abbrev pub unknown_step : Scope → Expr-F (List Text) → List Text
unknown_step scope (exprs.Constant value) = []
unknown_step scope (exprs.Column column) = unknown scope.cols column
unknown_step scope (exprs.Qualified table column) = unknown (qualified_cols scope table) column
unknown_step scope (exprs.Old column) = unknown scope.changed column
unknown_step scope (exprs.New column) = unknown scope.changed column
unknown_step scope exprs.Operation = []
unknown_step scope (exprs.Unary operator a) = a
unknown_step scope (exprs.Binary a operator b) = a ++ b

-- the columns of an expression that are not there
abbrev pub unknown_columns : Scope → Expr → List Text
unknown_columns scope e = fold-Expr (List Text) (unknown_step scope) e

abbrev pub expression_names : Scope → Expr → List SqlFault
expression_names scope e = map no_column (unknown_columns scope e)

abbrev pub condition_names : Scope → Option Expr → List SqlFault
condition_names scope None = []
condition_names scope (Some e) = expression_names scope e

abbrev pub given_names : Scope → Given → List SqlFault
given_names scope (givens.Value e) = expression_names scope e
given_names scope givens.Default = []

-- ---- tables and target columns

abbrev pub table_faults : Catalog → Text → List SqlFault
table_faults cat table = if is_some (table_number cat table) then [] else no_relation table ∷ []

abbrev pub target_faults : Text → List Column → Text → List SqlFault
target_faults table cols column = map (no_target table) (unknown cols column)

-- the columns that an INSERT names, behind those before them
abbrev pub insert_columns : Text → List Column → List Text → List Text → List SqlFault
insert_columns table cols before [] = []
insert_columns table cols before (column ∷ columns) =
    target_faults table cols column
    ++ ((if list_any (same_text column) before then column_twice column ∷ [] else []) ++ insert_columns table cols (column ∷ before) columns)

abbrev pub named_columns : Text → List Column → Option (List Text) → List SqlFault
named_columns table cols None = []
named_columns table cols (Some columns) = insert_columns table cols [] columns

-- ---- statements

abbrev pub from_faults : Setting → Text → List SqlFault
from_faults setting table = if is_transition setting table then [] else table_faults setting.catalog table

-- no column has a value yet in VALUES
abbrev pub source_names : Setting → Source → List SqlFault
source_names setting (sources.Values rows) = flat_map (λ row. flat_map (given_names (no_row setting.changed)) row) rows
source_names setting (sources.Query values table condition) =
    from_faults setting table
    ++ (flat_map (expression_names (query_scope setting table)) values ++ condition_names (query_scope setting table) condition)

abbrev pub insert_names : Setting → Insert → List SqlFault
insert_names setting s =
    table_faults setting.catalog s.table
    ++ (named_columns s.table (table_columns setting.catalog s.table) s.columns ++ source_names setting s.source)

abbrev pub assignment_names : Text → Scope → Assignment → List SqlFault
assignment_names table scope a = target_faults table scope.cols a.column ++ given_names scope a.value

abbrev pub update_names : Setting → Update → List SqlFault
update_names setting s =
    table_faults setting.catalog s.table
    ++ (flat_map (assignment_names s.table (table_scope setting s.table)) s.assignments ++ condition_names (table_scope setting s.table) s.condition)

abbrev pub delete_names : Setting → Delete → List SqlFault
delete_names setting s = table_faults setting.catalog s.table ++ condition_names (table_scope setting s.table) s.condition

abbrev pub shown_names : List Column → Columns → List SqlFault
shown_names cols shown.All = []
shown_names cols (shown.Named names) = map no_column (flat_map (unknown cols) names)

abbrev pub select_names : Setting → Select → List SqlFault
select_names setting s =
    table_faults setting.catalog s.table
    ++ (shown_names (table_columns setting.catalog s.table) s.columns ++ condition_names (table_scope setting s.table) s.condition)
