-- What a statement says once its names are numbers, and its faults: all of its names come before its lengths, and these before its kinds.
-- The first fault is the answer (PostgreSQL source, analyze.c).
use Rattle.std.specs.Prelude.{ℕ, Bool, false, not, List, [], ◌∷◌, ◌++◌, Option, Some, None, Result, Ok, Err, if◌then◌else◌, map, option_map, slice_get}
use Rattle.std.specs.List.{list_any, flat_map}
use Rattle.aq_base.specs.Names.{Text}
use Rattle.aq_base.specs.declared.fault.SqlFault.{SqlFault}
use Rattle.aq_base.specs.declared.expr.Expr.{Expr, Expr-F, fold-Expr}
use Rattle.aq_base.specs.declared.expr.Expr.TheOpen as exprs
use Rattle.aq_base.specs.declared.data.Given.{Given}
use Rattle.aq_base.specs.declared.data.Given.TheVariants as givens
use Rattle.aq_base.specs.declared.data.Source.{Source}
use Rattle.aq_base.specs.declared.data.Source.TheVariants as sources
use Rattle.aq_base.specs.declared.data.Insert.{Insert}
use Rattle.aq_base.specs.declared.data.Assignment.{Assignment}
use Rattle.aq_base.specs.declared.data.Update.{Update}
use Rattle.aq_base.specs.declared.data.Delete.{Delete}
use Rattle.aq_base.specs.declared.data.Columns.{Columns}
use Rattle.aq_base.specs.declared.data.Columns.TheVariants as shown
use Rattle.aq_base.specs.declared.data.Select.{Select}
use Rattle.aq_base.specs.declared.modes.ConstraintMode.{ConstraintMode}
use Rattle.aq_base.specs.declared.modes.ConstraintMode.TheVariants as modes
use Rattle.aq_base.specs.declared.modes.Constraints.{Constraints}
use Rattle.aq_base.specs.declared.modes.Constraints.TheVariants as constrained
use Rattle.aq_base.specs.declared.modes.SetConstraints.{SetConstraints}
use Rattle.aq_base.specs.declared.statement.Statement.{Statement}
use Rattle.aq_base.specs.declared.statement.Statement.TheVariants as statements
use Rattle.aq_base.specs.declared.catalog.Column.{Column as TableColumn}
use Rattle.aq_base.specs.declared.bound_expr.BoundExpr.{BoundExpr}
use Rattle.aq_base.specs.declared.bound_expr.BoundExpr.TheVariants.{Constant, Column, Old, New, Operation, Unary, Binary}
use Rattle.aq_base.specs.declared.bound_data.BoundGiven.{BoundGiven}
use Rattle.aq_base.specs.declared.bound_data.BoundGiven.TheVariants as bound_givens
use Rattle.aq_base.specs.declared.bound_data.BoundFrom.{BoundFrom}
use Rattle.aq_base.specs.declared.bound_data.BoundFrom.TheVariants as rows_of
use Rattle.aq_base.specs.declared.bound_data.BoundSource.{BoundSource}
use Rattle.aq_base.specs.declared.bound_data.BoundSource.TheVariants as bound_sources
use Rattle.aq_base.specs.declared.bound_data.BoundInsert.{BoundInsert}
use Rattle.aq_base.specs.declared.bound_data.BoundAssignment.{BoundAssignment}
use Rattle.aq_base.specs.declared.bound_data.BoundUpdate.{BoundUpdate}
use Rattle.aq_base.specs.declared.bound_data.BoundDelete.{BoundDelete}
use Rattle.aq_base.specs.declared.bound_data.BoundColumns.{BoundColumns}
use Rattle.aq_base.specs.declared.bound_data.BoundColumns.TheVariants as bound_shown
use Rattle.aq_base.specs.declared.bound_data.BoundSelect.{BoundSelect}
use Rattle.aq_base.specs.declared.bound_statement.BoundConstraints.{BoundConstraints}
use Rattle.aq_base.specs.declared.bound_statement.BoundConstraints.TheVariants as bound_constrained
use Rattle.aq_base.specs.declared.bound_statement.BoundSet.{BoundSet}
use Rattle.aq_base.specs.declared.bound_statement.Bound.{Bound}
use Rattle.aq_base.specs.declared.bound_statement.Bound.TheVariants as bound_statements
use Rattle.aq_catalog.specs.Catalogs.{Catalog, table_columns, constraints_named, number_of_table, number_of_column}
use Rattle.aq_setup.specs.Scopes.{Setting, in_session, Scope, no_row, table_scope, is_text, query_scope}
use Rattle.aq_setup.specs.Names.{expression_names, insert_names, update_names, delete_names, select_names}
use Rattle.aq_setup.specs.Lengths.{insert_lengths, update_lengths}
use Rattle.aq_setup.specs.Kinds.{boolean_kinds, insert_kinds, update_kinds, delete_kinds, select_kinds}
use Rattle.aq_refusals.specs.Faults.{no_constraint, not_deferrable}

-- ---- numbers for names, where each name is there

abbrev pub bound_step : Scope → Expr-F BoundExpr → BoundExpr
bound_step scope (exprs.Constant value) = Constant value
bound_step scope (exprs.Column column) = Column (number_of_column scope.cols column)
bound_step scope (exprs.Qualified table column) = Column (number_of_column scope.cols column)
bound_step scope (exprs.Old column) = Old (number_of_column scope.changed column)
bound_step scope (exprs.New column) = New (number_of_column scope.changed column)
bound_step scope exprs.Operation = Operation
bound_step scope (exprs.Unary operator a) = Unary operator a
bound_step scope (exprs.Binary a operator b) = Binary a operator b

abbrev pub bound_expression : Scope → Expr → BoundExpr
bound_expression scope e = fold-Expr BoundExpr (bound_step scope) e

abbrev pub bound_condition : Scope → Option Expr → Option BoundExpr
bound_condition scope condition = option_map (bound_expression scope) condition

abbrev pub bound_given : Scope → Given → BoundGiven
bound_given scope (givens.Value e) = bound_givens.Value (bound_expression scope e)
bound_given scope givens.Default = bound_givens.Default

abbrev pub bound_from : Setting → Text → BoundFrom
bound_from setting name =
    if is_text setting.old_table name
    then rows_of.OldTable
    else (if is_text setting.new_table name then rows_of.NewTable else rows_of.Table (number_of_table setting.catalog name))

abbrev pub bound_source : Setting → Source → BoundSource
bound_source setting (sources.Values rows) = bound_sources.Values (map (λ row. map (bound_given (no_row setting.changed)) row) rows)
bound_source setting (sources.Query found table condition) =
    bound_sources.Query (map (bound_expression (query_scope setting table)) found) (bound_from setting table) (bound_condition (query_scope setting table) condition)

abbrev pub bound_insert : Setting → Insert → BoundInsert
bound_insert setting s =
    record {
      table = number_of_table setting.catalog s.table;
      columns = option_map (λ names. map (number_of_column (table_columns setting.catalog s.table)) names) s.columns;
      source = bound_source setting s.source;
    }

abbrev pub bound_assignment : Scope → Assignment → BoundAssignment
bound_assignment scope a = record { column = number_of_column scope.cols a.column; value = bound_given scope a.value }

abbrev pub bound_update : Setting → Update → BoundUpdate
bound_update setting s =
    record {
      table = number_of_table setting.catalog s.table;
      assignments = map (bound_assignment (table_scope setting s.table)) s.assignments;
      condition = bound_condition (table_scope setting s.table) s.condition;
    }

abbrev pub bound_delete : Setting → Delete → BoundDelete
bound_delete setting s =
    record { table = number_of_table setting.catalog s.table; condition = bound_condition (table_scope setting s.table) s.condition }

abbrev pub bound_columns : List TableColumn → Columns → BoundColumns
bound_columns cols shown.All = bound_shown.All
bound_columns cols (shown.Named names) = bound_shown.Named (map (number_of_column cols) names)

abbrev pub bound_select : Setting → Select → BoundSelect
bound_select setting s =
    record {
      columns = bound_columns (table_columns setting.catalog s.table) s.columns;
      table = number_of_table setting.catalog s.table;
      condition = bound_condition (table_scope setting s.table) s.condition;
      lock = s.lock;
    }

abbrev pub bound_constraints : Catalog → Constraints → BoundConstraints
bound_constraints cat constrained.All = bound_constrained.All
bound_constraints cat (constrained.Named names) = bound_constrained.Named (map (constraints_named cat) names)

abbrev pub bound_set : Catalog → SetConstraints → BoundSet
bound_set cat s = record { constraints = bound_constraints cat s.constraints; mode = s.mode }

-- a statement of the setup is none of a session
abbrev pub bound : Catalog → Statement → Bound
bound cat (statements.Insert s) = bound_statements.Insert (bound_insert (in_session cat) s)
bound cat (statements.Update s) = bound_statements.Update (bound_update (in_session cat) s)
bound cat (statements.Delete s) = bound_statements.Delete (bound_delete (in_session cat) s)
bound cat (statements.Select s) = bound_statements.Select (bound_select (in_session cat) s)
bound cat (statements.SetConstraints s) = bound_statements.SetConstraints (bound_set cat s)
bound cat (statements.Begin isolation) = bound_statements.Begin isolation
bound cat (statements.StartTransaction isolation) = bound_statements.StartTransaction isolation
bound cat statements.Commit = bound_statements.Commit
bound cat statements.Rollback = bound_statements.Rollback
bound cat (statements.Savepoint name) = bound_statements.Savepoint name
bound cat (statements.Release name) = bound_statements.Release name
bound cat (statements.RollbackTo name) = bound_statements.RollbackTo name
bound cat _ = bound_statements.Commit

-- ---- faults

abbrev pub insert_faults : Setting → Insert → List SqlFault
insert_faults setting s = insert_names setting s ++ (insert_lengths setting s ++ insert_kinds setting s)

abbrev pub update_faults : Setting → Update → List SqlFault
update_faults setting s = update_names setting s ++ (update_lengths s ++ update_kinds setting s)

abbrev pub delete_faults : Setting → Delete → List SqlFault
delete_faults setting s = delete_names setting s ++ delete_kinds setting s

abbrev pub select_faults : Setting → Select → List SqlFault
select_faults setting s = select_names setting s ++ select_kinds setting s

-- whether a constraint can't be deferred
abbrev pub is_fixed : Catalog → ℕ → Bool
is_fixed cat con = elim (slice_get cat.constraints con) [ None ↦ false | Some found ↦ not found.decl.deferrable ]

-- a name that no constraint has, or with DEFERRED one of a constraint that can't be
abbrev pub set_name_faults : Catalog → ConstraintMode → Text → List ℕ → List SqlFault
set_name_faults cat mode name [] = no_constraint name ∷ []
set_name_faults cat modes.Immediate name (con ∷ others) = []
set_name_faults cat modes.Deferred name (con ∷ others) = if list_any (is_fixed cat) (con ∷ others) then not_deferrable name ∷ [] else []

-- name by name
abbrev pub set_faults_of : Catalog → ConstraintMode → Constraints → List SqlFault
set_faults_of cat mode constrained.All = []
set_faults_of cat mode (constrained.Named names) = flat_map (λ name. set_name_faults cat mode name (constraints_named cat name)) names

abbrev pub set_faults : Catalog → SetConstraints → List SqlFault
set_faults cat s = set_faults_of cat s.mode s.constraints

abbrev pub statement_faults : Catalog → Statement → List SqlFault
statement_faults cat (statements.Insert s) = insert_faults (in_session cat) s
statement_faults cat (statements.Update s) = update_faults (in_session cat) s
statement_faults cat (statements.Delete s) = delete_faults (in_session cat) s
statement_faults cat (statements.Select s) = select_faults (in_session cat) s
statement_faults cat (statements.SetConstraints s) = set_faults cat s
statement_faults cat _ = []

-- the first fault, or else the value
abbrev pub unless_faulty : {A : Type 0} → List SqlFault → A → Result A SqlFault
unless_faulty [] x = Ok x
unless_faulty (fault ∷ others) x = Err fault

abbrev pub bind : Catalog → Statement → Result Bound SqlFault
bind cat s = unless_faulty (statement_faults cat s) (bound cat s)

-- ---- conditions of WHEN and IF

abbrev pub condition_faults : Text → Scope → Expr → List SqlFault
condition_faults word scope e = expression_names scope e ++ boolean_kinds word scope e
