-- Of which scripts of the whole grammar there is a script of the forms that the machine runs.
use Rattle.std.specs.Prelude.{Bool, true, false, ◌&&◌, List, [], ◌∷◌, Option, Some, None, is_none, option_map, option_and_then, pos, int_le, if◌then◌else◌}
use Rattle.aq_base.specs.Names.{Text}
use Rattle.aq_base.specs.Values.{Row}
use Rattle.aq_base.specs.declared.value.Value.{Value}
use Rattle.aq_base.specs.declared.value.Value.TheVariants.{Null, Bool as Truth, Int, Text as Written}
use Rattle.aq_base.specs.declared.expr.Expr.{Expr}
use Rattle.aq_base.specs.declared.expr.Expr.TheVariants.{Constant}
use Rattle.aq_base.specs.declared.script.Kind.{Kind}
use Rattle.aq_base.specs.declared.script.Kind.TheVariants.{Integer, Bigint, Boolean, Text as Texts}
use Rattle.aq_base.specs.declared.script.Placed.{Placed}
use Rattle.aq_base.specs.declared.script.SessionText.{SessionText}
use Rattle.aq_base.specs.declared.script.Script.{Script}
use Rattle.aq_base.specs.declared.constraint.Match.{Match}
use Rattle.aq_base.specs.declared.constraint.Match.TheVariants.{Simple, Full}
use Rattle.aq_base.specs.declared.constraint.Action.{Action}
use Rattle.aq_base.specs.declared.constraint.Action.TheVariants.{NoAction, Restrict, Cascade, SetNull, SetDefault}
use Rattle.aq_base.specs.declared.constraint.Reference.{Reference}
use Rattle.aq_base.specs.declared.constraint.ColumnConstraint.{ColumnConstraint}
use Rattle.aq_base.specs.declared.constraint.ColumnConstraint.TheVariants.{NotNull, Default, PrimaryKey, Unique, References}
use Rattle.aq_base.specs.declared.table.TableItem.{TableItem}
use Rattle.aq_base.specs.declared.table.TableItem.TheVariants.{Column, Constraint}
use Rattle.aq_base.specs.declared.table.CreateTable.{CreateTable}
use Rattle.aq_base.specs.declared.data.Given.{Given}
use Rattle.aq_base.specs.declared.data.Given.TheVariants.{Value as Given_value, Default as Given_default}
use Rattle.aq_base.specs.declared.data.Source.{Source}
use Rattle.aq_base.specs.declared.data.Source.TheVariants.{Values, Query}
use Rattle.aq_base.specs.declared.data.Insert.{Insert}
use Rattle.aq_base.specs.declared.data.Delete.{Delete}
use Rattle.aq_base.specs.declared.statement.Isolation.{Isolation}
use Rattle.aq_base.specs.declared.statement.Isolation.TheVariants.{ReadCommitted, RepeatableRead}
use Rattle.aq_base.specs.declared.statement.Statement.{Statement}
use Rattle.aq_base.specs.declared.statement.Statement.TheVariants as statements
use Rattle.aq_first_base.specs.declared.simple.SimpleConstraint.{SimpleConstraint}
use Rattle.aq_first_base.specs.declared.simple.SimpleConstraint.TheVariants as constraints
use Rattle.aq_first_base.specs.declared.simple.SimpleColumn.{SimpleColumn}
use Rattle.aq_first_base.specs.declared.simple.SimpleStatement.{SimpleStatement}
use Rattle.aq_first_base.specs.declared.simple.SimpleStatement.TheVariants as simple
use Rattle.aq_first_base.specs.declared.simple.SimplePlaced.{SimplePlaced}
use Rattle.aq_first_base.specs.declared.simple.SimpleSession.{SimpleSession}
use Rattle.aq_first_base.specs.declared.simple.SimpleScript.{SimpleScript}

-- what each element gives, in order; none where one of them gives nothing
abbrev pub all_of : {A B : Type 0} → (A → Option B) → List A → Option (List B)
all_of f [] = Some []
all_of f (x ∷ xs) = option_and_then (λ y. option_map (λ ys. y ∷ ys) (all_of f xs)) (f x)

-- ---- CREATE TABLE

-- the kind is integer
abbrev pub is_integer : Kind → Bool
is_integer Integer = true
is_integer Bigint = false
is_integer Boolean = false
is_integer Texts = false

-- MATCH SIMPLE, which stands where nothing is said
abbrev pub is_simple_match : Match → Bool
is_simple_match Simple = true
is_simple_match Full = false

-- NO ACTION, which stands where nothing is said
abbrev pub is_no_action : Action → Bool
is_no_action NoAction = true
is_no_action Restrict = false
is_no_action Cascade = false
is_no_action SetNull = false
is_no_action SetDefault = false

-- a reference to the primary key of a table, with MATCH SIMPLE and NO ACTION, whenever it is checked
abbrev pub simple_reference : Reference → Option SimpleConstraint
simple_reference reference =
    if is_none reference.columns && is_simple_match reference.matching && is_no_action reference.on_delete && is_no_action reference.on_update
    then Some (constraints.References reference.table reference.timing)
    else None

-- PRIMARY KEY or REFERENCES, without a name of its own
abbrev pub simple_constraint : ColumnConstraint → Option SimpleConstraint
simple_constraint NotNull = None
simple_constraint (Default value) = None
simple_constraint (PrimaryKey name) = if is_none name then Some constraints.PrimaryKey else None
simple_constraint (Unique name) = None
simple_constraint (References name reference) = if is_none name then simple_reference reference else None

-- no constraint, or one
abbrev pub simple_constraints : List ColumnConstraint → Option (Option SimpleConstraint)
simple_constraints [] = Some None
simple_constraints (constraint ∷ []) = option_map (λ only. Some only) (simple_constraint constraint)
simple_constraints (first ∷ second ∷ others) = None

-- a column of the kind integer
abbrev pub simple_column : Text → Kind → List ColumnConstraint → Option SimpleColumn
simple_column name kind constraints =
    if is_integer kind
    then option_map (λ constraint. record { name = name; kind = kind; constraint = constraint }) (simple_constraints constraints)
    else None

-- a column; no constraint stands by itself
abbrev pub simple_item : TableItem → Option SimpleColumn
simple_item (Column name kind constraints) = simple_column name kind constraints
simple_item (Constraint constraint) = None

-- CREATE TABLE of such columns
abbrev pub simple_create : CreateTable → Option SimpleStatement
simple_create create = option_map (λ items. simple.CreateTable create.table items) (all_of simple_item create.items)

-- ---- INSERT and DELETE

-- null, or a whole number from 0 to 2147483647
abbrev pub simple_constant : Value → Option Value
simple_constant Null = Some Null
simple_constant (Truth b) = None
simple_constant (Int n) = if int_le (pos 0) n && int_le n (pos 2147483647) then Some (Int n) else None
simple_constant (Written text) = None

-- a constant without an operator
abbrev pub simple_expr : Expr → Option Value
simple_expr (Constant value) = simple_constant value
simple_expr other = None

-- a value, and no DEFAULT
abbrev pub simple_given : Given → Option Value
simple_given (Given_value expr) = simple_expr expr
simple_given Given_default = None

-- a row of such values
abbrev pub simple_row : List Given → Option Row
simple_row row = all_of simple_given row

-- the rows of VALUES
abbrev pub simple_source : Source → Option (List Row)
simple_source (Values rows) = all_of simple_row rows
simple_source (Query values table condition) = None

-- INSERT without a list of columns
abbrev pub simple_insert : Insert → Option SimpleStatement
simple_insert insert = if is_none insert.columns then option_map (λ rows. simple.Insert insert.table rows) (simple_source insert.source) else None

-- DELETE of all rows
abbrev pub simple_delete : Delete → Option SimpleStatement
simple_delete delete = if is_none delete.condition then Some (simple.Delete delete.table) else None

-- ---- statements and scripts

-- BEGIN at READ COMMITTED, which stands where nothing is said
abbrev pub simple_begin : Isolation → Option SimpleStatement
simple_begin ReadCommitted = Some simple.Begin
simple_begin RepeatableRead = None

-- a statement of one of six kinds
abbrev pub simple_statement : Statement → Option SimpleStatement
simple_statement (statements.CreateTable create) = simple_create create
simple_statement (statements.Insert insert) = simple_insert insert
simple_statement (statements.Delete delete) = simple_delete delete
simple_statement (statements.Begin isolation) = simple_begin isolation
simple_statement statements.Commit = Some simple.Commit
simple_statement statements.Rollback = Some simple.Rollback
simple_statement other = None

-- the statement with its line
abbrev pub simple_placed : Placed → Option SimplePlaced
simple_placed placed = option_map (λ statement. record { line = placed.line; statement = statement }) (simple_statement placed.statement)

-- all statements of a list
abbrev pub simple_statements : List Placed → Option (List SimplePlaced)
simple_statements statements = all_of simple_placed statements

-- a session with each of its statements
abbrev pub simple_session : SessionText → Option SimpleSession
simple_session session = option_map (λ statements. record { name = session.name; statements = statements }) (simple_statements session.statements)

-- each statement of the setup and of the sessions is simple, and there is no schedule section
abbrev pub simple_script : Script → Option SimpleScript
simple_script script =
    if is_none script.schedule
    then option_and_then (λ setup. option_map (λ sessions. record { setup = setup; sessions = sessions; schedule = None }) (all_of simple_session script.sessions)) (simple_statements script.setup)
    else None
