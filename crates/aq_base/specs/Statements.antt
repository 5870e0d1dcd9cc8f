-- Statements as data that contracts compute with: bound statements without the boxes of their expressions.
use Rattle.std.specs.Prelude.{ℕ, List, [], Option, Some, None, map, option_map}
use Rattle.aq_base.specs.Names.{Text}
use Rattle.aq_base.specs.Terms.{Term, term_of}
use Rattle.aq_base.specs.declared.data.LockMode.{LockMode}
use Rattle.aq_base.specs.declared.statement.Isolation.{Isolation}
use Rattle.aq_base.specs.declared.bound_expr.BoundExpr.{BoundExpr}
use Rattle.aq_base.specs.declared.bound_data.BoundGiven.{BoundGiven}
use Rattle.aq_base.specs.declared.bound_data.BoundGiven.TheVariants as givens
use Rattle.aq_base.specs.declared.bound_data.BoundFrom.{BoundFrom}
use Rattle.aq_base.specs.declared.bound_data.BoundSource.{BoundSource}
use Rattle.aq_base.specs.declared.bound_data.BoundSource.TheVariants as sources
use Rattle.aq_base.specs.declared.bound_data.BoundInsert.{BoundInsert}
use Rattle.aq_base.specs.declared.bound_data.BoundAssignment.{BoundAssignment}
use Rattle.aq_base.specs.declared.bound_data.BoundUpdate.{BoundUpdate}
use Rattle.aq_base.specs.declared.bound_data.BoundDelete.{BoundDelete}
use Rattle.aq_base.specs.declared.bound_data.BoundColumns.{BoundColumns}
use Rattle.aq_base.specs.declared.bound_data.BoundColumns.TheVariants as columns
use Rattle.aq_base.specs.declared.bound_data.BoundSelect.{BoundSelect}
use Rattle.aq_base.specs.declared.bound_statement.BoundSet.{BoundSet}
use Rattle.aq_base.specs.declared.bound_statement.Bound.{Bound}
use Rattle.aq_base.specs.declared.bound_statement.Bound.TheVariants as bounds

-- what a column gets
pub data Given : Type 0 where
  Value_of : (term : Term) → Given
  Its_default : Given

-- where the rows of an INSERT come from
pub data Source : Type 0 where
  Values : (rows : List (List Given)) → Source
  Query : (values : List Term) → (rows : BoundFrom) → (condition : Option Term) → Source

pub record Insert : Type 0 where
  pub table : ℕ
  -- none: the first columns of the table
  pub columns : Option (List ℕ)
  pub source : Source

pub record Assignment : Type 0 where
  pub column : ℕ
  pub value : Given

pub record Update : Type 0 where
  pub table : ℕ
  pub assignments : List Assignment
  pub condition : Option Term

pub record Delete : Type 0 where
  pub table : ℕ
  pub condition : Option Term

pub record Select : Type 0 where
  -- none: all columns
  pub columns : Option (List ℕ)
  pub table : ℕ
  pub condition : Option Term
  pub lock : Option LockMode

-- a statement that changes rows
pub data Change_of_rows : Type 0 where
  Inserts : (insert : Insert) → Change_of_rows
  Updates : (update : Update) → Change_of_rows
  Deletes : (delete : Delete) → Change_of_rows

-- a statement of a session
pub data Statement : Type 0 where
  Changes_rows : (change : Change_of_rows) → Statement
  Selects : (select : Select) → Statement
  Sets_constraints : (set : BoundSet) → Statement
  Begins : (isolation : Isolation) → Statement
  Starts_transaction : (isolation : Isolation) → Statement
  Commits : Statement
  Rolls_back : Statement
  Makes_savepoint : (name : Text) → Statement
  Releases_savepoint : (name : Text) → Statement
  Rolls_back_to : (name : Text) → Statement

-- ---- of bound statements

abbrev pub terms_of : List BoundExpr → List Term
terms_of es = map term_of es

abbrev pub term_in : Option BoundExpr → Option Term
term_in e = option_map term_of e

abbrev pub given_of : BoundGiven → Given
given_of (givens.Value e) = Value_of (term_of e)
given_of givens.Default = Its_default

abbrev pub source_of : BoundSource → Source
source_of (sources.Values rows) = Values (map (λ row. map given_of row) rows)
source_of (sources.Query values rows condition) = Query (terms_of values) rows (term_in condition)

abbrev pub insert_of : BoundInsert → Insert
insert_of s = record { table = s.table; columns = s.columns; source = source_of s.source }

abbrev pub assignment_of : BoundAssignment → Assignment
assignment_of s = record { column = s.column; value = given_of s.value }

abbrev pub update_of : BoundUpdate → Update
update_of s = record { table = s.table; assignments = map assignment_of s.assignments; condition = term_in s.condition }

abbrev pub delete_of : BoundDelete → Delete
delete_of s = record { table = s.table; condition = term_in s.condition }

abbrev pub columns_of : BoundColumns → Option (List ℕ)
columns_of columns.All = None
columns_of (columns.Named numbers) = Some numbers

abbrev pub select_of : BoundSelect → Select
select_of s = record { columns = columns_of s.columns; table = s.table; condition = term_in s.condition; lock = s.lock }

abbrev pub statement_of : Bound → Statement
statement_of (bounds.Insert s) = Changes_rows (Inserts (insert_of s))
statement_of (bounds.Update s) = Changes_rows (Updates (update_of s))
statement_of (bounds.Delete s) = Changes_rows (Deletes (delete_of s))
statement_of (bounds.Select s) = Selects (select_of s)
statement_of (bounds.SetConstraints s) = Sets_constraints s
statement_of (bounds.Begin isolation) = Begins isolation
statement_of (bounds.StartTransaction isolation) = Starts_transaction isolation
statement_of bounds.Commit = Commits
statement_of bounds.Rollback = Rolls_back
statement_of (bounds.Savepoint name) = Makes_savepoint name
statement_of (bounds.Release name) = Releases_savepoint name
statement_of (bounds.RollbackTo name) = Rolls_back_to name

-- ---- what a statement that changes rows speaks of

abbrev pub table_of : Change_of_rows → ℕ
table_of (Inserts s) = s.table
table_of (Updates s) = s.table
table_of (Deletes s) = s.table

-- the columns that an UPDATE sets
abbrev pub set_columns : Change_of_rows → List ℕ
set_columns (Inserts s) = []
set_columns (Updates s) = map (λ a. a.column) s.assignments
set_columns (Deletes s) = []
