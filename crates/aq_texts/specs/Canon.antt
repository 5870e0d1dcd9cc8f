-- The canonical text of a script.
use Rattle.std.specs.Prelude.{ℤ, pos, negsuc, suc, Bool, true, false, List, [], ◌∷◌, ◌++◌, codes, flat_map, map, Option, Some, None, if◌then◌else◌}
use Rattle.aq_base.specs.Names.{Text}
use Rattle.aq_base.specs.declared.value.Value.{Value}
use Rattle.aq_base.specs.declared.value.Value.TheVariants.{Null, Bool as Truth, Int, Text as Words}
use Rattle.aq_base.specs.declared.expr.Comparison.{Comparison}
use Rattle.aq_base.specs.declared.expr.Comparison.TheVariants as comparisons
use Rattle.aq_base.specs.declared.expr.UnaryOperator.{UnaryOperator}
use Rattle.aq_base.specs.declared.expr.UnaryOperator.TheVariants as prefixes
use Rattle.aq_base.specs.declared.expr.BinaryOperator.{BinaryOperator}
use Rattle.aq_base.specs.declared.expr.BinaryOperator.TheVariants as infixes
use Rattle.aq_base.specs.declared.expr.Expr.{Expr, Expr-F, fold-Expr}
use Rattle.aq_base.specs.declared.expr.Expr.TheOpen as exprs
use Rattle.aq_base.specs.declared.data.Given.{Given}
use Rattle.aq_base.specs.declared.data.Given.TheVariants as givens
use Rattle.aq_base.specs.declared.data.Source.{Source}
use Rattle.aq_base.specs.declared.data.Source.TheVariants as sources
use Rattle.aq_base.specs.declared.data.Insert.{Insert}
use Rattle.aq_base.specs.declared.data.Assignment.{Assignment}
use Rattle.aq_base.specs.declared.data.Update.{Update}
use Rattle.aq_base.specs.declared.data.Delete.{Delete}
use Rattle.aq_base.specs.declared.data.Columns.{Columns}
use Rattle.aq_base.specs.declared.data.Columns.TheVariants as shown
use Rattle.aq_base.specs.declared.data.LockMode.{LockMode}
use Rattle.aq_base.specs.declared.data.LockMode.TheVariants as locks
use Rattle.aq_base.specs.declared.data.Select.{Select}
use Rattle.aq_base.specs.declared.modes.ConstraintMode.{ConstraintMode}
use Rattle.aq_base.specs.declared.modes.ConstraintMode.TheVariants as modes
use Rattle.aq_base.specs.declared.modes.Constraints.{Constraints}
use Rattle.aq_base.specs.declared.modes.Constraints.TheVariants as constrained
use Rattle.aq_base.specs.declared.modes.SetConstraints.{SetConstraints}
use Rattle.aq_base.specs.declared.body.BodyStatement.{BodyStatement, BodyStatement-F, fold-BodyStatement}
use Rattle.aq_base.specs.declared.body.BodyStatement.TheOpen as bodies
use Rattle.aq_base.specs.declared.body.ElseIf.{ElseIf, ElseIf-F, fold-ElseIf}
use Rattle.aq_base.specs.declared.body.Handler.{Handler, Handler-F, fold-Handler}
use Rattle.aq_base.specs.declared.body.Condition.{Condition}
use Rattle.aq_base.specs.declared.body.Condition.TheVariants as caught
use Rattle.aq_base.specs.declared.body.Body.{Body}
use Rattle.aq_base.specs.declared.body.Returned.{Returned}
use Rattle.aq_base.specs.declared.body.Returned.TheVariants as returns
use Rattle.aq_base.specs.declared.catalog.Decl.{Decl}
use Rattle.aq_base.specs.declared.constraint.Match.{Match}
use Rattle.aq_base.specs.declared.constraint.Match.TheVariants as matches
use Rattle.aq_base.specs.declared.constraint.Action.{Action}
use Rattle.aq_base.specs.declared.constraint.Action.TheVariants as actions
use Rattle.aq_base.specs.declared.constraint.Reference.{Reference}
use Rattle.aq_base.specs.declared.constraint.ColumnConstraint.{ColumnConstraint}
use Rattle.aq_base.specs.declared.constraint.ColumnConstraint.TheVariants as on_columns
use Rattle.aq_base.specs.declared.constraint.TableConstraint.{TableConstraint}
use Rattle.aq_base.specs.declared.constraint.TableConstraint.TheVariants as on_tables
use Rattle.aq_base.specs.declared.script.Kind.{Kind}
use Rattle.aq_base.specs.declared.script.Kind.TheVariants as kinds
use Rattle.aq_base.specs.declared.table.TableItem.{TableItem}
use Rattle.aq_base.specs.declared.table.TableItem.TheVariants as items
use Rattle.aq_base.specs.declared.table.CreateTable.{CreateTable}
use Rattle.aq_base.specs.declared.table.AlterTable.{AlterTable}
use Rattle.aq_base.specs.declared.trigger.TriggerEvent.{TriggerEvent}
use Rattle.aq_base.specs.declared.trigger.TriggerEvent.TheVariants as events
use Rattle.aq_base.specs.declared.trigger.Transition.{Transition}
use Rattle.aq_base.specs.declared.trigger.Transition.TheVariants as transitions
use Rattle.aq_base.specs.declared.trigger.TransitionTable.{TransitionTable}
use Rattle.aq_base.specs.declared.trigger.Each.{Each}
use Rattle.aq_base.specs.declared.trigger.Each.TheVariants as each
use Rattle.aq_base.specs.declared.trigger.CreateFunction.{CreateFunction}
use Rattle.aq_base.specs.declared.trigger.CreateTrigger.{CreateTrigger}
use Rattle.aq_base.specs.declared.trigger.CreateConstraintTrigger.{CreateConstraintTrigger}
use Rattle.aq_base.specs.declared.statement.Isolation.{Isolation}
use Rattle.aq_base.specs.declared.statement.Isolation.TheVariants as isolations
use Rattle.aq_base.specs.declared.statement.Statement.{Statement}
use Rattle.aq_base.specs.declared.statement.Statement.TheVariants as statements
use Rattle.aq_base.specs.declared.script.Placed.{Placed}
use Rattle.aq_base.specs.declared.script.SessionText.{SessionText}
use Rattle.aq_base.specs.declared.script.Item.{Item}
use Rattle.aq_base.specs.declared.script.Script.{Script}
use Rattle.aq_lex.specs.declared.token.Symbol.TheVariants.{CloseParen, Semicolon, Dot, Plus, Minus, Times, Equal, Unequal, Less, AtMost, Greater, AtLeast, DollarQuote}
use Rattle.aq_texts.specs.Written.{Written, say, Heading, Name, Number, Literal, Mark, Sign, Call, Repeat, separated, listed, in_parentheses, columns, written}
use Rattle.aq_lex.specs.declared.token.Directive.TheVariants.{Setup, Session, Schedule}

-- what is printed where it is there
abbrev pub perhaps : {A : Type 0} → (A → List Written) → Option A → List Written
perhaps print None = []
perhaps print (Some x) = print x

-- ---- constants and expressions

abbrev pub integer : ℤ → List Written
integer (pos n) = Number n ∷ []
integer (negsuc n) = Sign ∷ Number (suc n) ∷ []

abbrev pub constant : Value → List Written
constant Null = say (codes "NULL") ∷ []
constant (Truth true) = say (codes "TRUE") ∷ []
constant (Truth false) = say (codes "FALSE") ∷ []
constant (Int n) = integer n
constant (Words text) = Literal text ∷ []

abbrev pub comparison : Comparison → Written
comparison comparisons.Equal = Mark Equal
comparison comparisons.Unequal = Mark Unequal
comparison comparisons.Less = Mark Less
comparison comparisons.AtMost = Mark AtMost
comparison comparisons.Greater = Mark Greater
comparison comparisons.AtLeast = Mark AtLeast

-- an expression as it is printed: whether it is an atom, which has no operator outermost, and its tokens
pub record Operand : Type 0 where
  pub is_atom : Bool
  pub tokens : List Written

abbrev pub atom : List Written → Operand
atom tokens = record { is_atom = true; tokens = tokens }

abbrev pub operation : List Written → Operand
operation tokens = record { is_atom = false; tokens = tokens }

-- an operand that is an operator itself stands in parentheses
abbrev pub operand : Operand → List Written
operand o = if o.is_atom then o.tokens else in_parentheses o.tokens

-- an operator's words between two operands
abbrev pub between : Operand → List Written → Operand → Operand
between a words b = operation (operand a ++ (words ++ operand b))

-- an operator with its operand
abbrev pub unary : UnaryOperator → Operand → Operand
unary prefixes.Negate a = operation (Sign ∷ operand a)
unary prefixes.Not a = operation (say (codes "NOT") ∷ operand a)
unary prefixes.IsNull a = operation (operand a ++ say (codes "IS") ∷ say (codes "NULL") ∷ [])
unary prefixes.IsNotNull a = operation (operand a ++ say (codes "IS") ∷ say (codes "NOT") ∷ say (codes "NULL") ∷ [])

-- the words of an operator between its operands
abbrev pub infix_words : BinaryOperator → List Written
infix_words infixes.Multiply = Mark Times ∷ []
infix_words infixes.Add = Mark Plus ∷ []
infix_words infixes.Subtract = Mark Minus ∷ []
infix_words (infixes.Compare sign) = comparison sign ∷ []
infix_words infixes.IsDistinct = say (codes "IS") ∷ say (codes "DISTINCT") ∷ say (codes "FROM") ∷ []
infix_words infixes.IsNotDistinct = say (codes "IS") ∷ say (codes "NOT") ∷ say (codes "DISTINCT") ∷ say (codes "FROM") ∷ []
infix_words infixes.And = say (codes "AND") ∷ []
infix_words infixes.Or = say (codes "OR") ∷ []

abbrev pub expression_step : Expr-F Operand → Operand
expression_step (exprs.Constant value) = atom (constant value)
expression_step (exprs.Column column) = atom (Name column ∷ [])
expression_step (exprs.Qualified table column) = atom (Name table ∷ Mark Dot ∷ Name column ∷ [])
expression_step (exprs.Old column) = atom (say (codes "OLD") ∷ Mark Dot ∷ Name column ∷ [])
expression_step (exprs.New column) = atom (say (codes "NEW") ∷ Mark Dot ∷ Name column ∷ [])
expression_step exprs.Operation = atom (say (codes "TG_OP") ∷ [])
expression_step (exprs.Unary operator a) = unary operator a
expression_step (exprs.Binary a operator b) = between a (infix_words operator) b

abbrev pub printed : Expr → Operand
printed e = fold-Expr Operand expression_step e

abbrev pub expression : Expr → List Written
expression e = (printed e).tokens

-- ---- INSERT, UPDATE, DELETE, SELECT and SET CONSTRAINTS

abbrev pub given : Given → List Written
given (givens.Value e) = expression e
given givens.Default = say (codes "DEFAULT") ∷ []

abbrev pub where_part : Option Expr → List Written
where_part condition = perhaps (λ e. say (codes "WHERE") ∷ expression e) condition

abbrev pub source : Source → List Written
source (sources.Values rows) = say (codes "VALUES") ∷ listed (λ row. in_parentheses (listed given row)) rows
source (sources.Query values table condition) =
    say (codes "SELECT") ∷ (listed expression values ++ say (codes "FROM") ∷ Name table ∷ where_part condition)

abbrev pub insert : Insert → List Written
insert s = say (codes "INSERT") ∷ say (codes "INTO") ∷ Name s.table ∷ (perhaps columns s.columns ++ source s.source)

abbrev pub assignment : Assignment → List Written
assignment a = Name a.column ∷ Mark Equal ∷ given a.value

abbrev pub update : Update → List Written
update s = say (codes "UPDATE") ∷ Name s.table ∷ say (codes "SET") ∷ (listed assignment s.assignments ++ where_part s.condition)

abbrev pub delete : Delete → List Written
delete s = say (codes "DELETE") ∷ say (codes "FROM") ∷ Name s.table ∷ where_part s.condition

abbrev pub shown_columns : Columns → List Written
shown_columns shown.All = Mark Times ∷ []
shown_columns (shown.Named names) = listed (λ name. Name name ∷ []) names

abbrev pub lock : LockMode → List Written
lock locks.Update = say (codes "FOR") ∷ say (codes "UPDATE") ∷ []
lock locks.NoKeyUpdate = say (codes "FOR") ∷ say (codes "NO") ∷ say (codes "KEY") ∷ say (codes "UPDATE") ∷ []
lock locks.Share = say (codes "FOR") ∷ say (codes "SHARE") ∷ []
lock locks.KeyShare = say (codes "FOR") ∷ say (codes "KEY") ∷ say (codes "SHARE") ∷ []

abbrev pub select : Select → List Written
select s =
    say (codes "SELECT") ∷ (shown_columns s.columns ++ say (codes "FROM") ∷ Name s.table ∷ (where_part s.condition ++ perhaps lock s.lock))

abbrev pub constraints : Constraints → List Written
constraints constrained.All = say (codes "ALL") ∷ []
constraints (constrained.Named names) = listed (λ name. Name name ∷ []) names

abbrev pub mode : ConstraintMode → Written
mode modes.Deferred = say (codes "DEFERRED")
mode modes.Immediate = say (codes "IMMEDIATE")

abbrev pub set_constraints : SetConstraints → List Written
set_constraints s = say (codes "SET") ∷ say (codes "CONSTRAINTS") ∷ (constraints s.constraints ++ mode s.mode ∷ [])

-- ---- the code of a function

abbrev pub returned : Returned → Written
returned returns.Null = say (codes "NULL")
returned returns.New = say (codes "NEW")
returned returns.Old = say (codes "OLD")

-- statements of a code, each with its `;`
abbrev pub ended : List (List Written) → List Written
ended found = flat_map (λ tokens. tokens ++ Mark Semicolon ∷ []) found

abbrev pub condition : Condition → List Written
condition caught.Others = say (codes "OTHERS") ∷ []
condition (caught.SqlState code) = say (codes "SQLSTATE") ∷ Literal code.0 ∷ []
condition caught.UniqueViolation = say (codes "unique_violation") ∷ []
condition caught.ForeignKeyViolation = say (codes "foreign_key_violation") ∷ []
condition caught.NotNullViolation = say (codes "not_null_violation") ∷ []
condition caught.RaiseException = say (codes "raise_exception") ∷ []
condition caught.SerializationFailure = say (codes "serialization_failure") ∷ []
condition caught.DeadlockDetected = say (codes "deadlock_detected") ∷ []

-- handlers behind the statements of a block
abbrev pub exception : List (List Written) → List Written
exception [] = []
exception (first ∷ others) = say (codes "EXCEPTION") ∷ flat_map (λ tokens. tokens) (first ∷ others)

-- a block with its statements and its handlers
abbrev pub begin_end : List Written → List Written → List Written
begin_end statements handlers = say (codes "BEGIN") ∷ (statements ++ (handlers ++ say (codes "END") ∷ []))

abbrev pub handler_step : Handler-F (List Written) (List Written) (List Written) → List Written
handler_step handler =
    say (codes "WHEN") ∷ (separated (say (codes "OR")) condition handler.conditions ++ say (codes "THEN") ∷ ended handler.statements)

abbrev pub else_if_step : ElseIf-F (List Written) (List Written) (List Written) → List Written
else_if_step branch = say (codes "ELSIF") ∷ (expression branch.condition ++ say (codes "THEN") ∷ ended branch.then)

abbrev pub body_step : BodyStatement-F (List Written) (List Written) (List Written) → List Written
body_step (bodies.If condition first others last) =
    say (codes "IF")
    ∷ (expression condition ++ say (codes "THEN")
    ∷ (ended first ++ (flat_map (λ branch. branch) others ++ (perhaps (λ found. say (codes "ELSE") ∷ ended found) last ++ say (codes "END") ∷ say (codes "IF") ∷ []))))
body_step (bodies.Raise text) = say (codes "RAISE") ∷ say (codes "EXCEPTION") ∷ Literal text ∷ []
body_step (bodies.Return what) = say (codes "RETURN") ∷ returned what ∷ []
body_step (bodies.Insert s) = insert s
body_step (bodies.Update s) = update s
body_step (bodies.Delete s) = delete s
body_step (bodies.SetConstraints s) = set_constraints s
body_step (bodies.Block statements handlers) = begin_end (ended statements) (exception handlers)

abbrev pub body_statement : BodyStatement → List Written
body_statement s = fold-BodyStatement (List Written) (List Written) (List Written) body_step else_if_step handler_step s

abbrev pub else_if : ElseIf → List Written
else_if branch = fold-ElseIf (List Written) (List Written) (List Written) body_step else_if_step handler_step branch

abbrev pub handler : Handler → List Written
handler h = fold-Handler (List Written) (List Written) (List Written) body_step else_if_step handler_step h

abbrev pub block : List BodyStatement → List Written
block found = ended (map body_statement found)

abbrev pub body : Body → List Written
body b = begin_end (block b.statements) (exception (map handler b.handlers))

-- ---- tables

abbrev pub kind : Kind → Written
kind kinds.Integer = say (codes "integer")
kind kinds.Bigint = say (codes "bigint")
kind kinds.Boolean = say (codes "boolean")
kind kinds.Text = say (codes "text")

abbrev pub constraint_name : Option Text → List Written
constraint_name name = perhaps (λ n. say (codes "CONSTRAINT") ∷ Name n ∷ []) name

-- MATCH SIMPLE is left out
abbrev pub matching : Match → List Written
matching matches.Simple = []
matching matches.Full = say (codes "MATCH") ∷ say (codes "FULL") ∷ []

-- behind ON DELETE or ON UPDATE; NO ACTION is left out
abbrev pub action_on : Text → Action → List Written
action_on event actions.NoAction = []
action_on event actions.Restrict = say (codes "ON") ∷ say event ∷ say (codes "RESTRICT") ∷ []
action_on event actions.Cascade = say (codes "ON") ∷ say event ∷ say (codes "CASCADE") ∷ []
action_on event actions.SetNull = say (codes "ON") ∷ say event ∷ say (codes "SET") ∷ say (codes "NULL") ∷ []
action_on event actions.SetDefault = say (codes "ON") ∷ say event ∷ say (codes "SET") ∷ say (codes "DEFAULT") ∷ []

-- NOT DEFERRABLE and INITIALLY IMMEDIATE are left out
abbrev pub timing : Decl → List Written
timing decl =
    (if decl.deferrable then say (codes "DEFERRABLE") ∷ [] else [])
    ++ (if decl.deferred then say (codes "INITIALLY") ∷ say (codes "DEFERRED") ∷ [] else [])

abbrev pub reference : Reference → List Written
reference r =
    say (codes "REFERENCES") ∷ Name r.table
    ∷ (perhaps columns r.columns ++ (matching r.matching ++ (action_on (codes "DELETE") r.on_delete
    ++ (perhaps columns r.set_columns ++ (action_on (codes "UPDATE") r.on_update ++ timing r.timing)))))

abbrev pub column_constraint : ColumnConstraint → List Written
column_constraint on_columns.NotNull = say (codes "NOT") ∷ say (codes "NULL") ∷ []
column_constraint (on_columns.Default value) = say (codes "DEFAULT") ∷ constant value
column_constraint (on_columns.PrimaryKey name) = constraint_name name ++ say (codes "PRIMARY") ∷ say (codes "KEY") ∷ []
column_constraint (on_columns.Unique name) = constraint_name name ++ say (codes "UNIQUE") ∷ []
column_constraint (on_columns.References name r) = constraint_name name ++ reference r

abbrev pub table_constraint : TableConstraint → List Written
table_constraint (on_tables.PrimaryKey name cols) = constraint_name name ++ say (codes "PRIMARY") ∷ say (codes "KEY") ∷ columns cols
table_constraint (on_tables.Unique name cols) = constraint_name name ++ say (codes "UNIQUE") ∷ columns cols
table_constraint (on_tables.ForeignKey name cols r) = constraint_name name ++ say (codes "FOREIGN") ∷ say (codes "KEY") ∷ (columns cols ++ reference r)

abbrev pub table_item : TableItem → List Written
table_item (items.Column name k found) = Name name ∷ kind k ∷ flat_map column_constraint found
table_item (items.Constraint constraint) = table_constraint constraint

abbrev pub create_table : CreateTable → List Written
create_table s = say (codes "CREATE") ∷ say (codes "TABLE") ∷ Name s.table ∷ in_parentheses (listed table_item s.items)

abbrev pub alter_table : AlterTable → List Written
alter_table s = say (codes "ALTER") ∷ say (codes "TABLE") ∷ Name s.table ∷ say (codes "ADD") ∷ table_constraint s.constraint

-- ---- functions and triggers

abbrev pub function : Text → List Written
function name = Name name ∷ Call ∷ Mark CloseParen ∷ []

abbrev pub create_function : CreateFunction → List Written
create_function s =
    say (codes "CREATE") ∷ say (codes "FUNCTION")
    ∷ (function s.name ++ say (codes "RETURNS") ∷ say (codes "trigger") ∷ say (codes "LANGUAGE") ∷ say (codes "plpgsql") ∷ say (codes "AS") ∷ Mark DollarQuote
    ∷ (body s.body ++ Mark DollarQuote ∷ []))

abbrev pub trigger_event : TriggerEvent → List Written
trigger_event events.Insert = say (codes "INSERT") ∷ []
trigger_event events.Delete = say (codes "DELETE") ∷ []
trigger_event (events.Update cols) = say (codes "UPDATE") ∷ perhaps (λ names. say (codes "OF") ∷ listed (λ name. Name name ∷ []) names) cols

-- from the name on: AFTER, the events and the table
abbrev pub fires_on : Text → List TriggerEvent → Text → List Written
fires_on name found table = Name name ∷ say (codes "AFTER") ∷ (separated (say (codes "OR")) trigger_event found ++ say (codes "ON") ∷ Name table ∷ [])

abbrev pub transition : Transition → Written
transition transitions.Old = say (codes "OLD")
transition transitions.New = say (codes "NEW")

abbrev pub transition_table : TransitionTable → List Written
transition_table t = transition t.transition ∷ say (codes "TABLE") ∷ say (codes "AS") ∷ Name t.name ∷ []

abbrev pub referencing : List TransitionTable → List Written
referencing tables = say (codes "REFERENCING") ∷ flat_map transition_table tables

abbrev pub for_each : Each → List Written
for_each each.Row = say (codes "FOR") ∷ say (codes "EACH") ∷ say (codes "ROW") ∷ []
for_each each.Statement = say (codes "FOR") ∷ say (codes "EACH") ∷ say (codes "STATEMENT") ∷ []

abbrev pub when_part : Option Expr → List Written
when_part condition = perhaps (λ e. say (codes "WHEN") ∷ in_parentheses (expression e)) condition

abbrev pub executes : Text → List Written
executes name = say (codes "EXECUTE") ∷ say (codes "FUNCTION") ∷ function name

abbrev pub create_trigger : CreateTrigger → List Written
create_trigger s =
    say (codes "CREATE") ∷ say (codes "TRIGGER")
    ∷ (fires_on s.name s.events s.table ++ (perhaps referencing s.transitions ++ (for_each s.each ++ (when_part s.condition ++ executes s.function))))

abbrev pub create_constraint_trigger : CreateConstraintTrigger → List Written
create_constraint_trigger s =
    say (codes "CREATE") ∷ say (codes "CONSTRAINT") ∷ say (codes "TRIGGER")
    ∷ (fires_on s.name s.events s.table ++ (timing s.timing ++ (for_each each.Row ++ (when_part s.condition ++ executes s.function))))

-- ---- statements

-- Words that may be left out are left out, as WORK, and SAVEPOINT before a savepoint's name. READ COMMITTED is left out too.
abbrev pub isolation : Isolation → List Written
isolation isolations.ReadCommitted = []
isolation isolations.RepeatableRead = say (codes "ISOLATION") ∷ say (codes "LEVEL") ∷ say (codes "REPEATABLE") ∷ say (codes "READ") ∷ []

abbrev pub statement : Statement → List Written
statement (statements.CreateTable s) = create_table s
statement (statements.AlterTable s) = alter_table s
statement (statements.CreateFunction s) = create_function s
statement (statements.CreateTrigger s) = create_trigger s
statement (statements.CreateConstraintTrigger s) = create_constraint_trigger s
statement (statements.Insert s) = insert s
statement (statements.Update s) = update s
statement (statements.Delete s) = delete s
statement (statements.Select s) = select s
statement (statements.SetConstraints s) = set_constraints s
statement (statements.Begin level) = say (codes "BEGIN") ∷ isolation level
statement (statements.StartTransaction level) = say (codes "START") ∷ say (codes "TRANSACTION") ∷ isolation level
statement statements.Commit = say (codes "COMMIT") ∷ []
statement statements.Rollback = say (codes "ROLLBACK") ∷ []
statement (statements.Savepoint name) = say (codes "SAVEPOINT") ∷ Name name ∷ []
statement (statements.Release name) = say (codes "RELEASE") ∷ Name name ∷ []
statement (statements.RollbackTo name) = say (codes "ROLLBACK") ∷ say (codes "TO") ∷ Name name ∷ []

-- a line of tokens
abbrev pub line : List Written → Text
line tokens = written tokens ++ 10 ∷ []

-- a statement is one line, with its `;`
abbrev pub statement_tokens : Statement → List Written
statement_tokens s = statement s ++ Mark Semicolon ∷ []

abbrev pub statement_line : Statement → Text
statement_line s = line (statement_tokens s)

-- ---- scripts

abbrev pub placed_lines : List Placed → List (List Written)
placed_lines found = map (λ placed. statement_tokens placed.statement) found

-- the setup is printed only where it holds a statement
abbrev pub setup_lines : List Placed → List (List Written)
setup_lines [] = []
setup_lines (first ∷ others) = (Heading Setup ∷ []) ∷ placed_lines (first ∷ others)

abbrev pub session_lines : SessionText → List (List Written)
session_lines session = (Heading Session ∷ Name session.name ∷ []) ∷ placed_lines session.statements

-- `NAME*K`
abbrev pub item : Item → List Written
item found = Name found.name ∷ Repeat ∷ Number found.count ∷ []

abbrev pub schedule_lines : Option (List Item) → List (List Written)
schedule_lines None = []
schedule_lines (Some found) = (Heading Schedule ∷ flat_map item found) ∷ []

abbrev pub script_lines : Script → List (List Written)
script_lines script = setup_lines script.setup ++ (flat_map session_lines script.sessions ++ schedule_lines script.schedule)

-- the canonical text of a script
abbrev pub canon : Script → Text
canon script = flat_map line (script_lines script)
