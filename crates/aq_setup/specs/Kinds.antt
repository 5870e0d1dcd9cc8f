-- The kinds of expressions and the faults of kinds, from left to right, operands before their operator (PostgreSQL manual, chapter "Type
-- Conversion"). A NULL literal has no kind of its own and fits every kind. Integer and bigint fit each other.
use Rattle.std.specs.Prelude.{Bool, true, false, ◌&&◌, List, [], ◌∷◌, ◌++◌, codes, Option, Some, None, if◌then◌else◌, zip}
use Rattle.std.specs.List.{flat_map}
use Rattle.aq_base.specs.Names.{Text}
use Rattle.aq_base.specs.declared.fault.SqlFault.{SqlFault}
use Rattle.aq_base.specs.declared.value.Value.{Value}
use Rattle.aq_base.specs.declared.value.Value.TheVariants as values
use Rattle.aq_base.specs.declared.script.Kind.{Kind}
use Rattle.aq_base.specs.declared.script.Kind.TheVariants as kinds
use Rattle.aq_base.specs.declared.expr.Comparison.{Comparison}
use Rattle.aq_base.specs.declared.expr.Comparison.TheVariants as comparisons
use Rattle.aq_base.specs.declared.expr.UnaryOperator.{UnaryOperator}
use Rattle.aq_base.specs.declared.expr.UnaryOperator.TheVariants as unary
use Rattle.aq_base.specs.declared.expr.BinaryOperator.{BinaryOperator}
use Rattle.aq_base.specs.declared.expr.BinaryOperator.TheVariants as binary
use Rattle.aq_base.specs.declared.expr.Expr.{Expr, Expr-F, fold-Expr}
use Rattle.aq_base.specs.declared.expr.Expr.TheOpen as exprs
use Rattle.aq_base.specs.declared.data.Given.{Given}
use Rattle.aq_base.specs.declared.data.Given.TheVariants as givens
use Rattle.aq_base.specs.declared.data.Source.{Source}
use Rattle.aq_base.specs.declared.data.Source.TheVariants as sources
use Rattle.aq_base.specs.declared.data.Insert.{Insert}
use Rattle.aq_base.specs.declared.data.Assignment.{Assignment}
use Rattle.aq_base.specs.declared.data.Update.{Update}
use Rattle.aq_base.specs.declared.data.Delete.{Delete}
use Rattle.aq_base.specs.declared.data.Select.{Select}
use Rattle.aq_base.specs.declared.catalog.Column.{Column}
use Rattle.aq_catalog.specs.Catalogs.{table_columns, column_kind}
use Rattle.aq_setup.specs.Scopes.{Setting, Scope, no_row, table_scope, query_scope, qualified_cols}
use Rattle.aq_refusals.specs.Faults.{wrong_value, no_boolean, no_operator, no_negation}

abbrev pub is_number : Kind → Bool
is_number kinds.Integer = true
is_number kinds.Bigint = true
is_number kinds.Boolean = false
is_number kinds.Text = false

abbrev pub is_boolean : Kind → Bool
is_boolean kinds.Boolean = true
is_boolean _ = false

abbrev pub same_kind : Kind → Kind → Bool
same_kind kinds.Integer b = is_number b
same_kind kinds.Bigint b = is_number b
same_kind kinds.Boolean b = is_boolean b
same_kind kinds.Text kinds.Text = true
same_kind kinds.Text b = false

abbrev pub constant_kind : Value → Option Kind
constant_kind values.Null = None
constant_kind (values.Bool b) = Some kinds.Boolean
constant_kind (values.Int n) = Some kinds.Integer
constant_kind (values.Text text) = Some kinds.Text

-- ---- operators

-- the kind of an expression, and the faults in it
pub record Kinded : Type 0 where
  pub kind : Option Kind
  pub faults : List SqlFault

abbrev pub of_kind : Option Kind → Kinded
of_kind kind = record { kind = kind; faults = [] }

-- the kinds of two operands: a NULL literal has that of the operand beside it. None where both are NULL literals, which fit every operator.
abbrev pub operand_kinds : Option Kind → Option Kind → Option (Kind × Kind)
operand_kinds (Some a) (Some b) = Some (a, b)
operand_kinds (Some a) None = Some (a, a)
operand_kinds None (Some b) = Some (b, b)
operand_kinds None None = None

abbrev pub operator_faults : (Kind → Kind → Bool) → Text → Option (Kind × Kind) → List SqlFault
operator_faults fits sign None = []
operator_faults fits sign (Some found) = if fits found.0 found.1 then [] else no_operator found.0 sign found.1 ∷ []

-- the operands of a sum, a difference or a product are numbers
abbrev pub number_faults : Text → Option Kind → Option Kind → List SqlFault
number_faults sign a b = operator_faults (λ x y. is_number x && is_number y) sign (operand_kinds a b)

-- both sides of a comparison have one kind
abbrev pub comparison_faults : Text → Option Kind → Option Kind → List SqlFault
comparison_faults sign a b = operator_faults same_kind sign (operand_kinds a b)

abbrev pub comparison_sign : Comparison → Text
comparison_sign comparisons.Equal = codes "="
comparison_sign comparisons.Unequal = codes "<>"
comparison_sign comparisons.Less = codes "<"
comparison_sign comparisons.AtMost = codes "<="
comparison_sign comparisons.Greater = codes ">"
comparison_sign comparisons.AtLeast = codes ">="

abbrev pub negation_faults : Option Kind → List SqlFault
negation_faults None = []
negation_faults (Some kind) = if is_number kind then [] else no_negation kind ∷ []

-- the argument of WHERE, AND, OR, NOT, WHEN or IF is boolean
abbrev pub argument_faults : Text → Option Kind → List SqlFault
argument_faults word None = []
argument_faults word (Some kind) = if is_boolean kind then [] else no_boolean word kind ∷ []

abbrev pub truth_faults : Text → Option Kind → Option Kind → List SqlFault
truth_faults word a b = argument_faults word a ++ argument_faults word b

-- what an operator finds wrong with the kinds of its operands. IS [NOT] DISTINCT FROM is told as `=`.
abbrev pub unary_faults : UnaryOperator → Option Kind → List SqlFault
unary_faults unary.Negate a = negation_faults a
unary_faults unary.Not a = argument_faults (codes "NOT") a
unary_faults unary.IsNull a = []
unary_faults unary.IsNotNull a = []

abbrev pub binary_faults : BinaryOperator → Option Kind → Option Kind → List SqlFault
binary_faults binary.Multiply a b = number_faults (codes "*") a b
binary_faults binary.Add a b = number_faults (codes "+") a b
binary_faults binary.Subtract a b = number_faults (codes "-") a b
binary_faults (binary.Compare comparison) a b = comparison_faults (comparison_sign comparison) a b
binary_faults binary.IsDistinct a b = comparison_faults (codes "=") a b
binary_faults binary.IsNotDistinct a b = comparison_faults (codes "=") a b
binary_faults binary.And a b = truth_faults (codes "AND") a b
binary_faults binary.Or a b = truth_faults (codes "OR") a b

-- the kind of what an operator gives: a negation, a sum, a difference or a product is bigint, all else is boolean
abbrev pub unary_kind : UnaryOperator → Kind
unary_kind unary.Negate = kinds.Bigint
unary_kind unary.Not = kinds.Boolean
unary_kind unary.IsNull = kinds.Boolean
unary_kind unary.IsNotNull = kinds.Boolean

abbrev pub binary_kind : BinaryOperator → Kind
binary_kind binary.Multiply = kinds.Bigint
binary_kind binary.Add = kinds.Bigint
binary_kind binary.Subtract = kinds.Bigint
binary_kind (binary.Compare comparison) = kinds.Boolean
binary_kind binary.IsDistinct = kinds.Boolean
binary_kind binary.IsNotDistinct = kinds.Boolean
binary_kind binary.And = kinds.Boolean
binary_kind binary.Or = kinds.Boolean

abbrev pub kinded_step : Scope → Expr-F Kinded → Kinded
kinded_step scope (exprs.Constant value) = of_kind (constant_kind value)
kinded_step scope (exprs.Column column) = of_kind (column_kind scope.cols column)
kinded_step scope (exprs.Qualified table column) = of_kind (column_kind (qualified_cols scope table) column)
kinded_step scope (exprs.Old column) = of_kind (column_kind scope.changed column)
kinded_step scope (exprs.New column) = of_kind (column_kind scope.changed column)
kinded_step scope exprs.Operation = of_kind (Some kinds.Text)
kinded_step scope (exprs.Unary operator a) =
    record { kind = Some (unary_kind operator); faults = a.faults ++ unary_faults operator a.kind }
kinded_step scope (exprs.Binary a operator b) =
    record { kind = Some (binary_kind operator); faults = a.faults ++ (b.faults ++ binary_faults operator a.kind b.kind) }

abbrev pub kinded : Scope → Expr → Kinded
kinded scope e = fold-Expr Kinded (kinded_step scope) e

-- ---- conditions and values that are stored

abbrev pub boolean_kinds : Text → Scope → Expr → List SqlFault
boolean_kinds word scope e = (kinded scope e).faults ++ argument_faults word (kinded scope e).kind

abbrev pub where_kinds : Scope → Option Expr → List SqlFault
where_kinds scope None = []
where_kinds scope (Some e) = boolean_kinds (codes "WHERE") scope e

-- a value that goes into a column: its own faults, then whether it fits
abbrev pub stored_faults : Text → Option Kind → Option Kind → List SqlFault
stored_faults column (Some wanted) (Some found) = if same_kind wanted found then [] else wrong_value column wanted found ∷ []
stored_faults column (Some wanted) None = []
stored_faults column None found = []

abbrev pub value_kinds : Scope → Text → Option Kind → Expr → List SqlFault
value_kinds scope column wanted e = (kinded scope e).faults ++ stored_faults column wanted (kinded scope e).kind

abbrev pub given_kinds : Scope → Text → Option Kind → Given → List SqlFault
given_kinds scope column wanted (givens.Value e) = value_kinds scope column wanted e
given_kinds scope column wanted givens.Default = []

-- ---- statements

-- the columns that the values of an INSERT go to: those that are named, else the first ones of the table
abbrev pub targets : List Column → Option (List Text) → List (Text × Option Kind)
targets cols None = flat_map (λ col. (col.name, Some col.kind) ∷ []) cols
targets cols (Some names) = flat_map (λ name. (name, column_kind cols name) ∷ []) names

abbrev pub row_kinds : Scope → List (Text × Option Kind) → List Given → List SqlFault
row_kinds scope into row = flat_map (λ pair. given_kinds scope pair.0.0 pair.0.1 pair.1) (zip into row)

abbrev pub query_kinds : Scope → List (Text × Option Kind) → List Expr → List SqlFault
query_kinds scope into found = flat_map (λ pair. value_kinds scope pair.0.0 pair.0.1 pair.1) (zip into found)

abbrev pub source_kinds : Setting → List (Text × Option Kind) → Source → List SqlFault
source_kinds setting into (sources.Values rows) = flat_map (row_kinds (no_row setting.changed) into) rows
source_kinds setting into (sources.Query found table condition) =
    query_kinds (query_scope setting table) into found ++ where_kinds (query_scope setting table) condition

abbrev pub insert_kinds : Setting → Insert → List SqlFault
insert_kinds setting s = source_kinds setting (targets (table_columns setting.catalog s.table) s.columns) s.source

abbrev pub assignment_kinds : Scope → Assignment → List SqlFault
assignment_kinds scope a = given_kinds scope a.column (column_kind scope.cols a.column) a.value

abbrev pub update_kinds : Setting → Update → List SqlFault
update_kinds setting s =
    flat_map (assignment_kinds (table_scope setting s.table)) s.assignments ++ where_kinds (table_scope setting s.table) s.condition

abbrev pub delete_kinds : Setting → Delete → List SqlFault
delete_kinds setting s = where_kinds (table_scope setting s.table) s.condition

abbrev pub select_kinds : Setting → Select → List SqlFault
select_kinds setting s = where_kinds (table_scope setting s.table) s.condition
