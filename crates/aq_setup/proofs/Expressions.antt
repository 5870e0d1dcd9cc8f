-- The names and the kinds of expressions, form by form.
use Rattle.std.proofs.Common.{◌≡◌, List, [], ◌++◌, Some, sym, ap, ◌∙◌}
use Rattle.aq_base.specs.Names.{Text}
use Rattle.aq_base.specs.declared.value.Value.{Value}
use Rattle.aq_base.specs.declared.expr.BinaryOperator.{BinaryOperator}
use Rattle.aq_base.specs.declared.expr.Expr.{Expr, fold-roll-Expr}
use Rattle.aq_base.specs.declared.expr.Expr.TheVariants.{Constant, Column, Binary, rolls-Constant, rolls-Column, rolls-Binary}
use Rattle.aq_setup.specs.Scopes.{Scope}
use Rattle.aq_setup.specs.Names.{unknown, unknown_columns, unknown_step}
use Rattle.aq_setup.specs.Kinds.{Kinded, of_kind, constant_kind, binary_faults, binary_kind, kinded, kinded_step}
use Rattle.aq_catalog.specs.Catalogs.{column_kind}

pub constant_names : (scope : Scope) (value : Value) → unknown_columns scope (Constant value) ≡ []
constant_names scope value = ap (unknown_columns scope) (sym (rolls-Constant value)) ∙ fold-roll-Expr (List Text) (unknown_step scope) _

pub column_names : (scope : Scope) (column : Text) → unknown_columns scope (Column column) ≡ unknown scope.cols column
column_names scope column = ap (unknown_columns scope) (sym (rolls-Column column)) ∙ fold-roll-Expr (List Text) (unknown_step scope) _

pub binary_names : (scope : Scope) (a : Expr) (operator : BinaryOperator) (b : Expr)
    → unknown_columns scope (Binary a operator b) ≡ unknown_columns scope a ++ unknown_columns scope b
binary_names scope a operator b = ap (unknown_columns scope) (sym (rolls-Binary a operator b)) ∙ fold-roll-Expr (List Text) (unknown_step scope) _

pub constant_kinded : (scope : Scope) (value : Value) → kinded scope (Constant value) ≡ of_kind (constant_kind value)
constant_kinded scope value = ap (kinded scope) (sym (rolls-Constant value)) ∙ fold-roll-Expr Kinded (kinded_step scope) _

pub column_kinded : (scope : Scope) (column : Text) → kinded scope (Column column) ≡ of_kind (column_kind scope.cols column)
column_kinded scope column = ap (kinded scope) (sym (rolls-Column column)) ∙ fold-roll-Expr Kinded (kinded_step scope) _

pub binary_kinded : (scope : Scope) (a : Expr) (operator : BinaryOperator) (b : Expr)
    → kinded scope (Binary a operator b)
    ≡ record {
      kind = Some (binary_kind operator);
      faults = (kinded scope a).faults ++ ((kinded scope b).faults ++ binary_faults operator (kinded scope a).kind (kinded scope b).kind);
    }
binary_kinded scope a operator b = ap (kinded scope) (sym (rolls-Binary a operator b)) ∙ fold-roll-Expr Kinded (kinded_step scope) _
