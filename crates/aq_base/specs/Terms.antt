-- Expressions as data that contracts compute with: a bound expression without its boxes.
use Rattle.std.specs.Prelude.{ℕ}
use Rattle.aq_base.specs.declared.value.Value.{Value}
use Rattle.aq_base.specs.declared.expr.UnaryOperator.{UnaryOperator}
use Rattle.aq_base.specs.declared.expr.BinaryOperator.{BinaryOperator}
use Rattle.aq_base.specs.declared.bound_expr.BoundExpr.{BoundExpr, BoundExpr-F, fold-BoundExpr}
use Rattle.aq_base.specs.declared.bound_expr.BoundExpr.TheOpen as exprs

pub data Term : Type 0 where
  Constant : (value : Value) → Term
  -- a column of the row at hand
  Column : (column : ℕ) → Term
  Old : (column : ℕ) → Term
  New : (column : ℕ) → Term
  -- the operation that fired the trigger
  Operation : Term
  Unary : (operator : UnaryOperator) → (operand : Term) → Term
  Binary : (left : Term) → (operator : BinaryOperator) → (right : Term) → Term

abbrev pub term_step : BoundExpr-F Term → Term
term_step (exprs.Constant value) = Constant value
term_step (exprs.Column column) = Column column
term_step (exprs.Old column) = Old column
term_step (exprs.New column) = New column
term_step exprs.Operation = Operation
term_step (exprs.Unary operator a) = Unary operator a
term_step (exprs.Binary a operator b) = Binary a operator b

abbrev pub term_of : BoundExpr → Term
term_of = fold-BoundExpr Term term_step
