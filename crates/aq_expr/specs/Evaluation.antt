-- The value of an expression: what its operator gives at the values of its operands. Every operand is evaluated, and the first, from
-- the left, that has no value decides.
use Rattle.std.specs.Prelude.{Bool, Option, None, Result, Ok, Err}
use Rattle.std.specs.Option.{option_copied}
use Rattle.aq_base.specs.Values.{Row}
use Rattle.aq_base.specs.Terms.{Term, term_of}
use Rattle.aq_base.specs.Terms.Term.{Constant, Column, Old, New, Operation, Unary, Binary}
use Rattle.aq_base.specs.declared.script.Kind.{Kind}
use Rattle.aq_base.specs.declared.catalog.Op.{Op}
use Rattle.aq_base.specs.declared.bound_expr.BoundExpr.{BoundExpr}
use Rattle.aq_expr.specs.declared.env.Env.{Env}
use Rattle.aq_expr.specs.Operators.{Answer, with_value, with_both, unary_of, binary_of, truth_of, cell_of, operation_of}

-- what an expression is evaluated on; what is left out reads as null
pub record Surroundings : Type 0 where
  -- the row at hand
  pub row : Option Row
  pub old : Option Row
  pub new : Option Row
  -- the operation that fired the trigger
  pub op : Option Op

abbrev pub nothing_around : Surroundings
nothing_around = record { row = None; old = None; new = None; op = None }

abbrev pub term_value : Surroundings → Term → Answer
term_value around (Constant value) = Ok value
term_value around (Column column) = Ok (cell_of around.row column)
term_value around (Old column) = Ok (cell_of around.old column)
term_value around (New column) = Ok (cell_of around.new column)
term_value around Operation = Ok (operation_of around.op)
term_value around (Unary operator a) = with_value (term_value around a) (unary_of operator)
term_value around (Binary a operator b) = with_both (term_value around a) (term_value around b) (binary_of operator)

abbrev pub truth_answer : Answer → Result (Option Bool) Kind
truth_answer (Ok value) = Ok (truth_of value)
truth_answer (Err kind) = Err kind

-- the truth value of an expression, none at null
abbrev pub term_truth : Surroundings → Term → Result (Option Bool) Kind
term_truth around term = truth_answer (term_value around term)

-- ---- of bound expressions

abbrev pub surroundings_of : Env → Surroundings
surroundings_of env =
    record { row = option_copied env.row; old = option_copied env.old; new = option_copied env.new; op = env.op }

abbrev pub value_of : Env → BoundExpr → Answer
value_of env e = term_value (surroundings_of env) (term_of e)

abbrev pub truth_in : Env → BoundExpr → Result (Option Bool) Kind
truth_in env e = truth_answer (value_of env e)
