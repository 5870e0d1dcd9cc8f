-- How each form of an expression is printed.
use Rattle.std.proofs.Common.{◌≡◌, [], ◌∷◌, ◌++◌, sym, ap, ◌∙◌, codes}
use Rattle.aq_base.specs.Names.{Text}
use Rattle.aq_base.specs.declared.value.Value.{Value}
use Rattle.aq_base.specs.declared.expr.Expr.{Expr, fold-roll-Expr}
use Rattle.aq_base.specs.declared.expr.Expr.TheVariants.{Constant, Column, Qualified, Old, New, Operation, Unary, Binary, rolls-Constant, rolls-Column, rolls-Qualified, rolls-Old, rolls-New, rolls-Operation, rolls-Unary, rolls-Binary}
use Rattle.aq_base.specs.declared.expr.UnaryOperator.{UnaryOperator}
use Rattle.aq_base.specs.declared.expr.BinaryOperator.{BinaryOperator}
use Rattle.aq_lex.specs.declared.token.Symbol.TheVariants.{Dot}
use Rattle.aq_texts.specs.Written.{say, Name, Mark}
use Rattle.aq_texts.specs.Canon.{Operand, constant, atom, unary, infix_words, between, expression_step, printed}

pub constant_is : (value : Value) → printed (Constant value) ≡ atom (constant value)
constant_is value = ap printed (sym (rolls-Constant value)) ∙ fold-roll-Expr Operand expression_step _

pub column_is : (column : Text) → printed (Column column) ≡ atom (Name column ∷ [])
column_is column = ap printed (sym (rolls-Column column)) ∙ fold-roll-Expr Operand expression_step _

pub qualified_is : (table column : Text) → printed (Qualified table column) ≡ atom (Name table ∷ Mark Dot ∷ Name column ∷ [])
qualified_is table column = ap printed (sym (rolls-Qualified table column)) ∙ fold-roll-Expr Operand expression_step _

pub old_is : (column : Text) → printed (Old column) ≡ atom (say (codes "OLD") ∷ Mark Dot ∷ Name column ∷ [])
old_is column = ap printed (sym (rolls-Old column)) ∙ fold-roll-Expr Operand expression_step _

pub new_is : (column : Text) → printed (New column) ≡ atom (say (codes "NEW") ∷ Mark Dot ∷ Name column ∷ [])
new_is column = ap printed (sym (rolls-New column)) ∙ fold-roll-Expr Operand expression_step _

pub unary_is : (operator : UnaryOperator) (a : Expr) → printed (Unary operator a) ≡ unary operator (printed a)
unary_is operator a = ap printed (sym (rolls-Unary operator a)) ∙ fold-roll-Expr Operand expression_step _

pub binary_is : (a : Expr) (operator : BinaryOperator) (b : Expr) → printed (Binary a operator b) ≡ between (printed a) (infix_words operator) (printed b)
binary_is a operator b = ap printed (sym (rolls-Binary a operator b)) ∙ fold-roll-Expr Operand expression_step _

pub operation_is : printed Operation ≡ atom (say (codes "TG_OP") ∷ [])
operation_is = ap printed (sym rolls-Operation) ∙ fold-roll-Expr Operand expression_step _
