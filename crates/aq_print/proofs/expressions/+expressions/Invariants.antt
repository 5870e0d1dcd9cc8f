use Rattle.std.proofs.Common.{◌+◌, ◌*◌, max}
use Rattle.aq_base.proofs.expr.Expr.TheLaws.{the_size}
use Rattle.aq_print.proofs.expressions.+expressions.Given as goal

abbrev pub decreases-operand : goal.decreases-operand
decreases-operand l = 4 * the_size l.boxed.now + 1

abbrev pub decreases-between : goal.decreases-between
decreases-between l = 4 * max (the_size l.left.now) (the_size l.right.now) + 2

abbrev pub decreases-unary : goal.decreases-unary
decreases-unary l = 4 * the_size l.boxed.now + 2

abbrev pub decreases-expression : goal.decreases-expression
decreases-expression l = 4 * the_size l.expr.now
