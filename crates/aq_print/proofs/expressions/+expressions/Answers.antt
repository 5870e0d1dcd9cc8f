use Rattle.std.proofs.Common.{[], ◌∷◌, ◌∙◌, ap, sym, codes}
use Rattle.aq_texts.specs.Written.{say}
use Rattle.aq_texts.specs.Canon.{printed, operand, unary}
use Rattle.aq_base.specs.declared.expr.UnaryOperator.{UnaryOperator}
use Rattle.aq_print.specs.Printing.{put_all}
use Rattle.aq_print.proofs.Printing.{behind_tokens, on_ok}
use Rattle.aq_print.proofs.expressions.+expressions.Goals as goal

pub unary-returns-in_ok-operand-in-IsNull : goal.unary-returns-in_ok-operand-in-IsNull
unary-returns-in_ok-operand-in-IsNull t c =
    on_ok _ _ _ _ c.words.ensures (
    behind_tokens c.args.printer.now c.operand-in-IsNull.new.printer (operand (printed c.args.boxed.now)) (say (codes "IS") ∷ say (codes "NULL") ∷ []) c.in_ok-operand-in-IsNull.ensures
    ∙ ap (λ (o : UnaryOperator). put_all c.args.printer.now (unary o (printed c.args.boxed.now)).tokens) (sym c.in-IsNull.is))

pub unary-returns-in_ok-operand-in-IsNotNull : goal.unary-returns-in_ok-operand-in-IsNotNull
unary-returns-in_ok-operand-in-IsNotNull t c =
    on_ok _ _ _ _ c.words-in-IsNotNull.ensures (
    behind_tokens c.args.printer.now c.operand-in-IsNotNull.new.printer (operand (printed c.args.boxed.now)) (say (codes "IS") ∷ say (codes "NOT") ∷ say (codes "NULL") ∷ []) c.in_ok-operand-in-IsNotNull.ensures
    ∙ ap (λ (o : UnaryOperator). put_all c.args.printer.now (unary o (printed c.args.boxed.now)).tokens) (sym c.in-IsNotNull.is))
