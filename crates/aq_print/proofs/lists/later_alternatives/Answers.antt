use Rattle.std.proofs.Common.{◌∷◌, codes}
use Rattle.aq_texts.specs.Written.{say}
use Rattle.aq_print.proofs.Printing.{put_all_next}
use Rattle.aq_print.proofs.lists.later_alternatives.Goals as goal

pub loop-form-preserved : goal.loop-form-preserved
loop-form-preserved g c =
    put_all_next c.args.printer.now c.loop-form.printer c.next_alternative.new.printer (λ form. say (codes "OR") ∷ g.T.Prints.tokens form) c.args.forms.now c.loop-form.form-index
    c.form-item.result c.loop-form-test.true c.form-item.is c.loop-form.invariant c.in_ok-next_alternative.ensures
