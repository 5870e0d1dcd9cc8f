use Rattle.aq_print.proofs.Printing.{put_all_next}
use Rattle.aq_print.proofs.lists.one_by_one.Goals as goal

pub loop-form-preserved : goal.loop-form-preserved
loop-form-preserved g c =
    put_all_next c.args.printer.now c.loop-form.printer c.print.new.printer g.T.Prints.tokens c.args.forms.now c.loop-form.form-index c.form-item.result
    c.loop-form-test.true c.form-item.is c.loop-form.invariant c.in_ok-print.ensures
