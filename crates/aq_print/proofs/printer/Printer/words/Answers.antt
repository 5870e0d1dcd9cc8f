use Rattle.std.proofs.Common.{[], get_or}
use Rattle.std.proofs.lemmas.List.{get_or_default}
use Rattle.aq_texts.specs.Written.{Said}
use Rattle.aq_print.proofs.Printing.{put_next}
use Rattle.aq_print.proofs.printer.Printer.words.Goals as goal

pub loop-text-preserved : goal.loop-text-preserved
loop-text-preserved c =
    let text = get_or c.args.texts.now c.loop-text.text-index (record { ref_ptr = (0, 0); now = [] }) in
    put_next c.args.self.now c.loop-text.self c.word.new.self (λ word. Said word.now) c.args.texts.now c.loop-text.text-index text c.loop-text-test.true
    (get_or_default c.args.texts.now c.loop-text.text-index (record { ref_ptr = (0, 0); now = [] }) text c.loop-text-test.true) c.loop-text.invariant c.in_ok-word.ensures
