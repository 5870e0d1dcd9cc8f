use Rattle.aq_texts.specs.Canon.{statement_tokens}
use Rattle.aq_print.proofs.Printing.{put_line_next}
use Rattle.aq_print.proofs.script.placed_lines.Goals as goal

pub loop-found-preserved : goal.loop-found-preserved
loop-found-preserved c =
    put_line_next c.args.printer.now c.loop-found.printer c.push_line.new.printer (λ placed. statement_tokens placed.statement) c.args.placed.now c.loop-found.found-index
    c.found-item.result c.loop-found-test.true c.found-item.is c.loop-found.invariant c.in_ok-push_line.ensures
