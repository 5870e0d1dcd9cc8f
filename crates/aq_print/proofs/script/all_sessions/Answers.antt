use Rattle.aq_texts.specs.Canon.{session_lines}
use Rattle.aq_print.proofs.Printing.{put_lines_next}
use Rattle.aq_print.proofs.script.all_sessions.Goals as goal

pub loop-session-preserved : goal.loop-session-preserved
loop-session-preserved c =
    put_lines_next c.args.printer.now c.loop-session.printer c.session_lines.new.printer session_lines c.args.sessions.now c.loop-session.session-index
    c.session-item.result c.loop-session-test.true c.session-item.is c.loop-session.invariant c.in_ok-session_lines.ensures
