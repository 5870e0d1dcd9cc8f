use Rattle.std.proofs.Common.{◌≡◌, take}
use Rattle.std.specs.List.{flat_map}
use Rattle.aq_texts.specs.Canon.{session_lines}
use Rattle.aq_print.specs.Printing.{put_lines}
use Rattle.aq_print.proofs.script.all_sessions.Given as goal

abbrev pub invariant-loop-session : goal.invariant-loop-session
invariant-loop-session l = l.printer ≡ put_lines l.fn.printer (flat_map session_lines (take l.session-index l.sessions))
