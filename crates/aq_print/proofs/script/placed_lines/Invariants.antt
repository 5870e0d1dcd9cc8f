use Rattle.std.proofs.Common.{◌≡◌, take}
use Rattle.aq_texts.specs.Canon.{placed_lines}
use Rattle.aq_print.specs.Printing.{put_lines}
use Rattle.aq_print.proofs.script.placed_lines.Given as goal

abbrev pub invariant-loop-found : goal.invariant-loop-found
invariant-loop-found l = l.printer ≡ put_lines l.fn.printer (placed_lines (take l.found-index l.placed))
