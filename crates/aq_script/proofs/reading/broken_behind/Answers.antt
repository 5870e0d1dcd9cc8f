use Rattle.aq_script.proofs.RefusedLines.{line_of_place_before, bytes_before}
use Rattle.aq_script.proofs.reading.broken_behind.Goals as goal

pub slice_bounds-new-end : goal.slice_bounds-new-end
slice_bounds-new-end c = bytes_before c.args.bytes.now c.args.at c.requires.bad

pub returns : goal.returns
returns c =
    rw (c.refusal.ensures, c.new-lexed.ensures)
    (line_of_place_before c.args.bytes.now c.args.at c.args.tokens.now c.in_ok-place.place c.requires.bad c.requires.before (rw c.new-lexed.ensures at c.in_ok-place.ensures))
