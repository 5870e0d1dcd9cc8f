use Rattle.aq_script.proofs.RefusedLines.{bytes_before, none_before}
use Rattle.aq_script.proofs.reading.broken.Goals as goal

pub slice_bounds-lex-end : goal.slice_bounds-lex-end
slice_bounds-lex-end c = bytes_before c.args.bytes.now c.args.at c.requires

pub unreachable-requires : goal.unreachable-requires
unreachable-requires c =
    none_before c.args.bytes.now c.args.at c.in-Err-BadToken.field-0-0 c.requires (rw c.in-Err-BadToken.field-0-is at c.in-Err-BadToken.ensures.fault)
