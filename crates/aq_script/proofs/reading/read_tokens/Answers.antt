use Rattle.aq_script.proofs.RefusedLines.{line_of_place, reads_by}
use Rattle.aq_script.proofs.reading.read_tokens.Goals as goal

pub returns-in-Ok-clause-read : goal.returns-in-Ok-clause-read
returns-in-Ok-clause-read c =
    reads_by c.args.bytes.now c.args.tokens.now c.in-Ok.script c.requires (rw c.new-lexed.ensures at c.in-Ok.ensures.read)

pub returns-in_ok-place-in-Err-clause-refused : goal.returns-in_ok-place-in-Err-clause-refused
returns-in_ok-place-in-Err-clause-refused c =
    rw (c.refusal.ensures, c.new-lexed.ensures)
    (line_of_place c.args.bytes.now c.args.tokens.now c.in_ok-place-in-Err.place c.requires (rw c.new-lexed.ensures at c.in_ok-place-in-Err.ensures))
