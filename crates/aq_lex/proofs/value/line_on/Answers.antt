use Rattle.aq_lex.proofs.Values.{line_later}
use Rattle.aq_lex.proofs.value.line_on.Goals as goal

pub returns-in-Some : goal.returns-in-Some
returns-in-Some c =
    let h = c.in-Some.ensures.lookup.0 in
    rw (c.lines_in.ensures.value, h.2, c.requires) (line_later c.args.bytes.now c.args.from c.args.to h.0)
