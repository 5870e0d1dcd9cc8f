use Rattle.std.proofs.Common.{[], ◌∙◌, ap}
use Rattle.aq_texts.specs.Canon.{statement_tokens}
use Rattle.aq_print.specs.Printing.{Printed, put_line}
use Rattle.aq_print.proofs.Printing.{put_line_fresh}
use Rattle.aq_print.proofs.statements.print_statement.Goals as goal

pub returns : goal.returns
returns c =
    let tokens = statement_tokens c.args.s.now in
    c.finish.ensures ∙ ap (λ (p : Printed). p.text) (c.in_ok-push_line.ensures ∙ ap (λ (p : Printed). put_line p tokens) c.new-printer.ensures ∙ put_line_fresh [] tokens)
