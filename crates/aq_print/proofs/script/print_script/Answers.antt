use Rattle.std.proofs.Common.{[], ◌∙◌, ap}
use Rattle.aq_texts.specs.Canon.{script_lines}
use Rattle.aq_print.specs.Printing.{Printed, put_lines}
use Rattle.aq_print.proofs.Printing.{put_lines_fresh}
use Rattle.aq_print.proofs.script.print_script.Goals as goal

pub returns : goal.returns
returns c =
    let lines = script_lines c.args.s.now in
    c.finish.ensures ∙ ap (λ (p : Printed). p.text) (c.in_ok-script_lines.ensures ∙ ap (λ (p : Printed). put_lines p lines) c.new-printer.ensures ∙ put_lines_fresh [] lines)
