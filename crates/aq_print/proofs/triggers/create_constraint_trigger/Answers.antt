use Rattle.std.proofs.Common.{List, ◌++◌, ◌∙◌, ap}
use Rattle.aq_base.specs.declared.trigger.Each.TheVariants.{Row}
use Rattle.aq_texts.specs.Written.{Written}
use Rattle.aq_texts.specs.Canon.{fires_on, timing, for_each, when_part, executes}
use Rattle.aq_print.specs.Printing.{Printed, put_all}
use Rattle.aq_print.proofs.Printing.{behind_tokens, on_ok}
use Rattle.aq_print.proofs.triggers.create_constraint_trigger.Goals as goal

pub returns : goal.returns
returns c =
    let s = c.args.s.now in
    let behind_when : List Written = executes s.function in
    let behind_each : List Written = when_part s.condition ++ behind_when in
    let behind_timing : List Written = for_each Row ++ behind_each in
    let behind_table : List Written = timing s.timing ++ behind_timing in
    let behind_words : List Written = fires_on s.name s.events s.table ++ behind_table in
    on_ok _ _ _ _ c.executes.ensures (
    behind_tokens c.for_each.new.printer c.when_part.new.printer (when_part s.condition) behind_when c.in_ok-when_part.ensures
    ∙ behind_tokens c.timing.new.printer c.for_each.new.printer (for_each Row) behind_each c.in_ok-for_each.ensures
    ∙ behind_tokens c.fires_on.new.printer c.timing.new.printer (timing s.timing) behind_timing c.in_ok-timing.ensures
    ∙ behind_tokens c.words.new.self c.fires_on.new.printer (fires_on s.name s.events s.table) behind_table c.in_ok-fires_on.ensures
    ∙ ap (λ (p : Printed). put_all p behind_words) c.in_ok-words.ensures)
