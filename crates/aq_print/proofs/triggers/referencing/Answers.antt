use Rattle.std.proofs.Common.{List, Option, ◌∙◌, ap, sym, codes}
use Rattle.std.specs.List.{flat_map}
use Rattle.aq_base.specs.declared.trigger.TransitionTable.{TransitionTable}
use Rattle.aq_texts.specs.Written.{say}
use Rattle.aq_texts.specs.Canon.{perhaps, referencing, transition_table}
use Rattle.aq_print.specs.Printing.{put_all}
use Rattle.aq_print.proofs.Printing.{behind_token, on_ok}
use Rattle.aq_print.proofs.triggers.referencing.Goals as goal

pub returns-in_ok-word-in-Some : goal.returns-in_ok-word-in-Some
returns-in_ok-word-in-Some c =
    on_ok _ _ _ _ c.one_by_one.ensures (
    ap (λ (found : List TransitionTable). put_all c.word.new.self (flat_map transition_table found)) c.as_slice.ensures
    ∙ behind_token c.args.printer.now c.word.new.self (say (codes "REFERENCING")) (flat_map transition_table c.in-Some.found) c.in_ok-word-in-Some.ensures
    ∙ ap (λ (found : Option (List TransitionTable)). put_all c.args.printer.now (perhaps referencing found)) (sym c.in-Some.is))
