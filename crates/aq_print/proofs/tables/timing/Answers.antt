use Rattle.std.proofs.Common.{[], ◌∷◌, codes}
use Rattle.std.specs.Prelude.{if◌then◌else◌}
use Rattle.aq_texts.specs.Written.{say}
use Rattle.aq_print.proofs.Printing.{behind_tokens, on_ok}
use Rattle.aq_print.proofs.tables.timing.Goals as goal

pub returns : goal.returns
returns c =
    on_ok _ _ _ _ c.words_if-2.ensures
    (behind_tokens c.args.printer.now c.words_if.new.printer (if c.args.decl.deferrable then say (codes "DEFERRABLE") ∷ [] else [])
    (if c.args.decl.deferred then say (codes "INITIALLY") ∷ say (codes "DEFERRED") ∷ [] else []) c.in_ok-words_if.ensures)
