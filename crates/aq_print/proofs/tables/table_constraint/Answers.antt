use Rattle.std.proofs.Common.{List, ◌∷◌, ◌++◌, ◌∙◌, ap, sym, codes}
use Rattle.aq_base.specs.declared.constraint.TableConstraint.{TableConstraint}
use Rattle.aq_texts.specs.Written.{Written, say, columns}
use Rattle.aq_texts.specs.Canon.{constraint_name, reference, table_constraint}
use Rattle.aq_print.specs.Printing.{Printed, put_all}
use Rattle.aq_print.proofs.Printing.{behind_tokens, on_ok}
use Rattle.aq_print.proofs.tables.table_constraint.Goals as goal

pub returns-in_ok-columns-in-ForeignKey : goal.returns-in_ok-columns-in-ForeignKey
returns-in_ok-columns-in-ForeignKey c =
    let behind_columns : List Written = reference c.in-ForeignKey.r in
    let behind_words : List Written = columns c.in-ForeignKey.names ++ behind_columns in
    on_ok _ _ _ _ c.reference.ensures (
    behind_tokens c.words-in-ForeignKey.new.self c.columns-in-ForeignKey.new.printer (columns c.in-ForeignKey.names) behind_columns c.in_ok-columns-in-ForeignKey.ensures
    ∙ ap (λ (p : Printed). put_all p behind_words) c.in_ok-words-in-ForeignKey.ensures
    ∙ behind_tokens c.args.printer.now c.constraint_name-in-ForeignKey.new.printer (constraint_name c.in-ForeignKey.name)
    (say (codes "FOREIGN") ∷ say (codes "KEY") ∷ behind_words) c.in_ok-constraint_name-in-ForeignKey.ensures
    ∙ ap (λ (k : TableConstraint). put_all c.args.printer.now (table_constraint k)) (sym c.in-ForeignKey.is))
