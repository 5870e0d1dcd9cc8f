use Rattle.std.proofs.Common.{List, ◌∷◌, ◌++◌, ◌∙◌, codes}
use Rattle.aq_texts.specs.Written.{Written, say, Name, columns}
use Rattle.aq_texts.specs.Canon.{perhaps, matching, action_on, timing}
use Rattle.aq_print.proofs.Printing.{behind_token, behind_tokens, on_ok}
use Rattle.aq_print.proofs.tables.reference.Goals as goal

pub returns : goal.returns
returns c =
    let r = c.args.r.now in
    let behind_update : List Written = timing r.timing in
    let behind_set : List Written = action_on (codes "UPDATE") r.on_update ++ behind_update in
    let behind_delete : List Written = perhaps columns r.set_columns ++ behind_set in
    let behind_matching : List Written = action_on (codes "DELETE") r.on_delete ++ behind_delete in
    let behind_columns : List Written = matching r.matching ++ behind_matching in
    let behind_name : List Written = perhaps columns r.columns ++ behind_columns in
    on_ok _ _ _ _ c.timing.ensures (
    behind_tokens c.columns_if_any-2.new.printer c.action_on-2.new.printer (action_on (codes "UPDATE") r.on_update) behind_update c.in_ok-action_on-2.ensures
    ∙ behind_tokens c.action_on.new.printer c.columns_if_any-2.new.printer (perhaps columns r.set_columns) behind_set c.in_ok-columns_if_any-2.ensures
    ∙ behind_tokens c.matching.new.printer c.action_on.new.printer (action_on (codes "DELETE") r.on_delete) behind_delete c.in_ok-action_on.ensures
    ∙ behind_tokens c.columns_if_any.new.printer c.matching.new.printer (matching r.matching) behind_matching c.in_ok-matching.ensures
    ∙ behind_tokens c.name.new.self c.columns_if_any.new.printer (perhaps columns r.columns) behind_columns c.in_ok-columns_if_any.ensures
    ∙ behind_token c.word.new.self c.name.new.self (Name r.table) behind_name c.in_ok-name.ensures
    ∙ behind_token c.args.printer.now c.word.new.self (say (codes "REFERENCES")) (Name r.table ∷ behind_name) c.in_ok-word.ensures)
