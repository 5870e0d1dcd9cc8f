use Rattle.std.proofs.Common.{◌<◌, ◌++◌, ◌∷◌, [], length, sym, ap, ◌∙◌, arith}
use Rattle.std.proofs.Math.ListN.{set}
use Rattle.aq_locks.specs.Rows.{items_of}
use Rattle.aq_locks.proofs.Sessions.{item_at, items_set, set_same}
use Rattle.aq_locks.proofs.log.push_to.Goals as goal

pub returns-in-Ok-clause-ok : goal.returns-in-Ok-clause-ok
returns-in-Ok-clause-ok c =
    let within : c.args.session < length c.args.logs.now = omega arith in
    items_set c.args.logs.now c.args.session _
    ∙ ap (set (items_of c.args.logs.now) c.args.session) (c.in-Ok.ensures.items ∙ ap (λ log. log ++ c.args.taken ∷ []) (sym (item_at c.args.logs.now c.args.session c.index-logs-session.result within)))

pub returns-in-Err-clause-err : goal.returns-in-Err-clause-err
returns-in-Err-clause-err c =
    let within : c.args.session < length c.args.logs.now = omega arith in
    items_set c.args.logs.now c.args.session _
    ∙ (ap (set (items_of c.args.logs.now) c.args.session) (c.in-Err.ensures.items ∙ sym (item_at c.args.logs.now c.args.session c.index-logs-session.result within))
    ∙ set_same (items_of c.args.logs.now) c.args.session [])
