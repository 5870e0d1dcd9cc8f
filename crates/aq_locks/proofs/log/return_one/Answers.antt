use Rattle.std.proofs.Common.{◌<◌, length, take, slice_index_or, sym, ap, subst, ◌∙◌, arith}
use Rattle.std.proofs.Math.ListN.{set}
use Rattle.aq_locks.specs.Rows.{items_of, IsHeldBy, IsLogged}
use Rattle.aq_locks.proofs.Sessions.{item_at, locks_changed, logged_take, items_set}
use Rattle.aq_locks.proofs.log.return_one.Goals as goal

pub return_to-requires-clause-held : goal.return_to-requires-clause-held
return_to-requires-clause-held c =
    let within : c.args.session < length c.args.logs.now = omega arith in
    subst (IsHeldBy c.args.rows.now c.args.session) (item_at c.args.logs.now c.args.session c.index-logs-session.result within) (c.requires.locks.held c.args.session c.requires.session)

pub return_to-requires-clause-logged : goal.return_to-requires-clause-logged
return_to-requires-clause-logged c =
    let within : c.args.session < length c.args.logs.now = omega arith in
    subst IsLogged (item_at c.args.logs.now c.args.session c.index-logs-session.result within) (c.requires.locks.logged c.args.session c.requires.session)

pub returns-clause-locks : goal.returns-clause-locks
returns-clause-locks c =
    let within : c.args.session < length c.args.logs.now = omega arith in
    let logged : IsLogged (slice_index_or c.args.logs.now c.args.session c.index-logs-session.result).items =
    subst IsLogged (item_at c.args.logs.now c.args.session c.index-logs-session.result within) (c.requires.locks.logged c.args.session c.requires.session) in
    let less : IsLogged c.return_to.new.log.items = subst IsLogged (sym c.return_to.ensures.log) (logged_take _ c.args.len logged) in
    rw items_set (locks_changed c.args.rows.now c.return_to.new.rows (items_of c.args.logs.now) c.args.session c.return_to.new.log.items c.requires.locks c.requires.session c.return_to.ensures.held less c.return_to.ensures.others)

pub returns-clause-logs : goal.returns-clause-logs
returns-clause-logs c =
    let within : c.args.session < length c.args.logs.now = omega arith in
    items_set c.args.logs.now c.args.session _
    ∙ ap (λ log. set (items_of c.args.logs.now) c.args.session log) (c.return_to.ensures.log ∙ ap (take c.args.len) (sym (item_at c.args.logs.now c.args.session c.index-logs-session.result within)))
