use Rattle.std.proofs.Common.{◌≡◌, ◌<◌, length, vec_len, slice_index_or, rules, sym, ap, ◌∙◌, arith}
use Rattle.aq_locks.specs.Rows.{items_of}
use Rattle.aq_locks.proofs.Sessions.{log_length, item_at, length_items}
use Rattle.aq_locks.proofs.locks.Locks.mark.Goals as goal

pub returns-clause-ok : goal.returns-clause-ok
returns-clause-ok c =
    let long = c.self.invariant.sessions in
    let all = length_items c.self.inside.logs in
    let h = c.requires in
    let within : c.args.session.0 < length (items_of c.self.inside.logs) = omega arith in
    let within' : c.args.session.0 < length c.self.inside.logs = omega arith in
    rw (← c.self.view_is) (c.len.ensures ∙ (let one : vec_len (slice_index_or c.self.inside.logs c.args.session.0 c.index-self-session.result) ≡ length (slice_index_or c.self.inside.logs c.args.session.0 c.index-self-session.result).items = search rules in one) ∙ sym (log_length (items_of c.self.inside.logs) c.args.session.0 within
    ∙ ap length (item_at c.self.inside.logs c.args.session.0 c.index-self-session.result within')))
