use Rattle.std.proofs.Common.{◌≡◌, ◌<◌, length, map, ap, ◌∙◌, arith}
use Rattle.aq_locks.specs.Logs.{Logs}
use Rattle.aq_locks.specs.Rows.{items_of, locks_of}
use Rattle.aq_locks.proofs.Sessions.{shown_returned}
use Rattle.aq_locks.proofs.locks.Locks.release_all.Goals as goal

pub returns : goal.returns
returns c =
    let long = c.self.invariant.sessions in
    let h = c.requires in
    let within : c.args.session.0 < length (items_of c.self.inside.logs) = omega arith in
    rw (← c.self.view_is)
    (let shown = ap (map locks_of) c.return_one.ensures.logs ∙ shown_returned (items_of c.self.inside.logs) c.args.session.0 0 within in
    let one : ◌≡◌ {A = Logs} (record { logs = map locks_of (items_of c.return_one.new.logs); kept = c.self.inside.kept }) _ = ap (λ logs. record { logs = logs; kept = c.self.inside.kept }) shown in one)
