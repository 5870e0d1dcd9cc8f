use Rattle.std.proofs.Common.{◌≡◌, Some, length, refl}
use Rattle.std.specs.List.{slice_get}
use Rattle.std.proofs.lemmas.Option.{slice_get_read}
use Rattle.std.proofs.lemmas.Result.{err_from_is_err_and}
use Rattle.aq_simple.specs.Forms.{simple_session}
use Rattle.aq_simple.proofs.Lists.{all_of_more, all_of_fails}
use Rattle.aq_simple.proofs.forms.simple_sessions.Goals as goal

pub returns-in_err-simple_session : goal.returns-in_err-simple_session
returns-in_err-simple_session c =
    let p = err_from_is_err_and c.from_residual.result c.from_residual.ensures.1 in
    let here : slice_get c.args.sessions.now c.loop-session.session-index ≡ Some c.session-item.result = slice_get_read c.args.sessions.now (length c.args.sessions.now) c.loop-session.session-index c.session-item.result refl c.loop-session-test.true c.session-item.is in
    rw (p.1, p.2) (all_of_fails c.in_err-simple_session.field-0.0 simple_session c.loop-session.session-index c.args.sessions.now c.session-item.result here c.in_err-simple_session.ensures)

pub loop-session-preserved : goal.loop-session-preserved
loop-session-preserved c =
    let here : slice_get c.args.sessions.now c.loop-session.session-index ≡ Some c.session-item.result = slice_get_read c.args.sessions.now (length c.args.sessions.now) c.loop-session.session-index c.session-item.result refl c.loop-session-test.true c.session-item.is in
    rw c.in_ok-push.ensures.ok (all_of_more simple_session c.loop-session.session-index c.args.sessions.now c.loop-session.simple c.session-item.result c.in_ok-simple_session.field-0 here c.loop-session.invariant c.in_ok-simple_session.ensures)
