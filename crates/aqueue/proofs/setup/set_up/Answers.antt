use Rattle.aqueue.proofs.Refused.{unread_refused, unread_none, setup_refused, setup_none}
use Rattle.aqueue.proofs.setup.set_up.Goals as goal

pub returns-in-Err-build-clause-refused : goal.returns-in-Err-build-clause-refused
returns-in-Err-build-clause-refused c =
    rw c.not_set_up.ensures (setup_refused c.args.bytes.now c.in-Ok.script c.in-Ok.ensures.read c.in-Err-build.fault c.in-Err-build.ensures.err)

pub returns-in-Err-build-clause-none : goal.returns-in-Err-build-clause-none
returns-in-Err-build-clause-none c =
    rw c.not_set_up.ensures
    (setup_none c.args.bytes.now c.in-Ok.script c.in-Ok.ensures.read (c.one_reading.ensures c.args.bytes.now) c.in-Err-build.fault c.in-Err-build.ensures.err)

pub returns-in-Err-clause-refused : goal.returns-in-Err-clause-refused
returns-in-Err-clause-refused c = rw c.unread.ensures (unread_refused c.args.bytes.now c.in-Err.fault c.in-Err.ensures.refused)

pub returns-in-Err-clause-none : goal.returns-in-Err-clause-none
returns-in-Err-clause-none c = rw c.unread.ensures (unread_none c.args.bytes.now c.in-Err.fault c.in-Err.ensures.none)
