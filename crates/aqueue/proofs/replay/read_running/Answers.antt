use Rattle.aqueue.specs.declared.task.Task.TheVariants.{Replay}
use Rattle.aqueue.proofs.Refused.{run_found, run_refused, run_none, for_task, cannot_task}
use Rattle.aqueue.proofs.replay.read_running.Goals as goal

pub returns-in-Ok-clause-runs : goal.returns-in-Ok-clause-runs
returns-in-Ok-clause-runs c = run_found c.args.bytes.now c.in-Ok.script c.in-Ok.ensures.set_up c.running.result c.running.ensures.runs

pub returns-in-Ok-clause-refused : goal.returns-in-Ok-clause-refused
returns-in-Ok-clause-refused c = run_refused c.args.bytes.now c.in-Ok.script c.in-Ok.ensures.set_up c.running.result c.running.ensures.line c.running.ensures.none

pub returns-in-Ok-clause-none : goal.returns-in-Ok-clause-none
returns-in-Ok-clause-none c =
    run_none c.args.bytes.now c.in-Ok.script c.in-Ok.ensures.set_up (c.one_reading.ensures c.args.bytes.now) c.running.result c.running.ensures.none

pub returns-in-Err-clause-refused : goal.returns-in-Err-clause-refused
returns-in-Err-clause-refused c = for_task Replay c.args.bytes.now c.in-Err.fault c.in-Err.ensures.refused

pub returns-in-Err-clause-none : goal.returns-in-Err-clause-none
returns-in-Err-clause-none c = cannot_task Replay c.args.bytes.now c.in-Err.fault c.in-Err.ensures.none
