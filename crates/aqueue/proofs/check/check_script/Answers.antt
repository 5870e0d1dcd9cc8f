use Rattle.aqueue.specs.declared.task.Task.TheVariants.{Check}
use Rattle.aqueue.proofs.Refused.{cannot_task}
use Rattle.aqueue.proofs.check.check_script.Goals as goal

pub returns-in-Err-clause-none : goal.returns-in-Err-clause-none
returns-in-Err-clause-none c = cannot_task Check c.args.bytes.now c.in-Err.fault c.in-Err.ensures.none
