use Rattle.std.proofs.Common.{arith}
use Rattle.aq_waits.proofs.Steps_up.{take_more_set}
use Rattle.aq_waits.proofs.cycle.write_at.Goals as goal

pub returns : goal.returns
returns c = take_more_set c.args.items.now c.args.len c.args.session (omega arith)
