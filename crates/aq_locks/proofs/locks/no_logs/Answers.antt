use Rattle.aq_locks.proofs.Sessions.{all_empty}
use Rattle.aq_locks.proofs.locks.no_logs.Goals as goal

pub returns : goal.returns
returns c = all_empty c.from_fn.result 16 c.from_fn.ensures.items.long (λ k d h. let called = (c.from_fn.ensures.items.at k d h).2 in called.met.1)
