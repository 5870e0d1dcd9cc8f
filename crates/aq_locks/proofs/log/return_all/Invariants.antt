use Rattle.std.proofs.Common.{◌≡◌, take}
use Rattle.aq_locks.specs.Logs.{cut}
use Rattle.aq_locks.specs.Rows.{items_of, IsLocks}
use Rattle.aq_locks.proofs.log.return_all.Given as goal

abbrev pub invariant-loop-session : goal.invariant-loop-session
invariant-loop-session l = record {
  locks : IsLocks l.rows (items_of l.logs);
  logs : items_of l.logs ≡ cut (take l.session l.lens) (items_of l.fn.logs);
}
