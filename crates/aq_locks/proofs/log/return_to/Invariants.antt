use Rattle.std.proofs.Common.{◌≡◌, take, vec_len}
use Rattle.aq_locks.specs.Rows.{IsHeldBy, IsLogged, KeepsOthers}
use Rattle.aq_locks.proofs.log.return_to.Given as goal

abbrev pub invariant-locks : goal.invariant-locks
invariant-locks l = record {
  front : take l.len l.log.items ≡ take l.len l.fn.log.items;
  held : IsHeldBy l.rows l.session l.log.items;
  logged : IsLogged l.log.items;
  others : KeepsOthers l.fn.rows l.rows l.session;
}

abbrev pub decreases-locks : goal.decreases-locks
decreases-locks l = vec_len l.log
