use Rattle.std.proofs.Common.{◌≡◌, ◌≤◌, length, drop, vec_len}
use Rattle.std.specs.Vec.{vec_capacity}
use Rattle.aq_modes.specs.Log.{own_with, put_back_all}
use Rattle.aq_modes.proofs.log.replace_each.Given as goal

abbrev pub invariant-cons : goal.invariant-cons
invariant-cons l = record {
  set : own_with (drop l.con-index l.cons) l.deferred l.own.entries ≡ own_with l.cons l.deferred l.fn.own.entries;
  before : put_back_all l.before.items l.own.entries ≡ l.fn.own.entries;
  filled : vec_len l.before ≡ l.con-index;
  room : length l.cons ≤ vec_capacity l.before;
}
