use Rattle.std.proofs.Common.{◌≡◌, ◌+◌, length, arith}
use Rattle.aq_xids.proofs.Begun.{pushed_kept, begun_shown}
use Rattle.aq_xids.proofs.Shown.{length-all_shown}
use Rattle.aq_xids.proofs.xids.Xids.begin.Goals as goal

pub invariant_of-self-2 : goal.invariant_of-self-2
invariant_of-self-2 c = rw c.in_ok-push.ensures.items (pushed_kept _ _ _ c.self.invariant tt)

pub returns-clause-ok : goal.returns-clause-ok
returns-clause-ok c =
    let next : c.in_ok-number.number ≡ length c.self.inside.subs.items + 1 = rw (← c.deref.ensures.value) c.in_ok-number.ensures in
    rw (c.in_ok-push.ensures.items, ← c.self.view_is) (omega (arith, next, length-all_shown c.self.inside.subs.items), begun_shown _ _ _ _ next)
