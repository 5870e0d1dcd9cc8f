use Rattle.std.proofs.Common.{◌≡◌, ◌+◌, length, true, Some, sym, ap, ◌∙◌, arith}
use Rattle.aq_xids.specs.Kept.{all_shown, kept_at}
use Rattle.aq_xids.specs.Subtransactions.{Subtransactions, is_held_by, fate_of}
use Rattle.aq_xids.proofs.Begun.{pushed_kept, begun_in_shown, outer_within}
use Rattle.aq_xids.proofs.Shown.{length-all_shown}
use Rattle.aq_xids.proofs.xids.Xids.begin_sub.Goals as goal

pub invariant_of-self-2 : goal.invariant_of-self-2
invariant_of-self-2 c =
    let found : kept_at c.self.inside.subs.items c.args.of.0 ≡ Some c.in-Some.outer =
    ap (λ subs. kept_at subs c.args.of.0) (sym c.deref-2.ensures.value) ∙ (sym c.kept_of.ensures.value ∙ c.in-Some.is) in
    rw c.in_ok-push.ensures.items (pushed_kept _ _ _ c.self.invariant (outer_within _ _ c.in-Some.outer found))

pub returns-clause-ok : goal.returns-clause-ok
returns-clause-ok c =
    let next : c.in_ok-number.number ≡ length c.self.inside.subs.items + 1 = rw (← c.deref.ensures.value) c.in_ok-number.ensures in
    let found : kept_at c.self.inside.subs.items c.args.of.0 ≡ Some c.in-Some.outer =
    ap (λ subs. kept_at subs c.args.of.0) (sym c.deref-2.ensures.value) ∙ (sym c.kept_of.ensures.value ∙ c.in-Some.is) in
    let running : is_held_by c.args.of.0 (fate_of c.args.of.0 (all_shown c.self.inside.subs.items)) ≡ true =
    ap (λ (subs : Subtransactions). is_held_by c.args.of.0 (fate_of c.args.of.0 subs.all)) c.self.view_is ∙ c.requires in
    rw (c.in_ok-push.ensures.items, ← c.self.view_is) (omega (arith, next, length-all_shown c.self.inside.subs.items), begun_in_shown _ _ _ c.in-Some.outer found running)
