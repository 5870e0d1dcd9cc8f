use Rattle.std.proofs.Common.{sym, ap, ◌∙◌}
use Rattle.aq_xids.specs.Kept.{all_shown, held_in}
use Rattle.aq_xids.specs.Subtransactions.{fate_of, fate_by}
use Rattle.aq_xids.specs.declared.kept.Standing.TheVariants.{Transaction, Inner}
use Rattle.aq_xids.proofs.Shown.{fate_of-up, numbered-none, held_in-void, held_in-twice, held_in-committed}
use Rattle.aq_xids.proofs.kept.fate_in.Goals as goal

pub returns-in-Transaction-Running : goal.returns-in-Transaction-Running
returns-in-Transaction-Running c =
    let e = fate_of-up c.args.subs.now c.requires c.args.number c.up.at c.up.holder c.in-Some.sub _ c.up.invariant (sym c.kept_of.ensures.value ∙ c.in-Some.is) (c.in-Transaction-Running.is ∙ ap Transaction (rw c.in-Transaction-Running.is at c.in-Transaction-Running.field-0-is)) in
    c.held_by.ensures ∙ sym e

pub returns-in-Transaction-Dropped : goal.returns-in-Transaction-Dropped
returns-in-Transaction-Dropped c =
    let e = fate_of-up c.args.subs.now c.requires c.args.number c.up.at c.up.holder c.in-Some.sub _ c.up.invariant (sym c.kept_of.ensures.value ∙ c.in-Some.is) (c.in-Transaction-Dropped.is ∙ ap Transaction (rw c.in-Transaction-Dropped.is at c.in-Transaction-Dropped.field-0-is)) in
    sym (e ∙ held_in-void c.up.holder)

pub returns-in-Transaction-Committed : goal.returns-in-Transaction-Committed
returns-in-Transaction-Committed c =
    let e = fate_of-up c.args.subs.now c.requires c.args.number c.up.at c.up.holder c.in-Some.sub _ c.up.invariant (sym c.kept_of.ensures.value ∙ c.in-Some.is) (c.in-Transaction-Committed.is ∙ ap Transaction (rw c.in-Transaction-Committed.is at c.in-Transaction-Committed.field-0-is)) in
    sym (e ∙ held_in-committed c.up.holder c.in-Transaction-Committed.commit)

pub returns-in-Inner-default-Aborted : goal.returns-in-Inner-default-Aborted
returns-in-Inner-default-Aborted c =
    let e = fate_of-up c.args.subs.now c.requires c.args.number c.up.at c.up.holder c.in-Some.sub _ c.up.invariant (sym c.kept_of.ensures.value ∙ c.in-Some.is) (c.in-Inner-default-Aborted.is ∙ ap (Inner c.in-Inner-default-Aborted.field-0) (rw c.in-Inner-default-Aborted.is at c.in-Inner-default-Aborted.field-1-is)) in
    sym (e ∙ held_in-void c.up.holder)

pub up-preserved-in-Inner-default-Ended : goal.up-preserved-in-Inner-default-Ended
up-preserved-in-Inner-default-Ended c =
    fate_of-up c.args.subs.now c.requires c.args.number c.up.at c.up.holder c.in-Some.sub _ c.up.invariant (sym c.kept_of.ensures.value ∙ c.in-Some.is) (c.in-Inner-default-Ended.is ∙ ap (Inner c.in-Inner-default-Ended.outer) (rw c.in-Inner-default-Ended.is at c.in-Inner-default-Ended.field-1-is))

pub up-preserved : goal.up-preserved
up-preserved c =
    let e = fate_of-up c.args.subs.now c.requires c.args.number c.up.at c.up.holder c.in-Some.sub _ c.up.invariant (sym c.kept_of.ensures.value ∙ c.in-Some.is) (c.in-Inner-default-Running.is ∙ ap (Inner c.in-Inner-default-Running.outer) (rw c.in-Inner-default-Running.is at c.in-Inner-default-Running.field-1-is)) in
    let all = all_shown c.args.subs.now in
    e ∙ (held_in-twice c.up.holder c.up.at (fate_of c.in-Inner-default-Running.outer all)
    ∙ ap (λ h. held_in h (fate_of c.in-Inner-default-Running.outer all)) (sym c.or-holder.ensures))

pub returns : goal.returns
returns c =
    let none = numbered-none c.args.subs.now c.up.at (sym c.kept_of.ensures.value ∙ c.in_default.is) in
    sym (c.up.invariant ∙ (ap (λ sub. held_in c.up.holder (fate_by sub)) none ∙ held_in-void c.up.holder))
