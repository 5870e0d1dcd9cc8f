use Rattle.std.proofs.Common.{sym, ◌∙◌}
use Rattle.aq_additions.proofs.Repeats.{none_passed, seen_more, repeat_found, repeat_not, all_passed}
use Rattle.aq_additions.proofs.twice.first_repeat.Goals as goal

pub loop-name-init : goal.loop-name-init
loop-name-init c = none_passed c.args.taken.now c.args.names.now c.in_ok-seen.seen (λ q. c.in_ok-seen.ensures q)

pub returns-then-has : goal.returns-then-has
returns-then-has c =
    repeat_found c.args.taken.now c.args.names.now c.loop-name.name-index c.name-item.result c.loop-name-test.true c.name-item.is c.loop-name.invariant.left
    (sym (c.loop-name.invariant.seen_are c.name-item.result) ∙ (sym c.has.ensures ∙ c.if-has.true))

pub loop-name-preserved : goal.loop-name-preserved
loop-name-preserved c =
    record {
      seen_are = λ q.
          c.in_ok-add.ensures q
          ∙ seen_more c.args.taken.now c.args.names.now c.loop-name.name-index c.name-item.result q c.loop-name.seen c.loop-name-test.true c.name-item.is
          (c.loop-name.invariant.seen_are q);
      left =
          repeat_not c.args.taken.now c.args.names.now c.loop-name.name-index c.name-item.result c.loop-name-test.true c.name-item.is c.loop-name.invariant.left
          (sym (c.loop-name.invariant.seen_are c.name-item.result) ∙ (sym c.has.ensures ∙ c.if-has.false));
    }

pub returns : goal.returns
returns c = all_passed c.args.taken.now c.args.names.now c.loop-name.name-index c.loop-name-test.false c.loop-name.invariant.left
