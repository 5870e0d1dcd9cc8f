use Rattle.std.proofs.Common.{sym, ◌∙◌}
use Rattle.aq_xids.proofs.Begun.{same_top-kept, same_top-none_left, same_top-none_right}
use Rattle.aq_xids.proofs.xids.same_transaction.Goals as goal

pub returns-in_default : goal.returns-in_default
returns-in_default c = sym (same_top-none_left c.args.subs.now c.args.a c.args.b (sym c.kept_of.ensures.value ∙ c.in_default.is))

pub returns-in_default-kept_of : goal.returns-in_default-kept_of
returns-in_default-kept_of c = sym (same_top-none_right c.args.subs.now c.args.a c.args.b (sym c.kept_of-2.ensures.value ∙ c.in_default-kept_of.is))

pub returns : goal.returns
returns c =
    sym (same_top-kept c.args.subs.now c.args.a c.args.b c.in-Some.one c.in-Some-kept_of.other (sym c.kept_of.ensures.value ∙ c.in-Some.is) (sym c.kept_of-2.ensures.value ∙ c.in-Some-kept_of.is))
