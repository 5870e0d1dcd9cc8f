use Rattle.std.proofs.Common.{string_bytes}
use Rattle.aq_first_run.specs.Replies.{detail_value}
use Rattle.aq_first_machine.proofs.Joins.{joined-pushed}
use Rattle.aq_first_machine.proofs.replies.push_values.Goals as goal

pub returns-in_ok-push_later_values-in-Some : goal.returns-in_ok-push_later_values-in-Some
returns-in_ok-push_later_values-in-Some c =
    joined-pushed detail_value c.args.values.now c.in-Some.later.now c.in-Some.first.now (string_bytes c.args.out.now) (string_bytes c.push_value.new.out) (string_bytes c.push_later_values.new.out)
    c.in-Some.ensures.cases.0 c.in_ok-push_value-in-Some.ensures c.in_ok-push_later_values-in-Some.ensures
