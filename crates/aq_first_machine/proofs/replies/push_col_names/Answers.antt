use Rattle.std.proofs.Common.{string_bytes}
use Rattle.aq_first_run.specs.Replies.{col_name}
use Rattle.aq_first_machine.proofs.Joins.{joined-pushed}
use Rattle.aq_first_machine.proofs.replies.push_col_names.Goals as goal

pub returns-in_ok-push_later_col_names-in-Some : goal.returns-in_ok-push_later_col_names-in-Some
returns-in_ok-push_later_col_names-in-Some c =
    joined-pushed (col_name c.args.catalog.now c.args.table) c.args.cols.now c.in-Some.later.now c.in-Some.first.now (string_bytes c.args.out.now) (string_bytes c.push_col_name.new.out) (string_bytes c.push_later_col_names.new.out)
    c.in-Some.ensures.cases.0 c.in_ok-push_col_name-in-Some.ensures c.in_ok-push_later_col_names-in-Some.ensures
