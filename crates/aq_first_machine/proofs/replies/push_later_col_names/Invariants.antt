use Rattle.std.proofs.Common.{◌≡◌, ◌++◌, map, drop, string_bytes}
use Rattle.aq_first_run.specs.Replies.{col_name}
use Rattle.aq_first_machine.specs.Behind.{behind}
use Rattle.aq_first_machine.proofs.replies.push_later_col_names.Given as goal

abbrev pub invariant-cols : goal.invariant-cols
invariant-cols l = string_bytes l.out ++ behind (map (col_name l.catalog l.table) (drop l.col-index l.cols)) ≡ string_bytes l.fn.out ++ behind (map (col_name l.fn.catalog l.fn.table) l.fn.cols)
