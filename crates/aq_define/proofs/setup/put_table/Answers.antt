use Rattle.aq_define.proofs.Behind.{behind_filled}
use Rattle.aq_define.proofs.setup.put_table.Goals as goal

pub returns-in_err-fill_table-clause-kept : goal.returns-in_err-fill_table-clause-kept
returns-in_err-fill_table-clause-kept c =
    behind_filled c.count_of_tables-number.result c.args.catalog.now c.push_table.new.self c.fill_table.new.catalog c.args.table c.count_of_tables-number.ensures
    c.in_ok-push_table.ensures.ok c.in_err-fill_table.ensures.kept

pub returns-clause-kept : goal.returns-clause-kept
returns-clause-kept c =
    behind_filled c.count_of_tables-number.result c.args.catalog.now c.push_table.new.self c.fill_table.new.catalog c.args.table c.count_of_tables-number.ensures
    c.in_ok-push_table.ensures.ok c.in_ok-fill_table.ensures.kept
