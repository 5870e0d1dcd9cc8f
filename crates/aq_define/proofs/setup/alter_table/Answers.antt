use Rattle.aq_define.proofs.Altered.{alter_told}
use Rattle.aq_define.proofs.setup.alter_table.Goals as goal

pub returns-clause-told : goal.returns-clause-told
returns-clause-told c =
    alter_told c.args.catalog.now c.args.s.now c.in_ok-all.all c.as_slice.result.now c.in-Some.n.now c.number_of_table-number.result c.alter_rest.result c.in_ok-all.ensures
    c.as_slice.ensures c.in_ok-alter_first.ensures.0 c.in-Some.ensures.value c.number_of_table-number.ensures c.alter_rest.ensures.told
