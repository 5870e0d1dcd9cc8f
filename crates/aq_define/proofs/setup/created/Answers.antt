use Rattle.std.proofs.Common.{sym, subst}
use Rattle.aq_refusals.specs.Answers.{Tells}
use Rattle.aq_define.proofs.Ordering.{created_in_order}
use Rattle.aq_define.proofs.setup.created.Goals as goal

pub returns-clause-told : goal.returns-clause-told
returns-clause-told c =
    subst (λ faults. Tells faults c.create_table.result) (sym (created_in_order c.args.catalog.now c.args.s.now)) c.create_table.ensures.told
