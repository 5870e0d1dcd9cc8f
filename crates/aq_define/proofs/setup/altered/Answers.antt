use Rattle.std.proofs.Common.{sym, subst}
use Rattle.std.specs.Prelude.{OnErr}
use Rattle.aq_refusals.specs.Answers.{Tells}
use Rattle.aq_additions.specs.Steps.{Extends}
use Rattle.aq_define.specs.Stages.{IsBehind, alter_faults}
use Rattle.aq_define.proofs.Behind.{behind_extended, on_err}
use Rattle.aq_define.proofs.Ordering.{altered_in_order}
use Rattle.aq_define.proofs.setup.altered.Goals as goal

pub returns-clause-told : goal.returns-clause-told
returns-clause-told c =
    subst (λ faults. Tells faults c.alter_table.result) (sym (altered_in_order c.args.catalog.now c.args.s.now))
    (subst (λ cat. Tells (alter_faults cat c.args.s.now) c.alter_table.result) c.settle_default_name.ensures c.alter_table.ensures.told)

pub returns-clause-kept : goal.returns-clause-kept
returns-clause-kept c =
    on_err c.alter_table.result (Extends c.args.catalog.now c.alter_table.new.catalog) (IsBehind c.args.catalog.now c.alter_table.new.catalog)
    (behind_extended c.args.catalog.now c.alter_table.new.catalog)
    (subst (λ cat. OnErr c.alter_table.result (Extends cat c.alter_table.new.catalog)) c.settle_default_name.ensures c.alter_table.ensures.kept)
