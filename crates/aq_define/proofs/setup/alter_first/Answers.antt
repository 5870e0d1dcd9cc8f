use Rattle.std.proofs.Common.{subst}
use Rattle.aq_refusals.specs.Answers.{Tells}
use Rattle.aq_define.specs.Stages.{alter_at}
use Rattle.aq_define.proofs.setup.alter_first.Goals as goal

pub returns : goal.returns
returns c =
    subst (λ number. Tells (alter_at c.args.catalog.now number c.args.s.now c.args.all.now) c.alter_at.result) c.table_at.ensures c.alter_at.ensures
