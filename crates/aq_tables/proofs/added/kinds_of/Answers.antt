use Rattle.std.proofs.Common.{subst}
use Rattle.aq_setup.specs.References.{kind_faults}
use Rattle.aq_setup.specs.Tables.{Referring}
use Rattle.aq_refusals.specs.Answers.{Tells}
use Rattle.aq_tables.proofs.added.kinds_of.Goals as goal

pub returns : goal.returns
returns c =
    subst
    (λ (f : Referring). Tells (kind_faults c.args.keyed.now c.args.table.now f.name f.cols f.reference) c.kind_faults.result)
    c.f.view_is
    c.kind_faults.ensures
