use Rattle.std.proofs.Common.{subst}
use Rattle.aq_catalog.specs.Catalogs.{table_columns}
use Rattle.aq_setup.specs.Triggers.{Wanted}
use Rattle.aq_refusals.specs.Answers.{Tells}
use Rattle.aq_triggers.specs.TriggerLines.{when_of}
use Rattle.aq_triggers.proofs.trigger_faults.when_faults.Goals as goal

pub returns : goal.returns
returns c =
    subst (λ (w : Wanted). Tells (when_of (table_columns c.args.catalog.now w.table) w.condition) c.when_faults_of.result) c.w.view_is
    (rw c.columns_of.ensures at c.when_faults_of.ensures)
