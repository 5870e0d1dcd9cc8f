use Rattle.std.proofs.Common.{◌≡◌, IfOk, subst}
use Rattle.aq_catalog.specs.Catalogs.{table_columns}
use Rattle.aq_setup.specs.Scopes.{no_row}
use Rattle.aq_setup.specs.Binding.{bound_condition}
use Rattle.aq_setup.specs.Triggers.{Wanted}
use Rattle.aq_triggers.proofs.triggers.condition_of.Goals as goal

pub returns : goal.returns
returns c =
    subst (λ (w : Wanted). IfOk c.condition_over.result (λ made. made ≡ bound_condition (no_row (table_columns c.args.catalog.now w.table)) w.condition)) c.w.view_is
    (rw c.columns_of.ensures at c.condition_over.ensures)
