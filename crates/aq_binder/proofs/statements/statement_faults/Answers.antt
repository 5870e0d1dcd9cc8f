use Rattle.std.proofs.Common.{ap, sym, ◌∙◌}
use Rattle.aq_setup.specs.Scopes.{Setting}
use Rattle.aq_setup.specs.Binding.{delete_faults, select_faults, statement_faults}
use Rattle.aq_refusals.proofs.Telling.{same_told}
use Rattle.aq_binder.proofs.statements.statement_faults.Goals as goal

pub returns-in-Delete : goal.returns-in-Delete
returns-in-Delete c =
    same_told (delete_faults c.in_session-setting.result c.in-Delete.s) _ _
    (ap (λ (setting : Setting). delete_faults setting c.in-Delete.s) c.in_session-setting.ensures ∙ ap (statement_faults c.args.catalog.now) (sym c.in-Delete.is)) c.delete_faults.ensures

pub returns-in-Select : goal.returns-in-Select
returns-in-Select c =
    same_told (select_faults c.in_session-setting.result c.in-Select.s) _ _
    (ap (λ (setting : Setting). select_faults setting c.in-Select.s) c.in_session-setting.ensures ∙ ap (statement_faults c.args.catalog.now) (sym c.in-Select.is)) c.select_faults.ensures
