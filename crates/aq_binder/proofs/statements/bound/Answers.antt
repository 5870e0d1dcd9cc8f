use Rattle.std.proofs.Common.{ap, sym, ◌∙◌}
use Rattle.aq_base.specs.declared.bound_statement.Bound.TheVariants as bound_statements
use Rattle.aq_setup.specs.Scopes.{Setting}
use Rattle.aq_setup.specs.Binding.{bound_delete, bound_select, bound}
use Rattle.aq_binder.proofs.statements.bound.Goals as goal

pub returns-in_ok-bound_delete-in-Delete : goal.returns-in_ok-bound_delete-in-Delete
returns-in_ok-bound_delete-in-Delete c =
    ap bound_statements.Delete (c.in_ok-bound_delete-in-Delete.ensures ∙ ap (λ (setting : Setting). bound_delete setting c.in-Delete.s) c.in_session-setting.ensures)
    ∙ ap (bound c.args.catalog.now) (sym c.in-Delete.is)

pub returns-in_ok-bound_select-in-Select : goal.returns-in_ok-bound_select-in-Select
returns-in_ok-bound_select-in-Select c =
    ap bound_statements.Select (c.in_ok-bound_select-in-Select.ensures ∙ ap (λ (setting : Setting). bound_select setting c.in-Select.s) c.in_session-setting.ensures)
    ∙ ap (bound c.args.catalog.now) (sym c.in-Select.is)
