use Rattle.std.proofs.Common.{ap, ◌∙◌, List, map, option_map}
use Rattle.aq_base.specs.declared.catalog.Column.{Column}
use Rattle.aq_catalog.specs.Catalogs.{table_columns, number_of_column, number_of_table}
use Rattle.aq_setup.specs.Scopes.{Setting}
use Rattle.aq_binder.proofs.BoundBodies.{same_insert}
use Rattle.aq_binder.proofs.binding.bound_insert.Goals as goal

pub returns : goal.returns
returns c =
    let s = c.args.s.now in
    same_insert _ _ _ _ _ _
    (c.in_ok-bound_table.ensures ∙ ap (λ (setting : Setting). number_of_table setting.catalog s.table) c.setting.view_is)
    (c.in_ok-bound_targets.ensures
    ∙ ap (λ (cols : List Column). option_map (λ names. map (number_of_column cols) names) s.columns) c.columns_of.ensures
    ∙ ap (λ (setting : Setting). option_map (λ names. map (number_of_column (table_columns setting.catalog s.table)) names) s.columns) c.setting.view_is)
    c.in_ok-bound_source.ensures
