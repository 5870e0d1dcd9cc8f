-- Lines of the order in which a trigger's faults are tried, and the constraint that a constraint trigger is.
use Rattle.std.specs.Prelude.{List, [], ◌∷◌, ◌++◌, ◌&&◌, if◌then◌else◌, is_some, map, codes, Option, Some, None}
use Rattle.std.specs.List.{flat_map, list_any}
use Rattle.aq_base.specs.Names.{same_text}
use Rattle.aq_base.specs.declared.fault.SqlFault.{SqlFault}
use Rattle.aq_base.specs.declared.catalog.Decl.{Decl}
use Rattle.aq_base.specs.declared.catalog.NativeName.{NativeName}
use Rattle.aq_base.specs.declared.catalog.Constraint.{Constraint}
use Rattle.aq_catalog.specs.Catalogs.{Catalog, table_columns, table_number, number_of_table, names_taken}
use Rattle.aq_setup.specs.Scopes.{no_row}
use Rattle.aq_setup.specs.Binding.{condition_faults}
use Rattle.aq_base.specs.declared.expr.Expr.{Expr}
use Rattle.aq_base.specs.declared.catalog.Column.{Column}
use Rattle.aq_setup.specs.Names.{unknown, table_faults}
use Rattle.aq_refusals.specs.Faults.{no_column, trigger_exists, constraint_exists}
use Rattle.aq_setup.specs.Triggers.{Wanted, triggers_taken, update_columns, function_faults, transition_op_faults, when_row_faults, native_faults, when_faults, function_body_faults}

abbrev pub trigger_named : Catalog → Wanted → List SqlFault
trigger_named cat w = if list_any (same_text w.name) (triggers_taken cat (table_number cat w.table)) then trigger_exists w.table w.name ∷ [] else []

abbrev pub constraint_named : Catalog → Wanted → List SqlFault
constraint_named cat w =
    if is_some w.timing && list_any (same_text w.name) (names_taken cat (table_number cat w.table)) then constraint_exists w.table w.name ∷ [] else []

abbrev pub when_of : List Column → Option Expr → List SqlFault
when_of cols None = []
when_of cols (Some e) = condition_faults (codes "WHEN") (no_row cols) e

abbrev pub missing : Catalog → List NativeName → Wanted → List SqlFault
missing cat natives w =
    table_faults cat w.table ++ (map no_column (flat_map (unknown (table_columns cat w.table)) (update_columns w)) ++ function_faults cat natives w)

abbrev pub of_form : Catalog → List NativeName → Wanted → List SqlFault
of_form cat natives w = transition_op_faults w ++ (when_row_faults w ++ native_faults cat natives w)

abbrev pub of_bodies : Catalog → Wanted → List SqlFault
of_bodies cat w = when_faults cat w ++ function_body_faults cat w

abbrev pub constraint_of : Catalog → Wanted → Decl → Constraint
constraint_of cat w decl = record { name = w.name; table = number_of_table cat w.table; decl = decl }
