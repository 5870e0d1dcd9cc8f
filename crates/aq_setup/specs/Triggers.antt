-- CREATE TRIGGER and CREATE CONSTRAINT TRIGGER: the faults in their order, and the trigger that is made (PostgreSQL manual, page CREATE
-- TRIGGER; PostgreSQL source, trigger.c, CreateTriggerFiringOn).
use Rattle.std.specs.Prelude.{ℕ, Bool, true, false, not, ◌&&◌, ◌||◌, ◌==◌, List, [], ◌∷◌, ◌++◌, codes, Option, Some, None, if◌then◌else◌, filter, is_some, is_none, length, map, nat_lt, nat_eq, option_map, unwrap_or}
use Rattle.std.specs.List.{list_any, flat_map, starts_with}
use Rattle.aq_base.specs.Names.{Text, same_text}
use Rattle.aq_base.specs.declared.fault.SqlFault.{SqlFault}
use Rattle.aq_base.specs.declared.catalog.Decl.{Decl}
use Rattle.aq_base.specs.declared.catalog.Op.{Op}
use Rattle.aq_base.specs.declared.catalog.Op.TheVariants as ops
use Rattle.aq_base.specs.declared.expr.Expr.{Expr, Expr-F, fold-Expr}
use Rattle.aq_base.specs.declared.expr.Expr.TheOpen as exprs
use Rattle.aq_base.specs.declared.trigger.TriggerEvent.{TriggerEvent}
use Rattle.aq_base.specs.declared.trigger.TriggerEvent.TheVariants as events
use Rattle.aq_base.specs.declared.trigger.Transition.{Transition}
use Rattle.aq_base.specs.declared.trigger.Transition.TheVariants as transitions
use Rattle.aq_base.specs.declared.trigger.TransitionTable.{TransitionTable}
use Rattle.aq_base.specs.declared.trigger.Each.{Each}
use Rattle.aq_base.specs.declared.trigger.Each.TheVariants as each
use Rattle.aq_base.specs.declared.trigger.CreateTrigger.{CreateTrigger}
use Rattle.aq_base.specs.declared.trigger.CreateConstraintTrigger.{CreateConstraintTrigger}
use Rattle.aq_base.specs.declared.catalog.Does.{Does}
use Rattle.aq_base.specs.declared.catalog.Does.TheVariants.{Check, Parent, Body, Native}
use Rattle.aq_base.specs.declared.catalog.Trigger.{Trigger}
use Rattle.aq_base.specs.declared.catalog.NativeName.{NativeName}
use Rattle.aq_catalog.specs.Catalogs.{Catalog, table_number, table_columns, function_named, native_named, trigger_names, number_of_table, number_of_column, names_taken}
use Rattle.aq_setup.specs.Scopes.{Setting, no_row, repeats}
use Rattle.aq_setup.specs.Names.{unknown, table_faults}
use Rattle.aq_setup.specs.Binding.{bound_expression, condition_faults}
use Rattle.aq_setup.specs.Bodies.{body_faults, bound_body}
use Rattle.aq_setup.specs.Order.{SetupFaults, faultless}
use Rattle.aq_refusals.specs.Faults.{no_column, column_twice, over_limit, trigger_exists, constraint_exists, no_function, transition_events, transition_columns, no_old_table, no_new_table, no_old_or_new, native_misused, trigger_reserved}

-- a trigger as one of both statements asks for it
pub record Wanted : Type 0 where
  pub name : Text
  pub events : List TriggerEvent
  pub table : Text
  pub transitions : List TransitionTable
  pub level : Each
  pub condition : Option Expr
  pub function : Text
  -- of a constraint trigger
  pub timing : Option Decl

abbrev pub plain_trigger : CreateTrigger → Wanted
plain_trigger s =
    record {
      name = s.name;
      events = s.events;
      table = s.table;
      transitions = unwrap_or s.transitions [];
      level = s.each;
      condition = s.condition;
      function = s.function;
      timing = None;
    }

abbrev pub constraint_trigger : CreateConstraintTrigger → Wanted
constraint_trigger s =
    record {
      name = s.name;
      events = s.events;
      table = s.table;
      transitions = [];
      level = each.Row;
      condition = s.condition;
      function = s.function;
      timing = Some s.timing;
    }

-- ---- its parts

abbrev pub op_of : TriggerEvent → Op
op_of events.Insert = ops.Insert
op_of events.Delete = ops.Delete
op_of (events.Update cols) = ops.Update

abbrev pub is_insert : TriggerEvent → Bool
is_insert events.Insert = true
is_insert _ = false

abbrev pub is_delete : TriggerEvent → Bool
is_delete events.Delete = true
is_delete _ = false

abbrev pub is_update : TriggerEvent → Bool
is_update (events.Update cols) = true
is_update _ = false

-- the columns of UPDATE OF; a list is not empty
abbrev pub event_columns : TriggerEvent → List Text
event_columns events.Insert = []
event_columns events.Delete = []
event_columns (events.Update cols) = unwrap_or cols []

abbrev pub update_columns : Wanted → List Text
update_columns w = flat_map event_columns w.events

abbrev pub is_old : Transition → Bool
is_old transitions.Old = true
is_old transitions.New = false

abbrev pub old_tables : Wanted → List Text
old_tables w = flat_map (λ t. if is_old t.transition then t.name ∷ [] else []) w.transitions

abbrev pub new_tables : Wanted → List Text
new_tables w = flat_map (λ t. if is_old t.transition then [] else t.name ∷ []) w.transitions

abbrev pub first_text : List Text → Option Text
first_text [] = None
first_text (name ∷ names) = Some name

-- where its function's statements stand
abbrev pub trigger_setting : Catalog → Wanted → Setting
trigger_setting cat w =
    record { catalog = cat; changed = table_columns cat w.table; old_table = first_text (old_tables w); new_table = first_text (new_tables w) }

abbrev pub is_statement : Each → Bool
is_statement each.Row = false
is_statement each.Statement = true

-- ---- the use of OLD and NEW in WHEN

abbrev pub uses_old_step : Expr-F Bool → Bool
uses_old_step (exprs.Constant value) = false
uses_old_step (exprs.Column column) = false
uses_old_step (exprs.Qualified table column) = false
uses_old_step (exprs.Old column) = true
uses_old_step (exprs.New column) = false
uses_old_step exprs.Operation = false
uses_old_step (exprs.Unary operator a) = a
uses_old_step (exprs.Binary a operator b) = a || b

-- where an expression has NEW, and else as for OLD
abbrev pub uses_new_step : Expr-F Bool → Bool
uses_new_step (exprs.Old column) = false
uses_new_step (exprs.New column) = true
uses_new_step other = uses_old_step other

abbrev pub uses_old : Expr → Bool
uses_old e = fold-Expr Bool uses_old_step e

abbrev pub uses_new : Expr → Bool
uses_new e = fold-Expr Bool uses_new_step e

-- ---- faults, one line of the order after the other

-- 54000: those of foreign keys don't count
abbrev pub is_of_statement : Does → Bool
is_of_statement (Check fk) = false
is_of_statement (Parent fk) = false
is_of_statement (Body body) = true
is_of_statement (Native name) = true

abbrev pub trigger_limit : Catalog → List SqlFault
trigger_limit cat =
    if nat_lt (length (filter (λ t. is_of_statement t.does) cat.triggers)) 256 then [] else over_limit (codes "256 triggers") ∷ []

-- 42710: its name as a trigger's, then as a constraint's
abbrev pub triggers_taken : Catalog → Option ℕ → List Text
triggers_taken cat None = []
triggers_taken cat (Some table) = trigger_names cat table

abbrev pub trigger_name_faults : Catalog → Wanted → List SqlFault
trigger_name_faults cat w =
    (if list_any (same_text w.name) (triggers_taken cat (table_number cat w.table)) then trigger_exists w.table w.name ∷ [] else [])
    ++ (if is_some w.timing && list_any (same_text w.name) (names_taken cat (table_number cat w.table)) then constraint_exists w.table w.name ∷ [] else [])

-- 42883: a trigger names a function or a native check
abbrev pub function_faults : Catalog → List NativeName → Wanted → List SqlFault
function_faults cat natives w =
    if is_some (function_named cat w.function) || is_some (native_named natives w.function) then [] else no_function w.function ∷ []

-- 0A000
abbrev pub has_transition : Wanted → Bool
has_transition w = not (length w.transitions == 0)

abbrev pub transition_faults : Wanted → List SqlFault
transition_faults w =
    (if has_transition w && nat_lt 1 (length w.events) then transition_events ∷ [] else [])
    ++ (if has_transition w && not (length (update_columns w) == 0) then transition_columns ∷ [] else [])

-- 42P17
abbrev pub transition_op_faults : Wanted → List SqlFault
transition_op_faults w =
    (if nat_lt 0 (length (old_tables w)) && list_any is_insert w.events then no_old_table ∷ [] else [])
    ++ (if nat_lt 0 (length (new_tables w)) && list_any is_delete w.events then no_new_table ∷ [] else [])

-- an INSERT has no OLD, a DELETE no NEW, and a statement neither
abbrev pub row_missing : Wanted → Expr → Bool
row_missing w e =
    (uses_old e && (list_any is_insert w.events || is_statement w.level))
    || (uses_new e && (list_any is_delete w.events || is_statement w.level))

abbrev pub when_row_faults : Wanted → List SqlFault
when_row_faults w =
    elim w.condition [ None ↦ [] | Some e ↦ if row_missing w e then no_old_or_new w.name ∷ [] else [] ]

-- a native check is AFTER INSERT OR UPDATE, FOR EACH ROW, without columns and WHEN, on a table of as many columns as it wants
abbrev pub native_fits : Catalog → Wanted → NativeName → Bool
native_fits cat w native =
    list_any is_insert w.events && list_any is_update w.events && not (list_any is_delete w.events) && not (is_statement w.level)
    && length (update_columns w) == 0
    && is_none w.condition
    && length (table_columns cat w.table) == native.arity

abbrev pub native_faults : Catalog → List NativeName → Wanted → List SqlFault
native_faults cat natives w =
    elim (native_named natives w.function) [ None ↦ [] | Some native ↦ if native_fits cat w native then [] else native_misused native.name ∷ [] ]

-- 42939
abbrev pub reserved_faults : Wanted → List SqlFault
reserved_faults w = if starts_with nat_eq w.name (codes "RI_ConstraintTrigger_") then trigger_reserved w.name ∷ [] else []

-- then WHEN, then the statements of its function
abbrev pub when_faults : Catalog → Wanted → List SqlFault
when_faults cat w = elim w.condition [ None ↦ [] | Some e ↦ condition_faults (codes "WHEN") (no_row (table_columns cat w.table)) e ]

abbrev pub function_body_faults : Catalog → Wanted → List SqlFault
function_body_faults cat w =
    elim (function_named cat w.function) [ None ↦ [] | Some found ↦ body_faults (trigger_setting cat w) found.body ]

abbrev pub create_trigger_faults : Catalog → List NativeName → Wanted → SetupFaults
create_trigger_faults cat natives w =
    record faultless {
      limits = trigger_limit cat;
      exists = trigger_name_faults cat w;
      twice = map column_twice (repeats (update_columns w));
      missing = table_faults cat w.table ++ (map no_column (flat_map (unknown (table_columns cat w.table)) (update_columns w)) ++ function_faults cat natives w);
      transitions = transition_faults w;
      forms = transition_op_faults w ++ (when_row_faults w ++ native_faults cat natives w);
      reserved = reserved_faults w;
      bodies = when_faults cat w ++ function_body_faults cat w;
    }

-- ---- the catalog that is made

-- a function's body, or else the native check of that name
abbrev pub does_of : Catalog → Wanted → Does
does_of cat w =
    elim (function_named cat w.function) [ None ↦ Native w.function | Some found ↦ Body (bound_body (trigger_setting cat w) found.body) ]

abbrev pub made_trigger : Catalog → Wanted → Trigger
made_trigger cat w =
    record {
      name = w.name;
      table = number_of_table cat w.table;
      ops = map op_of w.events;
      cols = map (number_of_column (table_columns cat w.table)) (update_columns w);
      level = w.level;
      condition = option_map (bound_expression (no_row (table_columns cat w.table))) w.condition;
      con = option_map (λ decl. length cat.constraints) w.timing;
      does = does_of cat w;
      old_table = first_text (old_tables w);
      new_table = first_text (new_tables w);
    }

-- a constraint trigger is a constraint of its table
abbrev pub with_trigger_constraint : Wanted → Catalog → Catalog
with_trigger_constraint w cat =
    elim w.timing [
      | None ↦ cat
      | Some decl ↦ record cat { constraints = cat.constraints ++ record { name = w.name; table = number_of_table cat w.table; decl = decl } ∷ [] }
    ]

abbrev pub with_trigger : Wanted → Catalog → Catalog
with_trigger w cat = with_trigger_constraint w (record cat { triggers = cat.triggers ++ made_trigger cat w ∷ [] })
