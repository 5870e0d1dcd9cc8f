-- A catalog whose conditions and bodies are data that contracts compute with, and the look-ups in it.
use Rattle.std.specs.Prelude.{ℕ, Bool, false, List, [], Option, Some, None, map, find, option_map, option_and_then, unwrap_or, slice_get, ◌∷◌}
use Rattle.std.specs.List.{flat_map}
use Rattle.aq_base.specs.Names.{Text, same_text}
use Rattle.aq_base.specs.Terms.{Term}
use Rattle.aq_base.specs.Statements.{term_in}
use Rattle.aq_base.specs.Codes.{Code, code_of}
use Rattle.aq_base.specs.Rules.{Rule}
use Rattle.aq_base.specs.Events.{Event}
use Rattle.aq_base.specs.ConstraintModes.{Modes, is_deferred_mode}
use Rattle.aq_base.specs.declared.catalog.Column.{Column}
use Rattle.aq_base.specs.declared.catalog.Does.{Does}
use Rattle.aq_base.specs.declared.catalog.Does.TheVariants.{Body, Native}
use Rattle.aq_base.specs.declared.catalog.Trigger.{Trigger}
use Rattle.aq_catalog.specs.Catalogs.{Catalog, columns_at}

pub record Schema : Type 0 where
  pub catalog : Catalog
  -- of each trigger, by its number: its WHEN, and the instructions of its body
  pub conditions : List (Option Term)
  pub codes : List Code
  -- the native checks, by their names
  pub rules : List (Text × Rule)

abbrev pub body_code : Does → Code
body_code (Body body) = code_of body
body_code _ = []

abbrev pub schema_of : Catalog → List (Text × Rule) → Schema
schema_of cat rules =
    record {
      catalog = cat;
      conditions = map (λ trigger. term_in trigger.condition) cat.triggers;
      codes = map (λ trigger. body_code trigger.does) cat.triggers;
      rules = rules;
    }

-- ---- triggers, by their numbers

abbrev pub trigger_at : Schema → ℕ → Option Trigger
trigger_at schema trigger = slice_get schema.catalog.triggers trigger

abbrev pub condition_at : Schema → ℕ → Option Term
condition_at schema trigger = option_and_then (λ condition. condition) (slice_get schema.conditions trigger)

abbrev pub code_at : Schema → ℕ → Code
code_at schema trigger = unwrap_or (slice_get schema.codes trigger) []

abbrev pub rule_named : Schema → Text → Option Rule
rule_named schema name = option_map (λ entry. entry.1) (find (λ entry. same_text entry.0 name) schema.rules)

-- the rules that the tables' native checks name, each with its table
abbrev pub listed_rule : ℕ → Option Rule → List (ℕ × Rule)
listed_rule table None = []
listed_rule table (Some rule) = (table, rule) ∷ []

abbrev pub rules_of_does : Schema → ℕ → Does → List (ℕ × Rule)
rules_of_does schema table (Native name) = listed_rule table (rule_named schema name)
rules_of_does schema table _ = []

abbrev pub table_rules : Schema → List (ℕ × Rule)
table_rules schema = flat_map (λ trigger. rules_of_does schema trigger.table trigger.does) schema.catalog.triggers

-- ---- whether events wait for the commit now

-- an event of no constraint is immediate
abbrev pub is_constraint_deferred : Schema → Modes → Option ℕ → Bool
is_constraint_deferred schema modes None = false
is_constraint_deferred schema modes (Some con) =
    elim (slice_get schema.catalog.constraints con) [ None ↦ false | Some found ↦ is_deferred_mode modes con found.decl ]

abbrev pub constraint_of : Option Trigger → Option ℕ
constraint_of None = None
constraint_of (Some trigger) = trigger.con

abbrev pub is_deferred : Schema → Modes → Event → Bool
is_deferred schema modes event = is_constraint_deferred schema modes (constraint_of (trigger_at schema event.trigger))

-- ---- names, for texts

abbrev pub table_name : Schema → ℕ → Text
table_name schema table = unwrap_or (option_map (λ t. t.name) (slice_get schema.catalog.tables table)) []

abbrev pub columns : Schema → ℕ → List Column
columns schema table = columns_at schema.catalog table

abbrev pub column_name : Schema → ℕ → ℕ → Text
column_name schema table column = unwrap_or (option_map (λ c. c.name) (slice_get (columns schema table) column)) []

abbrev pub trigger_name : Schema → ℕ → Text
trigger_name schema trigger = unwrap_or (option_map (λ t. t.name) (trigger_at schema trigger)) []

abbrev pub constraint_name : Schema → ℕ → Text
constraint_name schema con = unwrap_or (option_map (λ c. c.name) (slice_get schema.catalog.constraints con)) []
