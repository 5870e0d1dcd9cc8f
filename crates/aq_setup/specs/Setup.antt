-- What the setup of a script makes: the catalog, or the line of the first statement that is refused, with its fault (PostgreSQL manual, chapter
-- "Data Definition", and page CREATE FUNCTION).
use Rattle.std.specs.Prelude.{ℕ, ◌||◌, List, [], ◌∷◌, ◌++◌, Result, Ok, Err, if◌then◌else◌, is_some}
use Rattle.aq_base.specs.declared.fault.SqlFault.{SqlFault}
use Rattle.aq_base.specs.declared.trigger.CreateFunction.{CreateFunction}
use Rattle.aq_base.specs.declared.statement.Statement.{Statement}
use Rattle.aq_base.specs.declared.statement.Statement.TheVariants as statements
use Rattle.aq_base.specs.declared.script.Placed.{Placed}
use Rattle.aq_base.specs.declared.script.Script.{Script}
use Rattle.aq_base.specs.declared.catalog.NativeName.{NativeName}
use Rattle.aq_catalog.specs.Catalogs.{Catalog, no_tables, function_named, native_named}
use Rattle.aq_setup.specs.Tables.{created, altered, with_added, create_table_faults, alter_table_faults}
use Rattle.aq_setup.specs.Triggers.{plain_trigger, constraint_trigger, create_trigger_faults, with_trigger}
use Rattle.aq_setup.specs.Binding.{unless_faulty}
use Rattle.aq_setup.specs.Order.{SetupFaults, faultless, in_order}
use Rattle.aq_refusals.specs.Faults.{function_exists}

-- a function's statements are looked at where a trigger names it
abbrev pub create_function_faults : Catalog → List NativeName → CreateFunction → SetupFaults
create_function_faults cat natives s =
    record faultless {
      exists = if is_some (function_named cat s.name) || is_some (native_named natives s.name) then function_exists s.name ∷ [] else [];
    }

abbrev pub with_function : CreateFunction → Catalog → Catalog
with_function s cat = record cat { functions = cat.functions ++ record { name = s.name; body = s.body } ∷ [] }

-- a statement of a session is none of a setup
abbrev pub setup_faults : List NativeName → Catalog → Statement → SetupFaults
setup_faults natives cat (statements.CreateTable s) = create_table_faults cat s
setup_faults natives cat (statements.AlterTable s) = alter_table_faults cat s
setup_faults natives cat (statements.CreateFunction s) = create_function_faults cat natives s
setup_faults natives cat (statements.CreateTrigger s) = create_trigger_faults cat natives (plain_trigger s)
setup_faults natives cat (statements.CreateConstraintTrigger s) = create_trigger_faults cat natives (constraint_trigger s)
setup_faults natives cat _ = faultless

-- the catalog with what a statement makes that is not refused
abbrev pub defined : Catalog → Statement → Catalog
defined cat (statements.CreateTable s) = with_added (created cat s)
defined cat (statements.AlterTable s) = with_added (altered cat s)
defined cat (statements.CreateFunction s) = with_function s cat
defined cat (statements.CreateTrigger s) = with_trigger (plain_trigger s) cat
defined cat (statements.CreateConstraintTrigger s) = with_trigger (constraint_trigger s) cat
defined cat _ = cat

abbrev pub define : List NativeName → Catalog → Statement → Result Catalog SqlFault
define natives cat s = unless_faulty (in_order (setup_faults natives cat s)) (defined cat s)

pub record RefusedSetup : Type 0 where
  pub line : ℕ
  pub fault : SqlFault

-- statement after statement, until one is refused
abbrev pub setup_from : List NativeName → Catalog → List Placed → Result Catalog RefusedSetup
setup_from natives cat [] = Ok cat
setup_from natives cat (placed ∷ others) =
    elim (define natives cat placed.statement) [
      | Ok next ↦ setup_from natives next others
      | Err fault ↦ Err (record { line = placed.line; fault = fault })
    ]

abbrev pub setup : List NativeName → Script → Result Catalog RefusedSetup
setup natives script = setup_from natives no_tables script.setup
