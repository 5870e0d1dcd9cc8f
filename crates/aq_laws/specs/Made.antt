-- The program of a script whose setup isn't refused.
use Rattle.std.specs.Prelude.{◌≡◌, List, map, Ok}
use Rattle.aq_base.specs.Names.{Text}
use Rattle.aq_base.specs.Rules.{Rule}
use Rattle.aq_base.specs.declared.catalog.NativeName.{NativeName}
use Rattle.aq_base.specs.declared.script.Placed.{Placed}
use Rattle.aq_base.specs.declared.script.Script.{Script}
use Rattle.aq_base.specs.declared.script.SessionText.{SessionText}
use Rattle.aq_base.specs.declared.statement.Statement.{Statement}
use Rattle.aq_base.specs.declared.statement.Statement.TheVariants.{SetConstraints}
use Rattle.aq_catalog.specs.Catalogs.{Catalog}
use Rattle.aq_setup.specs.Setup.{setup}
use Rattle.aq_setup.specs.Binding.{bind}
use Rattle.aq_run.specs.Programs.{Program, Form, Bound_session, program_of}
use Rattle.aq_run.specs.Programs.Form.{On_rows, On_constraints}

abbrev pub form_of : Statement → Form
form_of (SetConstraints s) = On_constraints
form_of statement = On_rows

-- a session with its statements as the catalog binds them
abbrev pub bound_session : Catalog → SessionText → Bound_session
bound_session cat session =
    (session.name, map (λ (placed : Placed). (form_of placed.statement, bind cat placed.statement)) session.statements)

pub record IsMadeOf (natives : List NativeName) (rules : List (Text × Rule)) (script : Script) (program : Program) : Type 0 where
  pub catalog : Catalog
  pub set_up : setup natives script ≡ Ok catalog
  -- the native checks that triggers may name are those that have a rule
  pub named : map (λ (native : NativeName). native.name) natives ≡ map (λ (rule : Text × Rule). rule.0) rules
  pub bound : program ≡ program_of catalog rules (map (bound_session catalog) script.sessions)
