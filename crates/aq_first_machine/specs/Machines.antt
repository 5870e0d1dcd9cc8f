-- What the parts of a machine have to do with its script.
use Rattle.std.specs.Prelude.{◌≡◌, List, map, Option, Some, None}
use Rattle.std.specs.Option.{option_to_list}
use Rattle.aq_first_base.specs.Catalogs.{Catalog}
use Rattle.aq_first_base.specs.Setup.{catalog_of, program_of}
use Rattle.aq_first_base.specs.declared.simple.SimpleScript.{SimpleScript}
use Rattle.aq_first_base.specs.declared.bound.Bound.{Bound}
use Rattle.aq_first_run.specs.States.{World, Session, at_start}
use Rattle.aq_first_machine.specs.Runnings.{Stands}

abbrev pub StandsIn : World → Option Session → Type 0
StandsIn world None = Unit {0}
StandsIn world (Some session) = Stands world session

pub record IsMachine (script : SimpleScript) (catalog : Catalog) (statements : List Bound) (world : World) (session : Option Session) : Type 0 where
  pub catalog_is : catalog ≡ catalog_of script
  pub statements_are : (program_of script).sessions ≡ map (λ _. statements) (option_to_list session)
  pub stands : StandsIn world session

-- the statements and the session that a script's sessions make
pub record OpensSessions (sessions : List (List Bound)) (statements : List Bound) (session : Option Session) : Type 0 where
  pub statements_are : sessions ≡ map (λ _. statements) (option_to_list session)
  pub at_start_all : map (λ _. at_start) sessions ≡ option_to_list session
