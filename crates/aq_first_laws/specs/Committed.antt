-- Every committed database keeps the references, the unique keys and the columns without null.
use Rattle.std.specs.Prelude.{◌≤◌, length, Contains}
use Rattle.aq_first_base.specs.Catalogs.{Catalog}
use Rattle.aq_base.specs.Maps.{KeysRise}
use Rattle.aq_first_base.specs.Databases.{Database}
use Rattle.aq_first_base.specs.References.{ReferencesHold, KeysAreUnique, NotNullHolds}
use Rattle.aq_first_base.specs.Setup.{Program, program_of}
use Rattle.aq_first_base.specs.declared.simple.SimpleScript.{SimpleScript}
use Rattle.aq_first_run.specs.States.{State}
use Rattle.aq_first_run.specs.Runs.{Schedule, IsSchedule, run}

-- no row number stands twice, each reference of the database has its parent, no unique key stands twice, and no null stands in
-- a column that holds none
pub record DatabaseStands (cat : Catalog) (db : Database) : Type 0 where
  pub numbers : KeysRise db
  pub references : ReferencesHold cat.fks db
  pub keys : KeysAreUnique cat.keys db
  pub not_null : NotNullHolds cat.tables db

-- it is so of every database of the history
abbrev pub DatabasesStand : Program → State → Type 0
DatabasesStand program st = (db : Database) → Contains st.world.history db → DatabaseStands program.catalog db

-- and in every state of every run of a script with one session at the most
abbrev pub CommittedDatabasesStand : Type 0
CommittedDatabasesStand =
    (script : SimpleScript) (schedule : Schedule) → length script.sessions ≤ 1 → IsSchedule (program_of script) schedule →
    DatabasesStand (program_of script) (run (program_of script) schedule)
