-- What every committed database satisfies, and that the trace tells of the same ones.
use Rattle.std.specs.Prelude.{◌≡◌, List, Contains}
use Rattle.aq_base.specs.Names.{Text}
use Rattle.aq_base.specs.Databases.{Database}
use Rattle.aq_base.specs.References.{ReferencesHold, KeysAreUnique, NotNullHolds, RulesHold}
use Rattle.aq_base.specs.Rules.{Rule}
use Rattle.aq_base.specs.declared.catalog.NativeName.{NativeName}
use Rattle.aq_base.specs.declared.script.Script.{Script}
use Rattle.aq_lines.specs.Committed.{committed}
use Rattle.aq_outcomes.specs.Schemas.{Schema, table_rules}
use Rattle.aq_run.specs.Programs.{Program}
use Rattle.aq_run.specs.Runs.{Schedule, IsSchedule, run}
use Rattle.aq_laws.specs.Made.{IsMadeOf}

-- every foreign key, unique key and not-null column is satisfied, and every native check's rule by each row as a new one
pub record Stands (schema : Schema) (db : Database) : Type 0 where
  pub references : ReferencesHold schema.catalog.fks db
  pub keys : KeysAreUnique schema.catalog.keys db
  pub not_null : NotNullHolds schema.catalog.tables db
  pub rules : RulesHold (table_rules schema) db

-- in every state of every run
abbrev pub CommittedDatabasesStand : Type 0
CommittedDatabasesStand =
    (natives : List NativeName) (rules : List (Text × Rule)) (script : Script) (program : Program) → IsMadeOf natives rules script program →
    (schedule : Schedule) → IsSchedule program schedule → (db : Database) → Contains (run program schedule).world.history db → Stands program.schema db

-- the history is what the surviving changes of the trace make
abbrev pub HistoryIsTold : Type 0
HistoryIsTold =
    (natives : List NativeName) (rules : List (Text × Rule)) (script : Script) (program : Program) → IsMadeOf natives rules script program →
    (schedule : Schedule) → IsSchedule program schedule →
    committed program.schema.catalog (run program schedule).world.trace ≡ (run program schedule).world.history
