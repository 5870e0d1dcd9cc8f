-- What the setup of a script makes: tables, unique keys, foreign keys and their triggers.
use Rattle.std.specs.Prelude.{List}
use Rattle.aq_first_base.specs.declared.catalog.Table.{Table}
use Rattle.aq_first_base.specs.declared.catalog.UniqueKey.{UniqueKey}
use Rattle.aq_first_base.specs.declared.catalog.ForeignKey.{ForeignKey}
use Rattle.aq_first_base.specs.declared.catalog.Trigger.{Trigger}

-- each list in creation order: a number is a place in it
pub record Catalog : Type 0 where
  pub tables : List Table
  pub keys : List UniqueKey
  pub fks : List ForeignKey
  pub triggers : List Trigger
