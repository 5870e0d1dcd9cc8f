-- Why a step is refused, with what it found.
use Rattle.std.specs.Prelude.{ℕ}
use Rattle.aq_base.specs.Values.{Row}
use Rattle.aq_first_base.specs.declared.catalog.UniqueKey.{UniqueKey}
use Rattle.aq_first_base.specs.declared.catalog.ForeignKey.{ForeignKey}

pub data Fault : Type 0 where
  -- another row has these values of the unique key
  Duplicate : (key : UniqueKey) → (values : Row) → Fault
  -- a column that holds no null would hold one: its table and number, and the row
  Null_value : (table : ℕ) → (col : ℕ) → (values : Row) → Fault
  -- no row of the parent table has these values of the foreign key
  Missing : (fk : ForeignKey) → (values : Row) → Fault
  -- the parent row with these values is gone, and a child row still refers to it
  Referenced : (fk : ForeignKey) → (values : Row) → Fault
  -- the block has failed, and the statement doesn't end it
  In_failed_block : Fault
