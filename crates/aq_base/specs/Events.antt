-- Events: what a change of a row, or a statement, has queued for a trigger (PostgreSQL source, trigger.c, AfterTriggerEventData).
use Rattle.std.specs.Prelude.{ℕ, Bool, List, Option, is_none, map}
use Rattle.aq_base.specs.Values.{Row}
use Rattle.aq_base.specs.declared.catalog.Op.{Op}

pub record Event : Type 0 where
  -- counted from 1 in each transaction, never used again
  pub number : ℕ
  pub trigger : ℕ
  pub table : ℕ
  pub op : Op
  -- none: an event of a statement
  pub row : Option ℕ
  -- the number of the change
  pub write : Option ℕ
  -- the row's version before the change, and behind it
  pub old : Option Row
  pub new : Option Row
  -- the transition set of the table and the operation
  pub set : ℕ

abbrev pub is_of_statement : Event → Bool
is_of_statement event = is_none event.row

abbrev pub numbers_of : List Event → List ℕ
numbers_of events = map (λ event. event.number) events
