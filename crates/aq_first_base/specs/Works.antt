-- What a transaction has done so far, and what it owes (PostgreSQL source, trigger.c).
use Rattle.std.specs.Prelude.{ℕ, List, Option}
use Rattle.aq_base.specs.Values.{Row}
use Rattle.aq_first_base.specs.Writes.{Writes}

-- an event that a row change queued
pub record Event : Type 0 where
  pub trigger : ℕ
  pub row : ℕ
  -- the number of the change
  pub write : ℕ
  -- the row's version before the change, and behind it
  pub old : Option Row
  pub new : Option Row

-- what is opened: a query level, or the drain of the deferred list
pub data Kind : Type 0 where
  Level : Kind
  Drain : Kind

-- the events that were queued at a level, and those of the firing round in progress
pub record Opened : Type 0 where
  pub kind : Kind
  pub queued : List Event
  pub round : List Event

pub record Work : Type 0 where
  pub writes : Writes
  -- the events that wait for the commit
  pub deferred : List Event
  -- the latest first
  pub opened : List Opened
