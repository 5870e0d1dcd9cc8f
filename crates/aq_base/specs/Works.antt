-- What a transaction has done so far, and what it owes: the six parts that a return to a savepoint puts back (PostgreSQL source,
-- trigger.c, AfterTriggersData).
use Rattle.std.specs.Prelude.{ℕ, Bool, true, false, List, [], length, filter}
use Rattle.aq_base.specs.Names.{Text}
use Rattle.aq_base.specs.Writes.{Writes}
use Rattle.aq_base.specs.LockModes.{Holdings}
use Rattle.aq_base.specs.Events.{Event}
use Rattle.aq_base.specs.Transitions.{Transition}
use Rattle.aq_base.specs.ConstraintModes.{Modes, no_modes}

-- what is opened: a query level, the rounds of a SET CONSTRAINTS, or the drain of the deferred list
pub data Kind : Type 0 where
  Level : Kind
  Constraints : Kind
  Drain : Kind

-- the events that were queued at a level, and those of the firing round in progress. An event stays the first of its round until it is done.
pub record Opened : Type 0 where
  pub kind : Kind
  pub queued : List Event
  pub round : List Event

pub record Work : Type 0 where
  pub writes : Writes
  pub holdings : Holdings
  -- the events that wait for the commit
  pub deferred : List Event
  -- the latest first
  pub opened : List Opened
  -- the latest first
  pub sets : List Transition
  pub modes : Modes

abbrev pub no_work : Work
no_work = record { writes = []; holdings = []; deferred = []; opened = []; sets = []; modes = no_modes }

abbrev pub is_level : Opened → Bool
is_level opened = elim (opened.kind) [ Level ↦ true | Constraints ↦ false | Drain ↦ false ]

-- how many query levels are open
abbrev pub level_of : Work → ℕ
level_of work = length (filter is_level work.opened)

-- ---- saved copies: a savepoint of a session, or a block of a body that has handlers

pub data Mark : Type 0 where
  Named : (name : Text) → Mark
  -- the number of the transaction's open blocks with it, and how many tasks the session had in progress
  Block : (number : ℕ) → (height : ℕ) → Mark

pub record Saved : Type 0 where
  pub mark : Mark
  pub work : Work
