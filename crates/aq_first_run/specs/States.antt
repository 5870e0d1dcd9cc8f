-- The state of a run.
use Rattle.std.specs.Prelude.{ℕ, Bool, true, false, List, [], ◌∷◌, length, map, Option, None, slice_index_or}
use Rattle.aq_base.specs.Values.{Row}
use Rattle.aq_first_base.specs.Databases.{Database}
use Rattle.aq_first_base.specs.Writes.{overlay}
use Rattle.aq_first_base.specs.Works.{Work}
use Rattle.aq_first_base.specs.Setup.{Program}
use Rattle.aq_first_base.specs.declared.simple.SimpleScript.{SimpleScript}
use Rattle.aq_base.specs.declared.reply.ReplyLine.{ReplyLine}

-- a data statement in progress, without its targets
pub data Operation : Type 0 where
  Inserting : (table : ℕ) → Operation
  Deleting : (table : ℕ) → Operation

-- what one row step of a statement works on
pub data Target : Type 0 where
  New_row : (values : Row) → Target
  Old_row : (number : ℕ) → Target

-- what a statement answers when it succeeds
pub data Answer : Type 0 where
  Inserted : (count : ℕ) → Answer
  Deleted : (count : ℕ) → Answer
  Began : Answer
  Committed : Answer
  Rolled_back : Answer

-- a session's transaction block (PostgreSQL source, xact.c, TBlockState)
pub data Block : Type 0 where
  Idle : Block
  Open : Block
  Failed : Block

-- what is in progress in a session
pub data Task : Type 0 where
  -- a statement with the targets left, and how many were changed
  Rows : (operation : Operation) → (left : List Target) → (done : ℕ) → Task
  -- the rounds of the statement's level, and then its answer
  Rounds : (answer : Answer) → Task
  -- the deferred events fire, the transaction commits, and then the answer is given
  Committing : (answer : Answer) → Task

pub record Transaction : Type 0 where
  pub work : Work

pub record Session : Type 0 where
  -- how many statements were taken
  pub next : ℕ
  pub block : Block
  pub transaction : Option Transaction
  -- the innermost first
  pub tasks : List Task
  pub ended : Bool

-- a line of a reply: to which statement of which session it belongs, statements counted from 1
pub record Given : Type 0 where
  pub session : ℕ
  pub statement : ℕ
  pub line : ReplyLine

pub record World : Type 0 where
  -- database 0 and one for each commit, the oldest first
  pub history : List Database
  -- the last row number and the last write number that were drawn
  pub rows : ℕ
  pub writes : ℕ
  pub replies : List Given

pub record State : Type 0 where
  pub world : World
  pub sessions : List Session

-- what a machine stands for: a script, and the state of its run
pub record Standing : Type 0 where
  pub script : SimpleScript
  pub state : State

abbrev pub at_start : Session
at_start = record { next = 0; block = Idle; transaction = None; tasks = []; ended = false }

-- the state before the first step: database 0 is empty
abbrev pub opening : Program → State
opening program =
    record {
      world = record { history = [] ∷ []; rows = 0; writes = 0; replies = [] };
      sessions = map (λ _. at_start) program.sessions;
    }

-- a session that has no statements
abbrev pub nobody : Session
nobody = record { next = 0; block = Idle; transaction = None; tasks = []; ended = true }

abbrev pub session_at : State → ℕ → Session
session_at st s = slice_index_or st.sessions s nobody

abbrev pub last_of : List Database → Database
last_of [] = []
last_of (db ∷ []) = db
last_of (db ∷ next ∷ later) = last_of (next ∷ later)

abbrev pub last_database : World → Database
last_database world = last_of world.history

-- what the transaction sees now, and what its commit would append: the last database with its own versions
abbrev pub latest_view : World → Work → Database
latest_view world work = overlay (length world.history) work.writes (last_database world)
