-- The state of a run.
use Rattle.std.specs.Prelude.{ℕ, Bool, true, false, List, [], ◌∷◌, map, Option, Some, None, slice_index_or}
use Rattle.aq_base.specs.Values.{Row}
use Rattle.aq_base.specs.Databases.{History}
use Rattle.aq_base.specs.Writes.{Writes}
use Rattle.aq_base.specs.LockModes.{Holdings}
use Rattle.aq_base.specs.Events.{Event}
use Rattle.aq_base.specs.Works.{Work, Saved, no_work}
use Rattle.aq_base.specs.Frames.{Frame}
use Rattle.aq_base.specs.Blockers.{Ask}
use Rattle.aq_base.specs.declared.statement.Isolation.{Isolation}
use Rattle.aq_base.specs.declared.reply.ReplyLine.{ReplyLine}
use Rattle.aq_base.specs.declared.trace.TraceLine.{TraceLine}
use Rattle.aq_outcomes.specs.Parties.{Around, Party}
use Rattle.aq_run.specs.Programs.{Program}

-- what one row step of a statement works on
pub data Target : Type 0 where
  New_row : (values : Row) → Target
  Old_row : (number : ℕ) → Target

-- whose statement is in progress: the session's, or that of the body below it
pub data Place : Type 0 where
  In_session : Place
  In_body : Place

-- what is in progress in a session. The event of a check or an action in progress is the first of the round on top.
pub data Task : Type 0 where
  -- a statement that changes rows: the targets left, and how many were changed
  Changing : (place : Place) → (left : List Target) → (done : ℕ) → Task
  -- a SELECT that locks its rows: the rows left, and what was locked
  Locking : (left : List ℕ) → (shown : List Row) → Task
  -- no target is left: the rounds of the statement's level
  Rounds : (place : Place) → (done : ℕ) → Task
  -- the rounds of a SET CONSTRAINTS IMMEDIATE
  Settling : (place : Place) → Task
  -- the deferred events fire, and the transaction commits: that of a COMMIT, or of a statement outside a block that has changed so many rows
  Committing : (done : Option ℕ) → Task
  -- an action of a foreign key: the rows left, and how many were changed
  Acting : (left : List ℕ) → (done : ℕ) → Task
  -- SET DEFAULT behind its action: the old key is checked again
  Rechecking : (done : ℕ) → Task
  -- the body of a trigger, of an event with its OLD and NEW
  Running : (event : Event) → (frame : Frame) → Task

-- a session's transaction block (PostgreSQL source, xact.c, TBlockState)
pub data Block_state : Type 0 where
  Idle : Block_state
  Open : Block_state
  Failed : Block_state

pub record Transaction : Type 0 where
  pub isolation : Isolation
  -- the commit number that a Repeatable Read transaction reads at, once it has read
  pub snapshot : Option ℕ
  pub work : Work
  -- the copies to which it may return, the latest first
  pub saved : List Saved
  -- how many events were queued, rows changed and steps counted; these never fall
  pub events : ℕ
  pub changes : ℕ
  pub steps : ℕ

pub record Session : Type 0 where
  -- how many statements were taken
  pub next : ℕ
  pub block : Block_state
  pub transaction : Option Transaction
  -- the innermost first
  pub tasks : List Task
  pub waits : Option Ask
  pub ended : Bool

-- a line of a reply: to which statement of which session it belongs, statements counted from 1
pub record Given : Type 0 where
  pub session : ℕ
  pub statement : ℕ
  pub line : ReplyLine

pub record World : Type 0 where
  pub history : History
  -- the last row number and the last number of a change that were drawn
  pub rows : ℕ
  pub writes : ℕ
  pub replies : List Given
  pub trace : List TraceLine

pub record State : Type 0 where
  pub world : World
  pub sessions : List Session

-- ---- the opening

abbrev pub at_start : Session
at_start = record { next = 0; block = Idle; transaction = None; tasks = []; waits = None; ended = false }

abbrev pub opening : Program → State
opening program =
    record {
      world = record { history = [] ∷ []; rows = 0; writes = 0; replies = []; trace = [] };
      sessions = map (λ _. at_start) program.names;
    }

abbrev pub new_transaction : Isolation → Transaction
new_transaction isolation =
    record { isolation = isolation; snapshot = None; work = no_work; saved = []; events = 0; changes = 0; steps = 0 }

-- ---- sessions

-- a session that is none
abbrev pub nobody : Session
nobody = record { next = 0; block = Idle; transaction = None; tasks = []; waits = None; ended = true }

abbrev pub session_at : State → ℕ → Session
session_at st s = slice_index_or st.sessions s nobody

abbrev pub held_by : Session → Holdings
held_by session = elim (session.transaction) [ None ↦ [] | Some t ↦ t.work.holdings ]

-- what the session has written, in its work and in its saved copies
abbrev pub written_by : Session → List Writes
written_by session = elim (session.transaction) [ None ↦ [] | Some t ↦ t.work.writes ∷ map (λ saved. saved.work.writes) t.saved ]

abbrev pub around : State → Around
around st = record { history = st.world.history; holdings = map held_by st.sessions; versions = map written_by st.sessions }

abbrev pub party : ℕ → Transaction → Party
party s t = record { session = s; writes = t.work.writes; fixed = t.snapshot }

-- a session without a transaction
abbrev pub outsider : ℕ → Party
outsider s = record { session = s; writes = []; fixed = None }

abbrev pub party_of : ℕ → Option Transaction → Party
party_of s None = outsider s
party_of s (Some t) = party s t
