-- What a step may do. A step is a list of effects, done one after the other; each is one change of the state and its trace lines.
use Rattle.std.specs.Prelude.{ℕ, ◌+◌, ◌-◌, Bool, true, List, [], ◌∷◌, ◌++◌, length, map, drop, Option, Some, None, option_map, option_and_then, unwrap_or}
use Rattle.aq_base.specs.Names.{Text}
use Rattle.aq_base.specs.Maps.{with_at}
use Rattle.aq_base.specs.Databases.{History, last_number}
use Rattle.aq_base.specs.Writes.{Write, latest_view}
use Rattle.aq_base.specs.LockModes.{locked}
use Rattle.aq_base.specs.ConstraintModes.{with_modes}
use Rattle.aq_base.specs.Events.{Event}
use Rattle.aq_base.specs.Transitions.{with_open_set, open_number, open_since, filled, closed}
use Rattle.aq_base.specs.Works.{Work, Opened, Saved, Mark, Kind, level_of}
use Rattle.aq_base.specs.Works.Kind.{Drain}
use Rattle.aq_base.specs.Works.Mark.{Named, Block as Of_block}
use Rattle.aq_base.specs.Rounds.{with_round, without_top, without_top_level, queued_on_top, without_first}
use Rattle.aq_base.specs.Blockers.{Ask}
use Rattle.aq_base.specs.declared.data.LockMode.{LockMode}
use Rattle.aq_base.specs.declared.catalog.Op.{Op}
use Rattle.aq_base.specs.declared.fault.Code.{Code}
use Rattle.aq_base.specs.declared.statement.Isolation.{Isolation}
use Rattle.aq_base.specs.declared.reply.ReplyLine.{ReplyLine}
use Rattle.aq_base.specs.declared.trace.Ending.{Ending}
use Rattle.aq_base.specs.declared.trace.TraceLine.{TraceLine}
use Rattle.aq_base.specs.declared.trace.TraceLine.TheVariants as lines
use Rattle.aq_outcomes.specs.Schemas.{Schema, is_deferred}
use Rattle.aq_outcomes.specs.Rows.{Change}
use Rattle.aq_outcomes.specs.Queued.{events_of, replaced_in, without_replaced}
use Rattle.aq_run.specs.Programs.{Program, session_name}
use Rattle.aq_run.specs.States.{Task, Block_state, Transaction, Session, Given, World, new_transaction}
use Rattle.aq_run.specs.States.Task.{Acting, Rechecking, Running}
use Rattle.aq_run.specs.Faults.{Finding}
use Rattle.aq_run.specs.Lines.{change_line, drop_lines, queue_lines, open_lines, mode_of, modes_of, save_line, release_lines, return_lines, finding_line}

pub data Effect : Type 0 where
  -- the session goes on to its next statement
  Takes_statement : Effect
  -- it waits no longer
  Resumes : Effect
  Counts_step : Effect
  Begins : (isolation : Isolation) → Effect
  -- a Repeatable Read transaction reads at the last commit number from now on
  Fixes_snapshot : Effect
  -- a task joins those in progress
  Starts : (task : Task) → Effect
  -- the task on top goes on as another, or is done
  Turns : (task : Task) → Effect
  Ends_task : Effect
  -- a level, the rounds of a SET CONSTRAINTS or the drain is opened, with its task. The drain drops the saved copies.
  Opens : (kind : Kind) → (task : Task) → Effect
  -- what is on top, a level or the rounds of a SET CONSTRAINTS, ends with its task
  Closes_level : Effect
  Closes_rounds : Effect
  Takes_round : Effect
  Locks : (row : ℕ) → (mode : LockMode) → Effect
  -- a row changes: the lock, the new version, the transition set and the events of these triggers
  Changes : (change : Change) → (lock : Option LockMode) → (triggers : List ℕ) → Effect
  -- the statement events of a table and an operation are replaced by those of these triggers
  Queues : (table : ℕ) → (op : Op) → (triggers : List ℕ) → Effect
  -- the event fires, and what is then in progress
  Fires : (number : ℕ) → (task : Option Task) → Effect
  Closes_set : (set : ℕ) → Effect
  -- the event is done, and its task
  Finishes : (number : ℕ) → (ending : Ending) → Effect
  -- ALL, or the constraints that share a name
  Sets_mode : (constraints : Option (List ℕ)) → (deferred : Bool) → Effect
  Saves : (mark : Mark) → Effect
  -- so many saved copies stand from now on
  Releases : (standing : ℕ) → Effect
  -- the copy behind so many others is put back, and those after it are dropped; a block's copy is dropped too, and tells the error that it caught
  Returns : (standing : ℕ) → (code : Code) → (tasks : List Task) → Effect
  -- the transaction's view becomes the next database
  Commits : Effect
  -- the transaction and all that it has done is dropped
  Aborts : Effect
  Tells : (finding : Finding) → Effect
  Fails_with : (code : Code) → Effect
  -- the wait would have closed this cycle
  Refuses : (cycle : List ℕ) → Effect
  Starts_waiting : (ask : Ask) → (blockers : List ℕ) → Effect
  Replies : (lines : List ReplyLine) → Effect
  Becomes : (block : Block_state) → Effect
  -- the session has ended
  Ends : Effect

-- what an effect of a session may change
pub record Scene : Type 0 where
  pub world : World
  pub me : Session

abbrev pub in_transaction : (Transaction → Transaction) → Session → Session
in_transaction change me = record me { transaction = option_map change me.transaction }

abbrev pub in_work : (Work → Work) → Session → Session
in_work change me = in_transaction (λ t. record t { work = change t.work }) me

abbrev pub with_tasks : List Task → Session → Session
with_tasks tasks me = record me { tasks = tasks }

-- ---- locks, modes, sets

abbrev pub with_lock : ℕ → LockMode → Work → Work
with_lock row mode work = record work { holdings = locked row mode work.holdings }

abbrev pub with_lock_in : ℕ → Option LockMode → Work → Work
with_lock_in row None work = work
with_lock_in row (Some mode) work = with_lock row mode work

abbrev pub with_set : ℕ → Op → ℕ → Work → Work
with_set table op events work = record work { sets = with_open_set (level_of work) table op events work.sets }

abbrev pub set_of : ℕ → Op → Work → ℕ
set_of table op work = open_number (level_of work) table op work.sets

-- ---- the change of a row

abbrev pub row_of : World → Change → ℕ
row_of world change = unwrap_or change.row (world.rows + 1)

abbrev pub version_of : ℕ → Change → Write
version_of write change = record { table = change.table; image = change.new; number = write }

abbrev pub change_event : ℕ → ℕ → ℕ → Change → Event
change_event row write set change =
    record {
      number = 0;
      trigger = 0;
      table = change.table;
      op = change.op;
      row = Some row;
      write = Some write;
      old = change.old;
      new = change.new;
      set = set;
    }

abbrev pub with_version : ℕ → ℕ → Change → Work → Work
with_version row write change work =
    record work {
      writes = with_at row (version_of write change) work.writes;
      sets = filled (level_of work) change.table change.op change.old change.new work.sets;
    }

abbrev pub with_events : List Event → Work → Work
with_events events work = record work { opened = queued_on_top events work.opened }

-- the set is open already: the events read it
abbrev pub with_change : ℕ → ℕ → Change → Option LockMode → ℕ → List ℕ → Work → Work
with_change row write change lock last triggers work =
    with_events (events_of (change_event row write (set_of change.table change.op work) change) last triggers)
    (with_version row write change (with_lock_in row lock work))

abbrev pub changed : ℕ → ℕ → Change → Option LockMode → List ℕ → Transaction → Transaction
changed row write change lock triggers t =
    record t {
      work = with_change row write change lock t.events triggers (with_set change.table change.op t.events t.work);
      events = t.events + length triggers;
      changes = t.changes + 1;
    }

-- the counter of rows moves for a new row alone
abbrev pub rows_drawn : World → Change → ℕ
rows_drawn world change = elim (change.row) [ None ↦ world.rows + 1 | Some row ↦ world.rows ]

abbrev pub drawn : Change → World → World
drawn change world = record world { rows = rows_drawn world change; writes = world.writes + 1 }

-- ---- statement events

abbrev pub statement_event : ℕ → Op → ℕ → Event
statement_event table op set =
    record { number = 0; trigger = 0; table = table; op = op; row = None; write = None; old = None; new = None; set = set }

abbrev pub replaced_on_top : ℕ → Op → ℕ → List Opened → List Event
replaced_on_top table op since [] = []
replaced_on_top table op since (top ∷ below) = replaced_in table op since top.round ++ replaced_in table op since top.queued

abbrev pub cleared_on_top : ℕ → Op → ℕ → List Opened → List Opened
cleared_on_top table op since [] = []
cleared_on_top table op since (top ∷ below) =
    record top { queued = without_replaced table op since top.queued; round = without_replaced table op since top.round } ∷ below

abbrev pub since_in : ℕ → Op → Work → ℕ
since_in table op work = open_since (level_of work) table op work.sets

-- the events of the work with an open set that are replaced
abbrev pub replaced : ℕ → Op → Work → List Event
replaced table op work = replaced_on_top table op (since_in table op work) work.opened

abbrev pub with_statement_events : ℕ → Op → ℕ → List ℕ → Work → Work
with_statement_events table op last triggers work =
    with_events (events_of (statement_event table op (set_of table op work)) last triggers)
    (record work { opened = cleared_on_top table op (since_in table op work) work.opened })

abbrev pub queued : ℕ → Op → List ℕ → Transaction → Transaction
queued table op triggers t =
    record t {
      work = with_statement_events table op t.events triggers (with_set table op t.events t.work);
      events = t.events + length triggers;
    }

-- ---- tasks

-- an action, a recheck or a body ends with its event; a check has no task
abbrev pub without_event_task : List Task → List Task
without_event_task (Acting left done ∷ below) = below
without_event_task (Rechecking done ∷ below) = below
without_event_task (Running event frame ∷ below) = below
without_event_task tasks = tasks

abbrev pub with_task : Option Task → List Task → List Task
with_task None tasks = tasks
with_task (Some task) tasks = task ∷ tasks

-- ---- saved copies

-- the saved copies down to so many
abbrev pub standing_saved : ℕ → List Saved → List Saved
standing_saved standing saved = drop (length saved - standing) saved

-- the latest of them
abbrev pub latest_saved : List Saved → Option Saved
latest_saved [] = None
latest_saved (saved ∷ others) = Some saved

-- the one above so many others, and the ones that are left once the transaction has returned to it
abbrev pub saved_above : ℕ → List Saved → Option Saved
saved_above standing saved = latest_saved (standing_saved (standing + 1) saved)

abbrev pub left_after : List Saved → List Saved
left_after [] = []
left_after (saved ∷ others) = elim (saved.mark) [ Named name ↦ saved ∷ others | Of_block number height ↦ others ]

abbrev pub copied_work : Option Saved → Work → Work
copied_work None work = work
copied_work (Some saved) work = saved.work

abbrev pub returned : ℕ → Transaction → Transaction
returned standing t =
    record t { work = copied_work (saved_above standing t.saved) t.work; saved = left_after (standing_saved (standing + 1) t.saved) }

abbrev pub mark_above : ℕ → Option Transaction → Option Mark
mark_above standing t = option_and_then (λ running. option_map (λ saved. saved.mark) (saved_above standing running.saved)) t

abbrev pub saving : Mark → Transaction → Transaction
saving mark t = record t { saved = record { mark = mark; work = t.work } ∷ t.saved }

-- ---- levels, rounds, the end

abbrev pub opened_as : Kind → Opened
opened_as kind = record { kind = kind; queued = []; round = [] }

abbrev pub saved_beside : Kind → List Saved → List Saved
saved_beside Drain saved = []
saved_beside _ saved = saved

abbrev pub opening_of : Kind → Transaction → Transaction
opening_of kind t =
    record t { work = record (t.work) { opened = opened_as kind ∷ t.work.opened }; saved = saved_beside kind t.saved }

abbrev pub taking_round : Schema → Work → Work
taking_round schema work = with_round (is_deferred schema work.modes) work

-- what a commit appends to the history
abbrev pub committed : World → Option Transaction → History
committed world None = []
committed world (Some t) = latest_view world.history t.work.writes ∷ []

abbrev pub given : ℕ → ℕ → List ReplyLine → List Given
given s statement lines = map (λ line. record { session = s; statement = statement; line = line }) lines

-- ---- what an effect does to its session

abbrev pub on_session : Program → World → Effect → Session → Session
on_session program world Takes_statement me = record me { next = me.next + 1 }
on_session program world Resumes me = record me { waits = None }
on_session program world Counts_step me = in_transaction (λ t. record t { steps = t.steps + 1 }) me
on_session program world (Begins isolation) me = record me { transaction = Some (new_transaction isolation) }
on_session program world Fixes_snapshot me = in_transaction (λ t. record t { snapshot = Some (last_number world.history) }) me
on_session program world (Starts task) me = with_tasks (task ∷ me.tasks) me
on_session program world (Turns task) me = with_tasks (task ∷ drop 1 me.tasks) me
on_session program world Ends_task me = with_tasks (drop 1 me.tasks) me
on_session program world (Opens kind task) me = with_tasks (task ∷ me.tasks) (in_transaction (opening_of kind) me)
on_session program world Closes_level me = with_tasks (drop 1 me.tasks) (in_work without_top_level me)
on_session program world Closes_rounds me = with_tasks (drop 1 me.tasks) (in_work without_top me)
on_session program world Takes_round me = in_work (taking_round program.schema) me
on_session program world (Locks row mode) me = in_work (with_lock row mode) me
on_session program world (Changes change lock triggers) me =
    in_transaction (changed (row_of world change) (world.writes + 1) change lock triggers) me
on_session program world (Queues table op triggers) me = in_transaction (queued table op triggers) me
on_session program world (Fires number task) me = with_tasks (with_task task me.tasks) me
on_session program world (Closes_set set) me = in_work (λ work. record work { sets = closed set work.sets }) me
on_session program world (Finishes number ending) me =
    with_tasks (without_event_task me.tasks) (in_work (λ work. record work { opened = without_first work.opened }) me)
on_session program world (Sets_mode constraints deferred) me = in_work (λ work. record work { modes = with_modes constraints deferred work.modes }) me
on_session program world (Saves mark) me = in_transaction (saving mark) me
on_session program world (Releases standing) me = in_transaction (λ t. record t { saved = standing_saved standing t.saved }) me
on_session program world (Returns standing code tasks) me = with_tasks tasks (in_transaction (returned standing) me)
on_session program world Commits me = record me { transaction = None; tasks = [] }
on_session program world Aborts me = record me { transaction = None; tasks = [] }
on_session program world (Starts_waiting ask blockers) me = record me { waits = Some ask }
on_session program world (Becomes block) me = record me { block = block }
on_session program world Ends me = record me { ended = true }
on_session program world _ me = me

-- ---- what it does to the world that all sessions share

abbrev pub on_world : ℕ → Effect → Session → World → World
on_world s (Changes change lock triggers) me world = drawn change world
on_world s Commits me world = record world { history = world.history ++ committed world me.transaction }
on_world s (Replies lines) me world = record world { replies = world.replies ++ given s me.next lines }
on_world s _ me world = world

-- ---- what the trace tells of it

abbrev pub where_there : Option Transaction → (Transaction → List TraceLine) → List TraceLine
where_there None lines = []
where_there (Some t) lines = lines t

abbrev pub lines_of : Program → Text → Effect → World → Session → List TraceLine
lines_of program name (Begins isolation) world me = lines.Begin name isolation ∷ []
lines_of program name (Opens kind task) world me = where_there me.transaction (λ t. open_lines name kind (level_of t.work))
lines_of program name Closes_level world me = where_there me.transaction (λ t. lines.Close name (level_of t.work) ∷ [])
lines_of program name Takes_round world me = where_there me.transaction (λ t. lines.Round name ∷ [])
lines_of program name (Changes change lock triggers) world me =
    where_there me.transaction (λ t. change_line program.schema name change (row_of world change) t.events triggers ∷ [])
lines_of program name (Queues table op triggers) world me =
    where_there me.transaction (λ t. drop_lines name (replaced table op (with_set table op t.events t.work)) ++ queue_lines program.schema name t.events triggers)
lines_of program name (Fires number task) world me = lines.Fire name number ∷ []
lines_of program name (Finishes number ending) world me = lines.Done name number ending ∷ []
lines_of program name (Sets_mode constraints deferred) world me = lines.Mode name (modes_of program.schema constraints) (mode_of deferred) ∷ []
lines_of program name (Saves mark) world me = where_there me.transaction (λ t. save_line name mark ∷ [])
lines_of program name (Releases standing) world me = release_lines name (mark_above standing me.transaction)
lines_of program name (Returns standing code tasks) world me = return_lines name code (mark_above standing me.transaction)
lines_of program name Commits world me = where_there me.transaction (λ t. lines.Commit name (length world.history) ∷ [])
lines_of program name Aborts world me = where_there me.transaction (λ t. lines.Abort name ∷ [])
lines_of program name (Tells finding) world me = finding_line name finding ∷ []
lines_of program name (Fails_with code) world me = lines.Fail name code ∷ []
lines_of program name (Refuses cycle) world me = lines.Victim name (map (session_name program) cycle) ∷ []
lines_of program name (Starts_waiting ask blockers) world me = lines.Wait name (map (session_name program) blockers) ∷ []
lines_of program name (Replies reply) world me = lines.Reply name me.next ∷ []
lines_of program name Ends world me = lines.End name ∷ []
lines_of program name _ world me = []

abbrev pub with_lines : List TraceLine → World → World
with_lines lines world = record world { trace = world.trace ++ lines }

unfoldable pub effect : Program → ℕ → Effect → Scene → Scene
effect program s e scene =
    record {
      world = with_lines (lines_of program (session_name program s) e scene.world scene.me) (on_world s e scene.me scene.world);
      me = on_session program scene.world e scene.me;
    }

-- the effects, one after the other
abbrev pub effects : Program → ℕ → List Effect → Scene → Scene
effects program s [] scene = scene
effects program s (one ∷ others) scene = effects program s others (effect program s one scene)
