-- Every run is finite.
use Rattle.std.proofs.Common.{◌≡◌, ℕ, zero, suc, ◌+◌, ◌*◌, ◌<◌, ◌≤◌, Bool, true, false, cond, ◌==◌, List, [], ◌∷◌, ◌++◌, length, map, drop, filter, Option, Some, None, option_and_then, slice_get, slice_set, sum_by, refl, sym, subst, ap, arith, length-append}
use Rattle.std.proofs.lemmas.List.{length-map}
use Rattle.std.proofs.lemmas.List.Sums.{sum_by-cons, sum_by-le-sum_by}
use Rattle.std.proofs.lemmas.List.Filters.{length-filter_both}
use Rattle.std.proofs.Math.Nat.{mul-le-mul_right}
use Rattle.aq_base.specs.Values.{Row}
use Rattle.aq_base.specs.Maps.{at}
use Rattle.aq_first_base.specs.Catalogs.{Catalog}
use Rattle.aq_first_base.specs.Databases.{Database, Stored}
use Rattle.aq_first_base.specs.Works.{Event, Kind, Opened}
use Rattle.aq_first_base.specs.Works.Kind.{Level, Drain}
use Rattle.aq_first_base.specs.Writes.{Write, Writes}
use Rattle.aq_first_base.specs.Setup.{Program}
use Rattle.aq_base.specs.declared.catalog.Op.{Op}
use Rattle.aq_first_base.specs.declared.catalog.Trigger.{Trigger}
use Rattle.aq_base.specs.declared.catalog.Op.TheVariants.{Insert, Delete}
use Rattle.aq_first_base.specs.declared.bound.Bound.{Bound}
use Rattle.aq_first_base.specs.declared.bound.Bound.TheVariants.{InsertRows, DeleteRows, BeginBlock, CommitBlock, RollbackBlock}
use Rattle.aq_first_outcomes.specs.Faults.{Fault}
use Rattle.aq_first_outcomes.specs.Rows.{fires_on, firing_from, insert_events, delete_events, insert_fault, is_deferred, is_immediate}
use Rattle.aq_first_run.specs.States.{Operation, Target, Answer, Block, Task, Transaction, Session, Given, World, State, opening, session_at, last_database, latest_view}
use Rattle.aq_first_run.specs.States.Block.{Idle, Open, Failed}
use Rattle.aq_first_run.specs.States.Operation.{Inserting, Deleting}
use Rattle.aq_first_run.specs.States.Target.{New_row, Old_row}
use Rattle.aq_first_run.specs.States.Task.{Rows, Rounds, Committing}
use Rattle.aq_first_run.specs.Effects.{Scene, on_top, with_events, effect, effects}
use Rattle.aq_first_run.specs.Steps.{Plan, dropped, view_of, old_rows, rows_start, begin_plan, commit_plan, rollback_plan, start_plan, answer_of, statement_at, task_plan, rows_plan, insert_plan, delete_plan, close_plan, take_plan, on_level, level_plan, event_plan, drain_plan, on_drain, effects_of_plan, effects_of, plan_of, step, is_enabled}
use Rattle.aq_first_run.specs.Steps.Plan.{Fails}
use Rattle.aq_first_run.specs.Runs.{Schedule, CanRunFrom}
use Rattle.aq_first_laws.specs.Finite.{transaction_rows, statement_rows, task_rows, session_rows, rows_at_most, row_steps, statement_steps, task_steps, level_steps, transaction_steps, session_steps, steps_left, RunsAreFinite}
use Rattle.aq_first_laws.proofs.Lists.{sum_by-drop, length-filter-le, last_of-push}
use Rattle.aq_first_laws.proofs.Sizes.{length-overlay, written_rows-with_at, script_of, over_sessions-set, over_sessions-one, over_sessions-le}
use Rattle.aq_first_laws.proofs.Events.{EndsEvent, EndsEvent-event_plan}
use Rattle.aq_first_laws.proofs.Events.EndsEvent.{Done, Refused}
use Rattle.aq_first_laws.proofs.Sessions.{CanStep-enabled}

-- a change queues no more events than there are triggers
length_firing : (number table : ℕ) (op : Op) (triggers : List Trigger) → length (firing_from number table op triggers) ≤ length triggers
length_firing number table op [] = omega arith
length_firing number table op (trigger ∷ triggers) =
    let rest = length_firing (number + 1) table op triggers in
    elim (fires_on table op trigger) as (λ b. length (cond b (number ∷ firing_from (number + 1) table op triggers) (firing_from (number + 1) table op triggers)) ≤ suc (length triggers)) [ true ↦ omega arith | false ↦ omega arith ]

-- the events that a row queues go to the innermost level
levels_with_events : (events : List Event) (opened : List Opened) → sum_by level_steps (on_top (with_events events) opened) ≤ sum_by level_steps opened + 3 * length events
levels_with_events events [] = omega arith
levels_with_events events (level ∷ levels) = rw (sum_by-cons level_steps (with_events events level) levels, sum_by-cons level_steps level levels, length-append level.queued events) (omega arith)

task_costs : (cat : Catalog) (task : Task) → 1 ≤ task_steps cat task
task_costs cat (Rows operation left done) = omega arith
task_costs cat (Rounds answer) = omega arith
task_costs cat (Committing answer) = omega arith

-- a transaction sees no more rows than those of the last database and its own
length-view_of : (world : World) (transaction : Option Transaction) → length (view_of world transaction) ≤ length (last_database world) + transaction_rows transaction
length-view_of world None = omega arith
length-view_of world (Some t) = length-overlay (length world.history) t.work.writes (last_database world)

length-old_rows : (table : ℕ) (view : Database) → length (old_rows table view) ≤ length view
length-old_rows table view = rw length-map (length-filter-le (λ (entry : ℕ × Stored). entry.1.table == table) view)

module _ (cat : Catalog) (world : World) (s : ℕ) (statements : List Bound) (at_most : ℕ) where
  -- a session that hasn't ended
  abbrev going : ℕ → Block → Option Transaction → List Task → Session
  going next block transaction tasks = record { next = next; block = block; transaction = transaction; tasks = tasks; ended = false }

  -- a step leaves the session fewer steps, and no more rows to be seen
  record Falls_to (me : Session) (scene : Scene) : Type 0 where
    steps : session_steps cat at_most statements scene.me < session_steps cat at_most statements me
    rows : length (last_database scene.world) + session_rows statements scene.me ≤ length (last_database world) + session_rows statements me

  -- the plan's step does
  abbrev Falls : Session → Plan → Type 0
  Falls me plan = Falls_to me (effects cat s (effects_of_plan cat me.block plan) (record { world = world; me = me }))

  -- ---- start

  -- a statement is taken, and what it leaves in progress costs less than it did
  takes : (next : ℕ) (block block_after : Block) (transaction transaction_after : Option Transaction) (tasks : List Task) (replies : List Given) (statement : Bound)
      → slice_get statements next ≡ Some statement
      → sum_by (task_steps cat) tasks + transaction_steps transaction_after < statement_steps cat at_most statement + transaction_steps transaction
      → sum_by task_rows tasks + transaction_rows transaction_after ≤ statement_rows statement + transaction_rows transaction
      → Falls_to (going next block transaction []) (record { world = record world { replies = replies }; me = going (next + 1) block_after transaction_after tasks })
  takes next block block_after transaction transaction_after tasks replies statement e few rows =
      record {
        steps = omega (arith, sum_by-drop (statement_steps cat at_most) statements next statement e);
        rows = omega (arith, sum_by-drop statement_rows statements next statement e);
      }

  rows_start_falls : (next : ℕ) (block : Block) (transaction : Option Transaction) (statement : Bound) (operation : Operation) (targets : List Target)
      → slice_get statements next ≡ Some statement → 3 + length targets * row_steps cat < statement_steps cat at_most statement → task_rows (Rows operation targets 0) ≤ statement_rows statement
      → Falls (going next block transaction []) (rows_start block operation targets)
  unfolding effect
  rows_start_falls next Idle transaction statement operation targets e few rows = takes next _ _ transaction _ _ _ statement e (omega arith) (omega arith)
  rows_start_falls next Open None statement operation targets e few rows = takes next _ _ None _ _ _ statement e (omega arith) (omega arith)
  rows_start_falls next Open (Some t) statement operation targets e few rows =
      takes next _ _ (Some t) _ _ _ statement e (omega (arith, sum_by-cons level_steps (record { kind = Level; queued = []; round = [] }) t.work.opened)) (omega arith)
  rows_start_falls next Failed transaction statement operation targets e few rows = takes next _ _ transaction _ _ _ statement e (omega arith) (omega arith)

  begin_falls : (next : ℕ) (block : Block) (transaction : Option Transaction) → slice_get statements next ≡ Some BeginBlock → Falls (going next block transaction []) (begin_plan block)
  unfolding effect
  begin_falls next Idle transaction e = takes next _ _ transaction _ _ _ BeginBlock e (omega arith) (omega arith)
  begin_falls next Open transaction e = takes next _ _ transaction _ _ _ BeginBlock e (omega arith) (omega arith)
  begin_falls next Failed transaction e = takes next _ _ transaction _ _ _ BeginBlock e (omega arith) (omega arith)

  commit_falls : (next : ℕ) (block : Block) (transaction : Option Transaction) → slice_get statements next ≡ Some CommitBlock → Falls (going next block transaction []) (commit_plan block)
  unfolding effect
  commit_falls next Idle transaction e = takes next _ _ transaction _ _ _ CommitBlock e (omega arith) (omega arith)
  commit_falls next Open None e = takes next _ _ None _ _ _ CommitBlock e (omega arith) (omega arith)
  commit_falls next Open (Some t) e =
      takes next _ _ (Some t) _ _ _ CommitBlock e (omega (arith, sum_by-cons level_steps (record { kind = Drain; queued = []; round = [] }) t.work.opened)) (omega arith)
  commit_falls next Failed transaction e = takes next _ _ transaction _ _ _ CommitBlock e (omega arith) (omega arith)

  rollback_falls : (next : ℕ) (block : Block) (transaction : Option Transaction) → slice_get statements next ≡ Some RollbackBlock → Falls (going next block transaction []) (rollback_plan block)
  unfolding effect
  rollback_falls next Idle transaction e = takes next _ _ transaction _ _ _ RollbackBlock e (omega arith) (omega arith)
  rollback_falls next Open transaction e = takes next _ _ transaction _ _ _ RollbackBlock e (omega arith) (omega arith)
  rollback_falls next Failed transaction e = takes next _ _ transaction _ _ _ RollbackBlock e (omega arith) (omega arith)

  start_falls : (next : ℕ) (block : Block) (transaction : Option Transaction) (statement : Option Bound) → length (view_of world transaction) ≤ at_most → slice_get statements next ≡ statement
      → Falls (going next block transaction []) (start_plan world (going next block transaction []) statement)
  unfolding effect
  start_falls next block transaction None few e = record { steps = omega arith; rows = omega arith }
  start_falls next block transaction (Some (InsertRows table rows)) few e =
      let same = length-map rows New_row in
      let products : length (map New_row rows) * row_steps cat ≡ length rows * row_steps cat = ap (λ n. n * row_steps cat) same in
      rows_start_falls next block transaction (InsertRows table rows) (Inserting table) (map New_row rows) e (omega arith) (omega arith)
  start_falls next block transaction (Some (DeleteRows table)) few e =
      let view = view_of world transaction in
      let le : length (old_rows table view) ≤ at_most = omega (arith, length-old_rows table view) in
      let products : length (old_rows table view) * row_steps cat ≤ at_most * row_steps cat = mul-le-mul_right (row_steps cat) le in
      rows_start_falls next block transaction (DeleteRows table) (Deleting table) (old_rows table view) e (omega arith) (omega arith)
  start_falls next block transaction (Some BeginBlock) few e = begin_falls next block transaction e
  start_falls next block transaction (Some CommitBlock) few e = commit_falls next block transaction e
  start_falls next block transaction (Some RollbackBlock) few e = rollback_falls next block transaction e

  -- ---- a task that ends

  fails_falls : (next : ℕ) (block : Block) (transaction : Option Transaction) (task : Task) (below : List Task) (fault : Fault) → Falls (going next block transaction (task ∷ below)) (Fails [] fault)
  unfolding effect
  fails_falls next block transaction task below fault =
      record { steps = omega (arith, sum_by-cons (task_steps cat) task below, task_costs cat task); rows = omega (arith, sum_by-cons task_rows task below) }

  dropped_falls : (next : ℕ) (block : Block) (transaction : Option Transaction) (task : Task) (below : List Task) → Falls (going next block transaction (task ∷ below)) dropped
  unfolding effect
  dropped_falls next block transaction task below =
      record { steps = omega (arith, sum_by-cons (task_steps cat) task below, task_costs cat task); rows = omega (arith, sum_by-cons task_rows task below) }

  -- ---- row and end

  insert_falls : (next : ℕ) (block : Block) (t : Transaction) (table : ℕ) (values : Row) (left : List Target) (count : ℕ) (below : List Task) (fault : Option Fault)
      → Falls (going next block (Some t) (Rows (Inserting table) (New_row values ∷ left) count ∷ below)) (insert_plan table values left count below fault)
  unfolding effect
  insert_falls next block t table values left count below None =
      let events : List Event = insert_events cat table (world.rows + 1) (world.writes + 1) values in
      let few : length events ≤ length cat.triggers = rw length-map (length_firing 0 table Insert cat.triggers) in
      let levels : sum_by level_steps (on_top (with_events events) t.work.opened) ≤ sum_by level_steps t.work.opened + 3 * length events = levels_with_events events t.work.opened in
      let write : Write = record { table = table; image = Some values; number = world.writes + 1 } in
      record {
        steps = omega (arith, sum_by-cons (task_steps cat) (Rows (Inserting table) (New_row values ∷ left) count) below, sum_by-cons (task_steps cat) (Rows (Inserting table) left (count + 1)) below);
        rows = omega (
          arith,
          sum_by-cons task_rows (Rows (Inserting table) (New_row values ∷ left) count) below,
          sum_by-cons task_rows (Rows (Inserting table) left (count + 1)) below,
          written_rows-with_at (world.rows + 1) write t.work.writes,
        );
      }
  insert_falls next block t table values left count below (Some fault) = fails_falls next block (Some t) (Rows (Inserting table) (New_row values ∷ left) count) below fault

  delete_falls : (next : ℕ) (block : Block) (t : Transaction) (table row : ℕ) (left : List Target) (count : ℕ) (below : List Task) (stored : Option Stored)
      → Falls (going next block (Some t) (Rows (Deleting table) (Old_row row ∷ left) count ∷ below)) (delete_plan table row left count below stored)
  unfolding effect
  delete_falls next block t table row left count below None =
      record {
        steps = omega (arith, sum_by-cons (task_steps cat) (Rows (Deleting table) (Old_row row ∷ left) count) below, sum_by-cons (task_steps cat) (Rows (Deleting table) left count) below);
        rows = omega (arith, sum_by-cons task_rows (Rows (Deleting table) (Old_row row ∷ left) count) below, sum_by-cons task_rows (Rows (Deleting table) left count) below);
      }
  delete_falls next block t table row left count below (Some stored) =
      let events : List Event = delete_events cat table row (world.writes + 1) stored.values in
      let few : length events ≤ length cat.triggers = rw length-map (length_firing 0 table Delete cat.triggers) in
      let levels : sum_by level_steps (on_top (with_events events) t.work.opened) ≤ sum_by level_steps t.work.opened + 3 * length events = levels_with_events events t.work.opened in
      let write : Write = record { table = table; image = None; number = world.writes + 1 } in
      record {
        steps = omega (arith, sum_by-cons (task_steps cat) (Rows (Deleting table) (Old_row row ∷ left) count) below, sum_by-cons (task_steps cat) (Rows (Deleting table) left (count + 1)) below);
        rows = omega (
          arith,
          sum_by-cons task_rows (Rows (Deleting table) (Old_row row ∷ left) count) below,
          sum_by-cons task_rows (Rows (Deleting table) left (count + 1)) below,
          written_rows-with_at row write t.work.writes,
        );
      }

  rows_falls : (next : ℕ) (block : Block) (transaction : Option Transaction) (operation : Operation) (left : List Target) (count : ℕ) (below : List Task)
      → Falls (going next block transaction (Rows operation left count ∷ below)) (rows_plan cat world (going next block transaction (Rows operation left count ∷ below)) operation left count below)
  unfolding effect
  rows_falls next block transaction operation [] count below =
      record {
        steps = omega (arith, sum_by-cons (task_steps cat) (Rows operation [] count) below, sum_by-cons (task_steps cat) (Rounds (answer_of operation count)) below);
        rows = omega (arith, sum_by-cons task_rows (Rows operation [] count) below, sum_by-cons task_rows (Rounds (answer_of operation count)) below);
      }
  rows_falls next block None operation (target ∷ left) count below = dropped_falls next block None (Rows operation (target ∷ left) count) below
  rows_falls next block (Some t) (Inserting table) (New_row values ∷ left) count below =
      insert_falls next block t table values left count below (insert_fault cat (latest_view world t.work) table values)
  rows_falls next block (Some t) (Inserting table) (Old_row row ∷ left) count below = dropped_falls next block (Some t) (Rows (Inserting table) (Old_row row ∷ left) count) below
  rows_falls next block (Some t) (Deleting table) (New_row values ∷ left) count below = dropped_falls next block (Some t) (Rows (Deleting table) (New_row values ∷ left) count) below
  rows_falls next block (Some t) (Deleting table) (Old_row row ∷ left) count below = delete_falls next block t table row left count below (at row (latest_view world t.work))

  -- ---- event

  abbrev with_opened : Writes → List Event → List Opened → Transaction
  with_opened writes deferred opened = record { work = record { writes = writes; deferred = deferred; opened = opened } }

  abbrev with_top : Writes → List Event → Kind → List Event → List Event → List Opened → Transaction
  with_top writes deferred kind queued round levels = with_opened writes deferred (record { kind = kind; queued = queued; round = round } ∷ levels)

  ended_event_falls : (next : ℕ) (block : Block) (writes : Writes) (deferred : List Event) (kind : Kind) (queued round : List Event) (event : Event) (levels : List Opened) (task : Task) (below : List Task) (plan : Plan)
      → EndsEvent plan → Falls (going next block (Some (with_top writes deferred kind queued (event ∷ round) levels)) (task ∷ below)) plan
  unfolding effect
  ended_event_falls next block writes deferred kind queued round event levels task below plan Done =
      record {
        steps = omega (arith, sum_by-cons level_steps (record { kind = kind; queued = queued; round = event ∷ round }) levels, sum_by-cons level_steps (record { kind = kind; queued = queued; round = round }) levels);
        rows = omega arith;
      }
  ended_event_falls next block writes deferred kind queued round event levels task below plan (Refused fault) =
      fails_falls next block (Some (with_top writes deferred kind queued (event ∷ round) levels)) task below fault

  event_falls : (next : ℕ) (block : Block) (writes : Writes) (deferred : List Event) (kind : Kind) (queued round : List Event) (event : Event) (levels : List Opened) (task : Task) (below : List Task)
      → Falls (going next block (Some (with_top writes deferred kind queued (event ∷ round) levels)) (task ∷ below))
      (event_plan cat world (with_top writes deferred kind queued (event ∷ round) levels).work event)
  event_falls next block writes deferred kind queued round event levels task below =
      ended_event_falls next block writes deferred kind queued round event levels task below
      (event_plan cat world (with_top writes deferred kind queued (event ∷ round) levels).work event)
      (EndsEvent-event_plan cat world (with_top writes deferred kind queued (event ∷ round) levels).work event)

  -- ---- round and close

  close_falls : (next : ℕ) (block : Block) (writes : Writes) (deferred : List Event) (kind : Kind) (queued : List Event) (levels : List Opened) (answer : Answer) (below : List Task)
      → Falls (going next block (Some (with_top writes deferred kind queued [] levels)) (Rounds answer ∷ below)) (close_plan block answer below)
  unfolding effect
  close_falls next Idle writes deferred kind queued levels answer below =
      record {
        steps = omega (
          arith,
          sum_by-cons level_steps (record { kind = kind; queued = queued; round = [] }) levels,
          sum_by-cons level_steps (record { kind = Drain; queued = []; round = [] }) levels,
          sum_by-cons (task_steps cat) (Rounds answer) below,
          sum_by-cons (task_steps cat) (Committing answer) below,
          length-append deferred (filter (is_deferred cat) queued),
          length-filter-le (is_deferred cat) queued,
        );
        rows = omega (arith, sum_by-cons task_rows (Rounds answer) below, sum_by-cons task_rows (Committing answer) below);
      }
  close_falls next Open writes deferred kind queued levels answer below =
      record {
        steps = omega (
          arith,
          sum_by-cons level_steps (record { kind = kind; queued = queued; round = [] }) levels,
          sum_by-cons (task_steps cat) (Rounds answer) below,
          length-append deferred (filter (is_deferred cat) queued),
          length-filter-le (is_deferred cat) queued,
        );
        rows = omega (arith, sum_by-cons task_rows (Rounds answer) below);
      }
  close_falls next Failed writes deferred kind queued levels answer below =
      record {
        steps = omega (
          arith,
          sum_by-cons level_steps (record { kind = kind; queued = queued; round = [] }) levels,
          sum_by-cons (task_steps cat) (Rounds answer) below,
          length-append deferred (filter (is_deferred cat) queued),
          length-filter-le (is_deferred cat) queued,
        );
        rows = omega (arith, sum_by-cons task_rows (Rounds answer) below);
      }

  take_falls : (next : ℕ) (block : Block) (writes : Writes) (deferred : List Event) (kind : Kind) (queued : List Event) (levels : List Opened) (answer : Answer) (below : List Task) (events : List Event)
      → filter (is_immediate cat) queued ≡ events
      → Falls (going next block (Some (with_top writes deferred kind queued [] levels)) (Rounds answer ∷ below)) (take_plan block answer below events)
  unfolding effect
  take_falls next block writes deferred kind queued levels answer below [] e = close_falls next block writes deferred kind queued levels answer below
  take_falls next block writes deferred kind queued levels answer below (event ∷ events) e =
      let taken : length (filter (is_immediate cat) queued) ≡ suc (length events) = ap length e in
      record {
        steps = omega (
          arith,
          sum_by-cons level_steps (record { kind = kind; queued = queued; round = [] }) levels,
          sum_by-cons level_steps (record { kind = kind; queued = []; round = filter (is_immediate cat) queued }) levels,
          length-append deferred (filter (is_deferred cat) queued),
          length-filter_both (is_deferred cat) (is_immediate cat) (λ one. refl) queued,
        );
        rows = omega arith;
      }

  level_falls : (next : ℕ) (block : Block) (writes : Writes) (deferred : List Event) (kind : Kind) (queued round : List Event) (levels : List Opened) (answer : Answer) (below : List Task)
      → Falls (going next block (Some (with_top writes deferred kind queued round levels)) (Rounds answer ∷ below))
      (level_plan cat world block (with_top writes deferred kind queued round levels).work answer below queued round)
  level_falls next block writes deferred kind queued (event ∷ round) levels answer below = event_falls next block writes deferred kind queued round event levels (Rounds answer) below
  level_falls next block writes deferred kind queued [] levels answer below = take_falls next block writes deferred kind queued levels answer below (filter (is_immediate cat) queued) refl

  rounds_falls : (next : ℕ) (block : Block) (writes : Writes) (deferred : List Event) (opened : List Opened) (answer : Answer) (below : List Task)
      → Falls (going next block (Some (with_opened writes deferred opened)) (Rounds answer ∷ below)) (on_level cat world block (with_opened writes deferred opened).work answer below opened)
  rounds_falls next block writes deferred [] answer below = dropped_falls next block (Some (with_opened writes deferred [])) (Rounds answer) below
  rounds_falls next block writes deferred (level ∷ levels) answer below = level_falls next block writes deferred level.kind level.queued level.round levels answer below

  -- ---- drain and commit

  drain_falls : (next : ℕ) (block : Block) (writes : Writes) (deferred : List Event) (kind : Kind) (queued round : List Event) (levels : List Opened) (answer : Answer) (below : List Task)
      → Falls (going next block (Some (with_top writes deferred kind queued round levels)) (Committing answer ∷ below))
      (drain_plan cat world (with_top writes deferred kind queued round levels).work answer below deferred round)
  unfolding effect
  drain_falls next block writes deferred kind queued (event ∷ round) levels answer below = event_falls next block writes deferred kind queued round event levels (Committing answer) below
  drain_falls next block writes (event ∷ deferred) kind queued [] levels answer below =
      record {
        steps = omega (arith, sum_by-cons level_steps (record { kind = kind; queued = queued; round = [] }) levels, sum_by-cons level_steps (record { kind = kind; queued = queued; round = event ∷ deferred }) levels);
        rows = omega arith;
      }
  drain_falls next block writes [] kind queued [] levels answer below =
      let view = latest_view world (with_top writes [] kind queued [] levels).work in
      let size : length (last_database (record world { history = world.history ++ view ∷ [] })) ≡ length view = ap length (last_of-push world.history view) in
      record {
        steps = omega (arith, sum_by-cons (task_steps cat) (Committing answer) below);
        rows = omega (arith, sum_by-cons task_rows (Committing answer) below, length-overlay (length world.history) writes (last_database world));
      }

  commit_step_falls : (next : ℕ) (block : Block) (writes : Writes) (deferred : List Event) (opened : List Opened) (answer : Answer) (below : List Task)
      → Falls (going next block (Some (with_opened writes deferred opened)) (Committing answer ∷ below)) (on_drain cat world (with_opened writes deferred opened).work answer below opened)
  commit_step_falls next block writes deferred [] answer below = dropped_falls next block (Some (with_opened writes deferred [])) (Committing answer) below
  commit_step_falls next block writes deferred (drain ∷ levels) answer below = drain_falls next block writes deferred drain.kind drain.queued drain.round levels answer below

  -- ---- whichever step it is

  task_falls : (next : ℕ) (block : Block) (transaction : Option Transaction) (tasks : List Task) → length (view_of world transaction) ≤ at_most
      → Falls (going next block transaction tasks) (task_plan cat world (going next block transaction tasks) (slice_get statements next) tasks)
  task_falls next block transaction [] few = start_falls next block transaction (slice_get statements next) few refl
  task_falls next block transaction (Rows operation left count ∷ below) few = rows_falls next block transaction operation left count below
  task_falls next block None (Rounds answer ∷ below) few = dropped_falls next block None (Rounds answer) below
  task_falls next block (Some t) (Rounds answer ∷ below) few = rounds_falls next block t.work.writes t.work.deferred t.work.opened answer below
  task_falls next block None (Committing answer ∷ below) few = dropped_falls next block None (Committing answer) below
  task_falls next block (Some t) (Committing answer ∷ below) few = commit_step_falls next block t.work.writes t.work.deferred t.work.opened answer below

-- what the step that goes on with a next statement leaves
abbrev after_step : Catalog → World → ℕ → Session → Option Bound → Scene
after_step cat world s me statement = effects cat s (effects_of_plan cat me.block (task_plan cat world me statement me.tasks)) (record { world = world; me = me })

-- what is to be shown of a session that has ended or not
abbrev FallsAt : Catalog → World → ℕ → List Bound → ℕ → Session → Bool → Type 0
FallsAt cat world s statements at_most me ended =
    let told : Session = record { next = me.next; block = me.block; transaction = me.transaction; tasks = me.tasks; ended = ended } in
    Falls_to cat world s statements at_most told (after_step cat world s told (slice_get statements me.next))

session_falls : (cat : Catalog) (world : World) (s : ℕ) (statements : List Bound) (at_most : ℕ) (me : Session) → me.ended ≡ false → length (view_of world me.transaction) ≤ at_most
    → Falls_to cat world s statements at_most me (after_step cat world s me (slice_get statements me.next))
session_falls cat world s statements at_most me goes_on few =
    subst (FallsAt cat world s statements at_most me) (sym goes_on) (task_falls cat world s statements at_most me.next me.block me.transaction me.tasks few)

-- ---- all sessions

-- where fewer rows are seen, no more steps are left
fewer_statement_steps : (cat : Catalog) (less more : ℕ) (statement : Bound) → less ≤ more → statement_steps cat less statement ≤ statement_steps cat more statement
fewer_statement_steps cat less more (InsertRows table rows) le = omega arith
fewer_statement_steps cat less more (DeleteRows table) le = let products : less * row_steps cat ≤ more * row_steps cat = mul-le-mul_right (row_steps cat) le in omega arith
fewer_statement_steps cat less more BeginBlock le = omega arith
fewer_statement_steps cat less more CommitBlock le = omega arith
fewer_statement_steps cat less more RollbackBlock le = omega arith

fewer_session_steps : (cat : Catalog) (less more : ℕ) → less ≤ more → (statements : List Bound) (me : Session) → session_steps cat less statements me ≤ session_steps cat more statements me
fewer_session_steps cat less more le statements me =
    omega (arith, sum_by-le-sum_by (statement_steps cat less) (statement_steps cat more) (drop me.next statements) (λ statement. fewer_statement_steps cat less more statement le))

-- the next statement, read in the session's own
statement_at_own : (scripts : List (List Bound)) (s n : ℕ) → option_and_then (λ statements. slice_get statements n) (slice_get scripts s) ≡ slice_get (script_of scripts s) n
statement_at_own [] s n = refl
statement_at_own (statements ∷ scripts) zero n = refl
statement_at_own (statements ∷ scripts) (suc s) n = statement_at_own scripts s n

-- a session in place of another, with fewer steps left
state_falls : (program : Program) (st : State) (s : ℕ) (scene : Scene) → s < length st.sessions
    → Falls_to program.catalog st.world s (script_of program.sessions s) (rows_at_most program st) (session_at st s) scene
    → steps_left program (record { world = scene.world; sessions = slice_set st.sessions s scene.me }) < steps_left program st
state_falls program st s scene within falls =
    let before = rows_at_most program st in
    let st_after : State = record { world = scene.world; sessions = slice_set st.sessions s scene.me } in
    let rows_set = over_sessions-set session_rows program.sessions st.sessions s scene.me within in
    let fewer : rows_at_most program st_after ≤ before = omega arith in
    let steps_set = over_sessions-set (session_steps program.catalog before) program.sessions st.sessions s scene.me within in
    let le = over_sessions-le (session_steps program.catalog (rows_at_most program st_after)) (session_steps program.catalog before)
    (fewer_session_steps program.catalog (rows_at_most program st_after) before fewer) program.sessions st_after.sessions in
    omega arith

-- the step of an enabled session leaves fewer steps
pub steps_left-step : (program : Program) (st : State) (s : ℕ) → is_enabled st s ≡ true → steps_left program (step program st s) < steps_left program st
unfolding step effects_of plan_of
steps_left-step program st s enabled =
    let can = CanStep-enabled st s enabled in
    let me = session_at st s in
    let few : length (view_of st.world me.transaction) ≤ rows_at_most program st = omega (arith, length-view_of st.world me.transaction, over_sessions-one session_rows program.sessions st.sessions s can.within) in
    let falls = session_falls program.catalog st.world s (script_of program.sessions s) (rows_at_most program st) me can.goes_on few in
    let own = statement_at_own program.sessions s me.next in
    state_falls program st s (after_step program.catalog st.world s me (statement_at program s me.next)) can.within (rw own falls)

fits_within : (program : Program) (st : State) (schedule : Schedule) → CanRunFrom program st schedule → length schedule ≤ steps_left program st
unfolding CanRunFrom
fits_within program st [] can = omega arith
fits_within program st (s ∷ schedule) can = omega (arith, steps_left-step program st s can.0, fits_within program (step program st s) schedule can.1)

pub runs_are_finite : RunsAreFinite
runs_are_finite program schedule can = fits_within program (opening program) schedule can
