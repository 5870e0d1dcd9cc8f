-- Every committed database keeps the references, the unique keys and the columns without null: each kind of step keeps what holds.
use Rattle.std.proofs.Common.{◌≡◌, ℕ, zero, suc, ◌+◌, ◌<◌, ◌≤◌, ◌==◌, Bool, true, false, List, [], ◌∷◌, ◌++◌, length, map, filter, Option, Some, None, slice_set, slice_index_or, ⊎_elim, length-set, get_or-set_same, refl, sym, ◌∙◌, ap, subst, arith, append-nil, append_assoc, eqb-true}
use Rattle.std.proofs.lemmas.List.{length-map}
use Rattle.std.proofs.lemmas.Bool.{true≢false}
use Rattle.std.proofs.lemmas.Option.{none-some, same_Some}
use Rattle.aq_base.specs.Values.{Row}
use Rattle.aq_first_base.specs.Catalogs.{Catalog}
use Rattle.aq_base.specs.Maps.{at, with_at}
use Rattle.aq_first_base.specs.Databases.{Database, Stored, rows_of}
use Rattle.aq_first_base.specs.Writes.{Writes}
use Rattle.aq_first_base.specs.Works.{Event, Work}
use Rattle.aq_first_base.specs.Works.Kind.{Level, Drain}
use Rattle.aq_first_base.specs.Setup.{Program, program_of}
use Rattle.aq_first_base.specs.declared.bound.Bound.{Bound}
use Rattle.aq_first_base.specs.declared.bound.Bound.TheVariants.{InsertRows, DeleteRows, BeginBlock, CommitBlock, RollbackBlock}
use Rattle.aq_base.proofs.Lists.{Contains-none, Contains-first, Contains-later, Contains-cons_cases, Contains-map_from, Kept-filter}
use Rattle.aq_base.proofs.Maps.{KeysRise, at-Contains, Removes, Removes-left}
use Rattle.aq_first_base.proofs.Databases.{Removes-overlay, KeysRise-overlay}
use Rattle.aq_first_base.proofs.Setup.{ForeignKeysAreEnforced, ForeignKeysAreEnforced-catalog_of}
use Rattle.aq_first_outcomes.specs.Faults.{Fault}
use Rattle.aq_first_outcomes.specs.Faults.Fault.{In_failed_block}
use Rattle.aq_first_outcomes.specs.Rows.{insert_fault, insert_events, delete_events, is_deferred, is_immediate}
use Rattle.aq_first_run.specs.States.{Operation, Target, Answer, Block, Task, Transaction, Session, World, State, opening, at_start, nobody, session_at, last_of}
use Rattle.aq_first_run.specs.States.Block.{Idle, Open, Failed}
use Rattle.aq_first_run.specs.States.Operation.{Inserting, Deleting}
use Rattle.aq_first_run.specs.States.Target.{New_row, Old_row}
use Rattle.aq_first_run.specs.States.Answer.{Committed}
use Rattle.aq_first_run.specs.States.Task.{Rows, Rounds, Committing}
use Rattle.aq_first_run.specs.Effects.{Scene, effect, effects}
use Rattle.aq_first_run.specs.Steps.{Plan, old_rows, start_plan, insert_plan, delete_plan, rows_plan, answer_of, close_plan, take_plan, level_plan, event_plan, drain_plan, task_plan, effects_of_plan, effects_of, plan_of, statement_at, with_scene, step, is_enabled}
use Rattle.aq_first_run.specs.Steps.Plan.{Fails}
use Rattle.aq_first_run.specs.Runs.{Schedule, run_from, CanRunFrom}
use Rattle.aq_first_laws.specs.Committed.{DatabaseStands, CommittedDatabasesStand}
use Rattle.aq_first_laws.proofs.Sessions.{CanStep-enabled}
use Rattle.aq_first_laws.proofs.Invariants.{view_of, HistoryStands, WorkStands, TargetFits, TargetsFit, with_work, with_level, with_drain, HasNotFailed, SessionStands, SceneStands, StateStands}
use Rattle.aq_first_laws.proofs.Invariants.HasNotFailed.{Is_idle, Is_open}
use Rattle.aq_first_laws.proofs.Invariants.SessionStands.{Outside, In_block, In_failed_block, In_rows, In_rounds, In_drain, Over}
use Rattle.aq_first_laws.proofs.Events.{EndsEvent, EndsEvent-event_plan}
use Rattle.aq_first_laws.proofs.Events.EndsEvent.{Done, Refused}
use Rattle.aq_first_laws.proofs.Works.{begins, regroups, inserts, draws, deletes, finishes, commits}
use Rattle.aq_first_laws.proofs.Rounds.{SameEvents-round, SameEvents-close}

-- ---- targets

-- the rows of an INSERT
new_rows_fit : (view : Database) (table : ℕ) (rows : List Row) → TargetsFit view (Inserting table) (map New_row rows)
new_rows_fit view table rows target c =
    let from = Contains-map_from New_row rows target c in
    subst (TargetFits view (Inserting table)) from.2 tt

-- the rows of a table that a DELETE sees
old_rows_fit : (view : Database) (table : ℕ) → KeysRise view → TargetsFit view (Deleting table) (old_rows table view)
old_rows_fit view table rise target c =
    let from = Contains-map_from (λ (entry : ℕ × Stored). Old_row entry.0) (rows_of table view) target c in
    let entry = from.0 in
    let kept = Kept-filter (λ (one : ℕ × Stored). one.1.table == table) view entry from.1 in
    let stands = at-Contains entry view rise kept.was in
    let in_table = eqb-true entry.1.table table kept.passes in
    subst (TargetFits view (Deleting table)) from.2 (λ stored is. ap (λ r. r.table) (same_Some stored entry.1 (sym is ∙ stands)) ∙ in_table)

-- the targets of an INSERT fit whatever is seen
fit_anywhere : (view view_after : Database) (table : ℕ) (target : Target) → TargetFits view (Inserting table) target → TargetFits view_after (Inserting table) target
fit_anywhere view view_after table (New_row values) fits = tt
fit_anywhere view view_after table (Old_row number) fits = fits

-- those of a DELETE fit where a row is gone
fit_without : (view view_after : Database) (row table : ℕ) → Removes row view view_after → (target : Target) → TargetFits view (Deleting table) target → TargetFits view_after (Deleting table) target
fit_without view view_after row table removes (New_row values) fits = fits
fit_without view view_after row table removes (Old_row number) fits = λ stored stands. fits stored (Removes-left row view view_after removes number stored stands).1

module _ (cat : Catalog) (s : ℕ) (world : World) (next : ℕ) (history : HistoryStands cat world.history world.rows) where
  abbrev going : Block → List Task → Option Transaction → Session
  going block tasks transaction = record { next = next; block = block; transaction = transaction; tasks = tasks; ended = false }

  -- what a plan leaves of a session
  abbrev Keeps : Block → List Task → Option Transaction → Plan → Type 0
  Keeps block tasks transaction plan = SceneStands cat (effects cat s (effects_of_plan cat block plan) (record { world = world; me = going block tasks transaction }))

  abbrev Stands : Writes → List Event → Type 0
  Stands writes events = WorkStands cat world.history world.rows world.writes writes events

  abbrev view : Writes → Database
  view writes = view_of world.history writes

  view_rises : (writes : Writes) → KeysRise (view writes)
  view_rises writes = KeysRise-overlay (length world.history) writes (last_of world.history) history.rise

  fault_keeps : (block : Block) → HasNotFailed block → (tasks : List Task) (transaction : Option Transaction) (fault : Fault) → Keeps block tasks transaction (Fails [] fault)
  unfolding effect
  fault_keeps block Is_idle tasks transaction fault = record { history = history; session = Outside }
  fault_keeps block Is_open tasks transaction fault = record { history = history; session = In_failed_block }

  -- ---- start

  -- outside a block
  idle_start_keeps : (statement : Option Bound) → Keeps Idle [] None (start_plan world (going Idle [] None) statement)
  unfolding effect
  idle_start_keeps None = record { history = history; session = Over Idle }
  idle_start_keeps (Some (InsertRows table rows)) =
      record {
        history = history;
        session = In_rows Idle Is_idle (Inserting table) (map New_row rows) 0 [] [] [] (new_rows_fit (view []) table rows) (begins cat world.history world.rows world.writes history);
      }
  idle_start_keeps (Some (DeleteRows table)) =
      record {
        history = history;
        session = In_rows Idle Is_idle (Deleting table) (old_rows table (view [])) 0 [] [] [] (old_rows_fit (view []) table (view_rises [])) (begins cat world.history world.rows world.writes history);
      }
  idle_start_keeps (Some BeginBlock) = record { history = history; session = In_block [] [] (begins cat world.history world.rows world.writes history) }
  idle_start_keeps (Some CommitBlock) = record { history = history; session = Outside }
  idle_start_keeps (Some RollbackBlock) = record { history = history; session = Outside }

  -- in an open block
  open_start_keeps : (writes : Writes) (deferred : List Event) → Stands writes deferred → (statement : Option Bound)
      → Keeps Open [] (with_work writes deferred []) (start_plan world (going Open [] (with_work writes deferred [])) statement)
  unfolding effect
  open_start_keeps writes deferred work None = record { history = history; session = Over Open }
  open_start_keeps writes deferred work (Some (InsertRows table rows)) =
      record {
        history = history;
        session = In_rows Open Is_open (Inserting table) (map New_row rows) 0 writes deferred [] (new_rows_fit (view writes) table rows) (rw append-nil work);
      }
  open_start_keeps writes deferred work (Some (DeleteRows table)) =
      record {
        history = history;
        session = In_rows Open Is_open (Deleting table) (old_rows table (view writes)) 0 writes deferred [] (old_rows_fit (view writes) table (view_rises writes)) (rw append-nil work);
      }
  open_start_keeps writes deferred work (Some BeginBlock) = record { history = history; session = In_block writes deferred work }
  open_start_keeps writes deferred work (Some CommitBlock) = record { history = history; session = In_drain Committed writes deferred [] work }
  open_start_keeps writes deferred work (Some RollbackBlock) = record { history = history; session = Outside }

  -- in a block that has failed
  failed_start_keeps : (statement : Option Bound) → Keeps Failed [] None (start_plan world (going Failed [] None) statement)
  unfolding effect
  failed_start_keeps None = record { history = history; session = Over Failed }
  failed_start_keeps (Some (InsertRows table rows)) = record { history = history; session = In_failed_block }
  failed_start_keeps (Some (DeleteRows table)) = record { history = history; session = In_failed_block }
  failed_start_keeps (Some BeginBlock) = record { history = history; session = In_failed_block }
  failed_start_keeps (Some CommitBlock) = record { history = history; session = Outside }
  failed_start_keeps (Some RollbackBlock) = record { history = history; session = Outside }

  -- ---- row and end

  insert_keeps : ForeignKeysAreEnforced cat → (block : Block) → HasNotFailed block → (table : ℕ) (values : Row) (left : List Target) (count : ℕ) (writes : Writes) (deferred queued : List Event)
      → TargetsFit (view writes) (Inserting table) (New_row values ∷ left) → Stands writes (deferred ++ queued)
      → (fault : Option Fault) → insert_fault cat (view writes) table values ≡ fault
      → Keeps block (Rows (Inserting table) (New_row values ∷ left) count ∷ []) (with_level writes deferred queued []) (insert_plan table values left count [] fault)
  unfolding effect
  insert_keeps enforced block sound table values left count writes deferred queued fit work None free =
      let after : Writes = with_at (world.rows + 1) (record { table = table; image = Some values; number = world.writes + 1 }) writes in
      record {
        history = draws cat world.history world.rows history;
        session = In_rows block sound (Inserting table) left (count + 1) after deferred (queued ++ insert_events cat table (world.rows + 1) (world.writes + 1) values)
            (λ target c. fit_anywhere (view writes) (view after) table target (fit target (Contains-later (New_row values) target left c)))
            (rw (← append_assoc) (inserts cat world.history world.rows world.writes writes (deferred ++ queued) table values enforced history work free));
      }
  insert_keeps enforced block sound table values left count writes deferred queued fit work (Some fault) refused =
      fault_keeps block sound (Rows (Inserting table) (New_row values ∷ left) count ∷ []) (with_level writes deferred queued []) fault

  delete_keeps : ForeignKeysAreEnforced cat → (block : Block) → HasNotFailed block → (table row : ℕ) (left : List Target) (count : ℕ) (writes : Writes) (deferred queued : List Event)
      → TargetsFit (view writes) (Deleting table) (Old_row row ∷ left) → Stands writes (deferred ++ queued)
      → (stored : Option Stored) → at row (view writes) ≡ stored
      → Keeps block (Rows (Deleting table) (Old_row row ∷ left) count ∷ []) (with_level writes deferred queued []) (delete_plan table row left count [] stored)
  unfolding effect
  delete_keeps enforced block sound table row left count writes deferred queued fit work None gone =
      record {
        history = history;
        session = In_rows block sound (Deleting table) left count writes deferred queued (λ target c. fit target (Contains-later (Old_row row) target left c)) work;
      }
  delete_keeps enforced block sound table row left count writes deferred queued fit work (Some stored) stands =
      let after : Writes = with_at row (record { table = table; image = None; number = world.writes + 1 }) writes in
      let removes = Removes-overlay (length world.history) row table (world.writes + 1) writes (last_of world.history) work.rise in
      let in_table : stored.table ≡ table = fit (Old_row row) (Contains-first (Old_row row) left) stored stands in
      record {
        history = history;
        session = In_rows block sound (Deleting table) left (count + 1) after deferred (queued ++ delete_events cat table row (world.writes + 1) stored.values)
            (λ target c. fit_without (view writes) (view after) row table removes target (fit target (Contains-later (Old_row row) target left c)))
            (rw (← append_assoc) (deletes cat world.history world.rows world.writes writes (deferred ++ queued) table row stored enforced history work stands in_table));
      }

  rows_keep : ForeignKeysAreEnforced cat → (block : Block) → HasNotFailed block → (operation : Operation) (left : List Target) (count : ℕ) (writes : Writes) (deferred queued : List Event)
      → TargetsFit (view writes) operation left → Stands writes (deferred ++ queued)
      → Keeps block (Rows operation left count ∷ []) (with_level writes deferred queued [])
      (rows_plan cat world (going block (Rows operation left count ∷ []) (with_level writes deferred queued [])) operation left count [])
  unfolding effect
  rows_keep enforced block sound operation [] count writes deferred queued fit work = record { history = history; session = In_rounds block sound (answer_of operation count) writes deferred queued [] work }
  rows_keep enforced block sound (Inserting table) (New_row values ∷ left) count writes deferred queued fit work =
      insert_keeps enforced block sound table values left count writes deferred queued fit work (insert_fault cat (view writes) table values) refl
  rows_keep enforced block sound (Inserting table) (Old_row row ∷ left) count writes deferred queued fit work = absurd (fit (Old_row row) (Contains-first (Old_row row) left))
  rows_keep enforced block sound (Deleting table) (New_row values ∷ left) count writes deferred queued fit work = absurd (fit (New_row values) (Contains-first (New_row values) left))
  rows_keep enforced block sound (Deleting table) (Old_row row ∷ left) count writes deferred queued fit work =
      delete_keeps enforced block sound table row left count writes deferred queued fit work (at row (view writes)) refl

  -- ---- round, event and close

  abbrev level_work : Writes → List Event → List Event → List Event → Work
  level_work writes deferred queued round = record { writes = writes; deferred = deferred; opened = record { kind = Level; queued = queued; round = round } ∷ [] }

  level_event_keeps : (block : Block) → HasNotFailed block → (answer : Answer) (writes : Writes) (deferred queued round : List Event) (event : Event) → Stands writes (event ∷ (round ++ (deferred ++ queued)))
      → (plan : Plan) → EndsEvent plan → event_plan cat world (level_work writes deferred queued (event ∷ round)) event ≡ plan
      → Keeps block (Rounds answer ∷ []) (with_level writes deferred queued (event ∷ round)) plan
  unfolding effect
  level_event_keeps block sound answer writes deferred queued round event work plan Done is =
      record {
        history = history;
        session = In_rounds block sound answer writes deferred queued round
            (finishes cat world (level_work writes deferred queued (event ∷ round)) event (round ++ (deferred ++ queued)) history.rise work is);
      }
  level_event_keeps block sound answer writes deferred queued round event work plan (Refused fault) is = fault_keeps block sound (Rounds answer ∷ []) (with_level writes deferred queued (event ∷ round)) fault

  -- no immediate event is left: in a block the statement is answered, outside one its transaction goes on to the commit
  close_keeps : (block : Block) → HasNotFailed block → (answer : Answer) (writes : Writes) (deferred queued : List Event) → Stands writes (deferred ++ filter (is_deferred cat) queued)
      → Keeps block (Rounds answer ∷ []) (with_level writes deferred queued []) (close_plan block answer [])
  unfolding effect
  close_keeps block Is_idle answer writes deferred queued work = record { history = history; session = In_drain answer writes (deferred ++ filter (is_deferred cat) queued) [] work }
  close_keeps block Is_open answer writes deferred queued work = record { history = history; session = In_block writes (deferred ++ filter (is_deferred cat) queued) work }

  take_keeps : (block : Block) → HasNotFailed block → (answer : Answer) (writes : Writes) (deferred queued : List Event) → Stands writes (deferred ++ queued)
      → (events : List Event) → filter (is_immediate cat) queued ≡ events
      → Keeps block (Rounds answer ∷ []) (with_level writes deferred queued []) (take_plan block answer [] events)
  unfolding effect
  take_keeps block sound answer writes deferred queued work [] none =
      close_keeps block sound answer writes deferred queued
      (regroups cat world.history world.rows world.writes writes (deferred ++ queued) (deferred ++ filter (is_deferred cat) queued) (SameEvents-close cat deferred queued none) work)
  take_keeps block sound answer writes deferred queued work (event ∷ events) some =
      record {
        history = history;
        session = In_rounds block sound answer writes (deferred ++ filter (is_deferred cat) queued) [] (filter (is_immediate cat) queued)
            (regroups cat world.history world.rows world.writes writes (deferred ++ queued) (filter (is_immediate cat) queued ++ ((deferred ++ filter (is_deferred cat) queued) ++ []))
            (SameEvents-round cat deferred queued) work);
      }

  rounds_keep : (block : Block) → HasNotFailed block → (answer : Answer) (writes : Writes) (deferred queued round : List Event) → Stands writes (round ++ (deferred ++ queued))
      → Keeps block (Rounds answer ∷ []) (with_level writes deferred queued round) (level_plan cat world block (level_work writes deferred queued round) answer [] queued round)
  rounds_keep block sound answer writes deferred queued (event ∷ round) work =
      level_event_keeps block sound answer writes deferred queued round event work (event_plan cat world (level_work writes deferred queued (event ∷ round)) event)
      (EndsEvent-event_plan cat world (level_work writes deferred queued (event ∷ round)) event) refl
  rounds_keep block sound answer writes deferred queued [] work = take_keeps block sound answer writes deferred queued work (filter (is_immediate cat) queued) refl

  -- ---- drain and commit

  abbrev drain_work : Writes → List Event → List Event → Work
  drain_work writes deferred round = record { writes = writes; deferred = deferred; opened = record { kind = Drain; queued = []; round = round } ∷ [] }

  drain_event_keeps : (answer : Answer) (writes : Writes) (deferred round : List Event) (event : Event) → Stands writes (event ∷ (round ++ deferred))
      → (plan : Plan) → EndsEvent plan → event_plan cat world (drain_work writes deferred (event ∷ round)) event ≡ plan
      → Keeps Idle (Committing answer ∷ []) (with_drain writes deferred (event ∷ round)) plan
  unfolding effect
  drain_event_keeps answer writes deferred round event work plan Done is =
      record {
        history = history;
        session = In_drain answer writes deferred round (finishes cat world (drain_work writes deferred (event ∷ round)) event (round ++ deferred) history.rise work is);
      }
  drain_event_keeps answer writes deferred round event work plan (Refused fault) is = fault_keeps Idle Is_idle (Committing answer ∷ []) (with_drain writes deferred (event ∷ round)) fault

  drain_keeps : (answer : Answer) (writes : Writes) (deferred round : List Event) → Stands writes (round ++ deferred)
      → Keeps Idle (Committing answer ∷ []) (with_drain writes deferred round) (drain_plan cat world (drain_work writes deferred round) answer [] deferred round)
  unfolding effect
  drain_keeps answer writes deferred (event ∷ round) work =
      drain_event_keeps answer writes deferred round event work (event_plan cat world (drain_work writes deferred (event ∷ round)) event)
      (EndsEvent-event_plan cat world (drain_work writes deferred (event ∷ round)) event) refl
  drain_keeps answer writes (event ∷ deferred) [] work = record { history = history; session = In_drain answer writes [] (event ∷ deferred) (rw append-nil work) }
  drain_keeps answer writes [] [] work = record { history = commits cat world.history world.rows world.writes writes history work; session = Outside }

  -- ---- whichever step it is

  task_keeps : ForeignKeysAreEnforced cat → (statement : Option Bound) (block : Block) (tasks : List Task) (transaction : Option Transaction) (ended : Bool) → ended ≡ false
      → SessionStands cat world.history world.rows world.writes block tasks transaction ended
      → SceneStands cat (effects cat s (effects_of_plan cat block (task_plan cat world (record { next = next; block = block; transaction = transaction; tasks = tasks; ended = ended }) statement tasks))
      (record { world = world; me = record { next = next; block = block; transaction = transaction; tasks = tasks; ended = ended } }))
  task_keeps enforced statement _ _ _ _ goes_on Outside = idle_start_keeps statement
  task_keeps enforced statement _ _ _ _ goes_on (In_block writes deferred work) = open_start_keeps writes deferred work statement
  task_keeps enforced statement _ _ _ _ goes_on In_failed_block = failed_start_keeps statement
  task_keeps enforced statement _ _ _ _ goes_on (In_rows block sound operation left count writes deferred queued fit work) =
      rows_keep enforced block sound operation left count writes deferred queued fit work
  task_keeps enforced statement _ _ _ _ goes_on (In_rounds block sound answer writes deferred queued round work) = rounds_keep block sound answer writes deferred queued round work
  task_keeps enforced statement _ _ _ _ goes_on (In_drain answer writes deferred round work) = drain_keeps answer writes deferred round work
  task_keeps enforced statement _ _ _ _ goes_on (Over block) = absurd (true≢false goes_on)

-- with one session, the state stands where its scene does
with_scene_stands : (cat : Catalog) (st : State) (s : ℕ) (after : Scene) → length st.sessions ≤ 1 → s < length st.sessions → SceneStands cat after → StateStands cat (with_scene st s after)
with_scene_stands cat st s after one within stands =
    let same = length-set st.sessions s after.me in
    record {
      one = rw same one;
      history = stands.history;
      sessions = λ r r_within.
          let least : s ≡ r = omega arith in
          subst (λ me. SessionStands cat after.world.history after.world.rows after.world.writes me.block me.tasks me.transaction me.ended)
          (sym (get_or-set_same st.sessions s after.me nobody within) ∙ ap (λ n. slice_index_or (slice_set st.sessions s after.me) n nobody) least) stands.session;
    }

-- the step of an enabled session
step_keeps : (program : Program) (st : State) (s : ℕ) → ForeignKeysAreEnforced program.catalog → is_enabled st s ≡ true → StateStands program.catalog st → StateStands program.catalog (step program st s)
unfolding step effects_of plan_of
step_keeps program st s enforced enabled stands =
    let can = CanStep-enabled st s enabled in
    let me = session_at st s in
    with_scene_stands program.catalog st s
    (effects program.catalog s (effects_of_plan program.catalog me.block (task_plan program.catalog st.world me (statement_at program s me.next) me.tasks)) (record { world = st.world; me = me }))
    stands.one can.within
    (task_keeps program.catalog s st.world me.next stands.history enforced (statement_at program s me.next) me.block me.tasks me.transaction me.ended can.goes_on (stands.sessions s can.within))

empty_stands : (cat : Catalog) → DatabaseStands cat []
empty_stands cat =
    record {
      numbers = tt;
      references = λ f c number row stands in_child no_null. absurd (none-some row stands);
      keys = λ k c m n one other one_stands other_stands one_in other_in same. absurd (none-some one one_stands);
      not_null = λ number row stands t of_table col c. absurd (none-some row stands);
    }

starts : (scripts : List (List Bound)) (s : ℕ) → s < length (map (λ _. at_start) scripts) → slice_index_or (map (λ _. at_start) scripts) s nobody ≡ at_start
starts [] s within = absurd (omega arith)
starts (statements ∷ scripts) zero within = refl
starts (statements ∷ scripts) (suc s) within = starts scripts s (omega arith)

opening_stands : (program : Program) → length program.sessions ≤ 1 → StateStands program.catalog (opening program)
opening_stands program one =
    record {
      one = rw length-map one;
      history = record {
        all = λ db c. ⊎_elim (λ first. subst (DatabaseStands program.catalog) first (empty_stands program.catalog)) (λ later. absurd (Contains-none db later)) (Contains-cons_cases [] db [] c);
        last = empty_stands program.catalog;
        rise = tt;
        drawn = λ row stored stands. absurd (none-some stored stands);
      };
      sessions = λ s within. subst (λ me. SessionStands program.catalog ([] ∷ []) 0 0 me.block me.tasks me.transaction me.ended) (sym (starts program.sessions s within)) Outside;
    }

run_stands : (program : Program) (st : State) (schedule : Schedule) → ForeignKeysAreEnforced program.catalog → CanRunFrom program st schedule → StateStands program.catalog st
    → StateStands program.catalog (run_from program st schedule)
unfolding run_from CanRunFrom
run_stands program st [] enforced can stands = stands
run_stands program st (s ∷ schedule) enforced can stands = run_stands program (step program st s) schedule enforced can.1 (step_keeps program st s enforced can.0 stands)

pub committed_databases_stand : CommittedDatabasesStand
committed_databases_stand script schedule one can =
    let program = program_of script in
    (run_stands program (opening program) schedule (ForeignKeysAreEnforced-catalog_of script) can (opening_stands program (rw length-map one))).history.all
