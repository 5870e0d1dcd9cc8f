-- One step of a session. The innermost task decides which kind of step it is.
use Rattle.std.specs.Prelude.{ℕ, ◌+◌, Bool, not, ◌&&◌, List, [], ◌∷◌, ◌++◌, length, map, filter, Option, Some, None, option_and_then, slice_get, slice_set, nat_lt}
use Rattle.aq_base.specs.Values.{Row}
use Rattle.aq_base.specs.Maps.{at}
use Rattle.aq_first_base.specs.Catalogs.{Catalog}
use Rattle.aq_first_base.specs.Databases.{Database, Stored, rows_of}
use Rattle.aq_first_base.specs.Works.{Event, Opened, Work}
use Rattle.aq_first_base.specs.Works.Kind.{Level, Drain}
use Rattle.aq_first_base.specs.Setup.{Program}
use Rattle.aq_first_base.specs.declared.catalog.Trigger.{Trigger}
use Rattle.aq_first_base.specs.declared.catalog.ForeignKey.{ForeignKey}
use Rattle.aq_first_base.specs.declared.catalog.Does.{Does}
use Rattle.aq_first_base.specs.declared.catalog.Does.TheVariants.{Check, Parent}
use Rattle.aq_first_base.specs.declared.bound.Bound.{Bound}
use Rattle.aq_first_base.specs.declared.bound.Bound.TheVariants.{InsertRows, DeleteRows, BeginBlock, CommitBlock, RollbackBlock}
use Rattle.aq_first_outcomes.specs.Faults.{Fault}
use Rattle.aq_first_outcomes.specs.Faults.Fault.{In_failed_block}
use Rattle.aq_first_outcomes.specs.Rows.{insert_fault, is_immediate}
use Rattle.aq_first_outcomes.specs.References.{Checked, child_check, parent_check}
use Rattle.aq_first_outcomes.specs.References.Checked.{Passed, Skipped, Violated}
use Rattle.aq_first_run.specs.States.{Operation, Target, Answer, Block, Task, Transaction, Session, World, State, session_at, last_database, latest_view}
use Rattle.aq_first_run.specs.States.Block.{Idle, Open, Failed}
use Rattle.aq_first_run.specs.States.Operation.{Inserting, Deleting}
use Rattle.aq_first_run.specs.States.Target.{New_row, Old_row}
use Rattle.aq_first_run.specs.States.Answer.{Inserted, Deleted, Began, Committed, Rolled_back}
use Rattle.aq_first_run.specs.States.Task.{Rows, Rounds, Committing}
use Rattle.aq_first_run.specs.Replies.{answer_lines, error_lines, in_progress_warning, no_block_warning}
use Rattle.aq_first_run.specs.Effects.{Effect, Scene, effects}
use Rattle.aq_first_run.specs.Effects.Effect.{Takes_statement, Begins, Opens, Goes_on, Inserts, Deletes, Takes_round, Takes_deferred, Finishes, Closes_level, Commits, Aborts, Replies, Blocks, Ends}

-- what a step is to do
pub data Plan : Type 0 where
  Does_all : (effects : List Effect) → Plan
  -- what comes before the fault is done
  Fails : (before : List Effect) → (fault : Fault) → Plan

-- A task stands over a transaction and its level; one that doesn't can't be reached, and is dropped.
abbrev pub dropped : Plan
dropped = Does_all (Goes_on [] ∷ [])

abbrev pub in_progress : Option Transaction → (Transaction → Plan) → Plan
in_progress None plan = dropped
in_progress (Some t) plan = plan t

-- ---- start and close

-- what the session sees now
abbrev pub view_of : World → Option Transaction → Database
view_of world None = last_database world
view_of world (Some t) = latest_view world t.work

-- A statement on rows opens a level and fixes its targets. Outside a block it begins a transaction; in a failed block it is refused.
abbrev pub rows_start : Block → Operation → List Target → Plan
rows_start Idle operation targets = Does_all (Takes_statement ∷ Begins ∷ Opens Level ∷ Goes_on (Rows operation targets 0 ∷ []) ∷ [])
rows_start Open operation targets = Does_all (Takes_statement ∷ Opens Level ∷ Goes_on (Rows operation targets 0 ∷ []) ∷ [])
rows_start Failed operation targets = Fails (Takes_statement ∷ []) In_failed_block

abbrev pub begin_plan : Block → Plan
begin_plan Idle = Does_all (Takes_statement ∷ Begins ∷ Blocks Open ∷ Replies (answer_lines Began) ∷ [])
begin_plan Open = Does_all (Takes_statement ∷ Replies (in_progress_warning ∷ answer_lines Began) ∷ [])
begin_plan Failed = Fails (Takes_statement ∷ []) In_failed_block

-- COMMIT in an open block is followed by the drain; a failed block is rolled back
abbrev pub commit_plan : Block → Plan
commit_plan Idle = Does_all (Takes_statement ∷ Replies (no_block_warning ∷ answer_lines Committed) ∷ [])
commit_plan Open = Does_all (Takes_statement ∷ Blocks Idle ∷ Opens Drain ∷ Goes_on (Committing Committed ∷ []) ∷ [])
commit_plan Failed = Does_all (Takes_statement ∷ Aborts ∷ Blocks Idle ∷ Replies (answer_lines Rolled_back) ∷ [])

abbrev pub rollback_plan : Block → Plan
rollback_plan Idle = Does_all (Takes_statement ∷ Replies (no_block_warning ∷ answer_lines Rolled_back) ∷ [])
rollback_plan Open = Does_all (Takes_statement ∷ Aborts ∷ Blocks Idle ∷ Replies (answer_lines Rolled_back) ∷ [])
rollback_plan Failed = Does_all (Takes_statement ∷ Aborts ∷ Blocks Idle ∷ Replies (answer_lines Rolled_back) ∷ [])

abbrev pub old_rows : ℕ → Database → List Target
old_rows table view = map (λ entry. Old_row entry.0) (rows_of table view)

-- With no statement left an open transaction is rolled back, and the session ends.
abbrev pub start_plan : World → Session → Option Bound → Plan
start_plan world me None = Does_all (Aborts ∷ Ends ∷ [])
start_plan world me (Some (InsertRows table rows)) = rows_start me.block (Inserting table) (map New_row rows)
start_plan world me (Some (DeleteRows table)) = rows_start me.block (Deleting table) (old_rows table (view_of world me.transaction))
start_plan world me (Some BeginBlock) = begin_plan me.block
start_plan world me (Some CommitBlock) = commit_plan me.block
start_plan world me (Some RollbackBlock) = rollback_plan me.block

-- ---- row and end

abbrev pub insert_plan : ℕ → Row → List Target → ℕ → List Task → Option Fault → Plan
insert_plan table values left done below None = Does_all (Inserts table values ∷ Goes_on (Rows (Inserting table) left (done + 1) ∷ below) ∷ [])
insert_plan table values left done below (Some fault) = Fails [] fault

-- a row that is gone is passed over
abbrev pub delete_plan : ℕ → ℕ → List Target → ℕ → List Task → Option Stored → Plan
delete_plan table row left done below None = Does_all (Goes_on (Rows (Deleting table) left done ∷ below) ∷ [])
delete_plan table row left done below (Some stored) =
    Does_all (Deletes table row stored.values ∷ Goes_on (Rows (Deleting table) left (done + 1) ∷ below) ∷ [])

abbrev pub row_plan : Catalog → World → Operation → Target → List Target → ℕ → List Task → Transaction → Plan
row_plan cat world (Inserting table) (New_row values) left done below t =
    insert_plan table values left done below (insert_fault cat (latest_view world t.work) table values)
row_plan cat world (Inserting table) (Old_row number) left done below t = dropped
row_plan cat world (Deleting table) (New_row values) left done below t = dropped
row_plan cat world (Deleting table) (Old_row number) left done below t =
    delete_plan table number left done below (at number (latest_view world t.work))

abbrev pub answer_of : Operation → ℕ → Answer
answer_of (Inserting table) done = Inserted done
answer_of (Deleting table) done = Deleted done

abbrev pub rows_plan : Catalog → World → Session → Operation → List Target → ℕ → List Task → Plan
rows_plan cat world me operation [] done below = Does_all (Goes_on (Rounds (answer_of operation done) ∷ below) ∷ [])
rows_plan cat world me operation (target ∷ left) done below =
    in_progress me.transaction (row_plan cat world operation target left done below)

-- ---- round and event

abbrev pub check_plan : Checked → Plan
check_plan Passed = Does_all (Finishes ∷ [])
check_plan Skipped = Does_all (Finishes ∷ [])
check_plan (Violated fault) = Fails [] fault

abbrev pub on_check : World → Work → Event → Option ForeignKey → Plan
on_check world work event None = Does_all (Finishes ∷ [])
on_check world work event (Some fk) = check_plan (child_check fk event work.writes (latest_view world work))

abbrev pub on_parent : World → Work → Event → Option ForeignKey → Plan
on_parent world work event None = Does_all (Finishes ∷ [])
on_parent world work event (Some fk) = check_plan (parent_check fk event (latest_view world work))

abbrev pub on_does : Catalog → World → Work → Event → Does → Plan
on_does cat world work event (Check fk) = on_check world work event (slice_get cat.fks fk)
on_does cat world work event (Parent fk) = on_parent world work event (slice_get cat.fks fk)

abbrev pub on_trigger : Catalog → World → Work → Event → Option Trigger → Plan
on_trigger cat world work event None = Does_all (Finishes ∷ [])
on_trigger cat world work event (Some trigger) = on_does cat world work event trigger.does

abbrev pub event_plan : Catalog → World → Work → Event → Plan
event_plan cat world work event = on_trigger cat world work event (slice_get cat.triggers event.trigger)

-- the level has closed: in a block the statement is answered, outside one its transaction commits
abbrev pub close_plan : Block → Answer → List Task → Plan
close_plan Idle answer below = Does_all (Closes_level ∷ Opens Drain ∷ Goes_on (Committing answer ∷ below) ∷ [])
close_plan Open answer below = Does_all (Closes_level ∷ Goes_on below ∷ Replies (answer_lines answer) ∷ [])
close_plan Failed answer below = Does_all (Closes_level ∷ Goes_on below ∷ Replies (answer_lines answer) ∷ [])

abbrev pub take_plan : Block → Answer → List Task → List Event → Plan
take_plan block answer below [] = close_plan block answer below
take_plan block answer below (event ∷ events) = Does_all (Takes_round ∷ [])

-- A round in progress goes on. Else the immediate events queued since are taken, and a round that takes nothing closes the level.
abbrev pub level_plan : Catalog → World → Block → Work → Answer → List Task → List Event → List Event → Plan
level_plan cat world block work answer below queued (event ∷ round) = event_plan cat world work event
level_plan cat world block work answer below queued [] = take_plan block answer below (filter (is_immediate cat) queued)

abbrev pub on_level : Catalog → World → Block → Work → Answer → List Task → List Opened → Plan
on_level cat world block work answer below [] = dropped
on_level cat world block work answer below (level ∷ levels) = level_plan cat world block work answer below level.queued level.round

abbrev pub rounds_plan : Catalog → World → Block → Answer → List Task → Transaction → Plan
rounds_plan cat world block answer below t = on_level cat world block t.work answer below t.work.opened

-- ---- drain

-- A round in progress goes on. Else all deferred events are taken, and where there is none the transaction commits.
abbrev pub drain_plan : Catalog → World → Work → Answer → List Task → List Event → List Event → Plan
drain_plan cat world work answer below deferred (event ∷ round) = event_plan cat world work event
drain_plan cat world work answer below (event ∷ deferred) [] = Does_all (Takes_deferred ∷ [])
drain_plan cat world work answer below [] [] = Does_all (Commits ∷ Goes_on below ∷ Replies (answer_lines answer) ∷ [])

abbrev pub on_drain : Catalog → World → Work → Answer → List Task → List Opened → Plan
on_drain cat world work answer below [] = dropped
on_drain cat world work answer below (drain ∷ others) = drain_plan cat world work answer below work.deferred drain.round

abbrev pub commit_step : Catalog → World → Answer → List Task → Transaction → Plan
commit_step cat world answer below t = on_drain cat world t.work answer below t.work.opened

-- ---- the kinds of step

abbrev pub task_plan : Catalog → World → Session → Option Bound → List Task → Plan
task_plan cat world me statement [] = start_plan world me statement
task_plan cat world me statement (Rows operation left done ∷ below) = rows_plan cat world me operation left done below
task_plan cat world me statement (Rounds answer ∷ below) = in_progress me.transaction (rounds_plan cat world me.block answer below)
task_plan cat world me statement (Committing answer ∷ below) = in_progress me.transaction (commit_step cat world answer below)

-- the session's next statement
abbrev pub statement_at : Program → ℕ → ℕ → Option Bound
statement_at program s n = option_and_then (λ statements. slice_get statements n) (slice_get program.sessions s)

unfoldable pub plan_of : Program → State → ℕ → Plan
plan_of program st s =
    task_plan program.catalog st.world (session_at st s) (statement_at program s (session_at st s).next) (session_at st s).tasks

-- an open block that met an error has failed
abbrev pub after_error : Block → Block
after_error Idle = Idle
after_error Open = Failed
after_error Failed = Failed

-- An error drops the statement and its transaction, and is the statement's reply.
abbrev pub effects_of_plan : Catalog → Block → Plan → List Effect
effects_of_plan cat block (Does_all all) = all
effects_of_plan cat block (Fails before fault) = before ++ Aborts ∷ Goes_on [] ∷ Blocks (after_error block) ∷ Replies (error_lines cat fault) ∷ []

unfoldable pub effects_of : Program → State → ℕ → List Effect
effects_of program st s = effects_of_plan program.catalog (session_at st s).block (plan_of program st s)

abbrev pub scene_of : State → ℕ → Scene
scene_of st s = record { world = st.world; me = session_at st s }

abbrev pub with_scene : State → ℕ → Scene → State
with_scene st s scene = record { world = scene.world; sessions = slice_set st.sessions s scene.me }

unfoldable pub step : Program → State → ℕ → State
step program st s = with_scene st s (effects program.catalog s (effects_of program st s) (scene_of st s))

-- a session may step where it hasn't ended
abbrev pub is_enabled : State → ℕ → Bool
is_enabled st s = nat_lt s (length st.sessions) && not (session_at st s).ended
