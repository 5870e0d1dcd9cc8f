-- What is in progress in a session, as the definitions of the run have it.
use Rattle.std.specs.Prelude.{Bool, true, false, List, [], ◌∷◌, ◌++◌, map, Option, Some, None, option_map}
use Rattle.aq_first_base.specs.Catalogs.{Catalog}
use Rattle.aq_first_run.specs.Effects.{left_over}
use Rattle.aq_first_base.specs.Works.{Event, Opened}
use Rattle.aq_first_base.specs.Works.Kind.{Level, Drain}
use Rattle.aq_first_base.specs.Writes.{Writes}
use Rattle.aq_first_run.specs.States.{Answer, Block, Task, Transaction}
use Rattle.aq_first_run.specs.States.Operation.{Inserting as Inserting_into, Deleting as Deleting_from}
use Rattle.aq_first_run.specs.States.Target.{New_row, Old_row}
use Rattle.aq_first_run.specs.States.Answer.{Inserted, Deleted, Began, Committed, Rolled_back}
use Rattle.aq_first_run.specs.States.Block.{Idle, Open, Failed}
use Rattle.aq_first_run.specs.States.Task.{Rows, Rounds as Rounds_left, Committing as Commit_left}
use Rattle.aq_first_machine.specs.declared.session.Answer.{Answer as Own_answer}
use Rattle.aq_first_machine.specs.declared.session.Answer.TheVariants.{Inserted as Inserted_rows, Deleted as Deleted_rows, Began as Began_block, Committed as Committed_block, RolledBack}
use Rattle.aq_first_machine.specs.declared.session.Block.{Block as Own_block}
use Rattle.aq_first_machine.specs.declared.session.Block.TheVariants.{Idle as Is_idle, Open as Is_open, Failed as Has_failed}
use Rattle.aq_first_machine.specs.declared.session.NewRows.{NewRows}
use Rattle.aq_first_machine.specs.declared.session.OldRows.{OldRows}
use Rattle.aq_first_machine.specs.declared.session.Task.{Task as Own_task}
use Rattle.aq_first_machine.specs.declared.session.Task.TheVariants.{Between, Inserting, Deleting, Rounds, Committing}

abbrev pub answer_shown : Own_answer → Answer
answer_shown (Inserted_rows count) = Inserted count
answer_shown (Deleted_rows count) = Deleted count
answer_shown Began_block = Began
answer_shown Committed_block = Committed
answer_shown RolledBack = Rolled_back

abbrev pub block_shown : Own_block → Block
block_shown Is_idle = Idle
block_shown Is_open = Open
block_shown Has_failed = Failed

-- what a transaction has written and owes, with one level or the drain open at the most
pub record Held : Type 0 where
  pub writes : Writes
  -- the events that wait for the commit
  pub deferred : List Event
  -- the events that were queued at the level, and those of the round in progress
  pub queued : List Event
  pub round : List Event

-- nothing written, and nothing owed
abbrev pub nothing_held : Held
nothing_held = record { writes = []; deferred = []; queued = []; round = [] }

-- a transaction, and the tasks over it
pub record InProgress : Type 0 where
  pub transaction : Transaction
  pub tasks : List Task

abbrev pub in_work : Held → List Opened → Transaction
in_work held opened = record { work = record { writes = held.writes; deferred = held.deferred; opened = opened } }

-- between two statements of a block nothing is open
abbrev pub waiting : Held → InProgress
waiting held = record { transaction = in_work held []; tasks = [] }

-- a task over the level of its statement
abbrev pub in_level : Held → Task → InProgress
in_level held task = record { transaction = in_work held (record { kind = Level; queued = held.queued; round = held.round } ∷ []); tasks = task ∷ [] }

-- a task over the drain
abbrev pub in_drain : Held → Task → InProgress
in_drain held task = record { transaction = in_work held (record { kind = Drain; queued = held.queued; round = held.round } ∷ []); tasks = task ∷ [] }

abbrev pub inserting : NewRows → Task
inserting rows = Rows (Inserting_into rows.table) (map New_row rows.left.items) rows.done

abbrev pub deleting : OldRows → Task
deleting rows = Rows (Deleting_from rows.table) (map Old_row rows.left.items) rows.done

abbrev pub progress_shown : Held → Own_task → InProgress
progress_shown held Between = waiting held
progress_shown held (Inserting rows) = in_level held (inserting rows)
progress_shown held (Deleting rows) = in_level held (deleting rows)
progress_shown held (Rounds answer) = in_level held (Rounds_left (answer_shown answer))
progress_shown held (Committing answer) = in_drain held (Commit_left (answer_shown answer))

abbrev pub tasks_of : Option InProgress → List Task
tasks_of None = []
tasks_of (Some progress) = progress.tasks

abbrev pub transaction_of : Option InProgress → Option Transaction
transaction_of progress = option_map (λ p. p.transaction) progress

-- nothing is in progress
abbrev pub has_no_task : Option InProgress → Bool
has_no_task None = true
has_no_task (Some progress) = is_nil progress.tasks
  where
    is_nil : List Task → Bool
    is_nil [] = true
    is_nil (task ∷ tasks) = false

-- what a transaction has written and owes when its level has closed
abbrev pub closed : Catalog → InProgress → Held
closed cat progress =
    record {
      writes = progress.transaction.work.writes;
      deferred = progress.transaction.work.deferred ++ left_over cat progress.transaction.work.opened;
      queued = [];
      round = [];
    }
