-- Every run is finite: a number that each step makes smaller.
use Rattle.std.specs.Prelude.{ℕ, ◌+◌, ◌*◌, ◌≤◌, Bool, true, false, List, [], ◌∷◌, length, drop, Option, Some, None, sum_by}
use Rattle.aq_base.specs.Values.{Row}
use Rattle.aq_first_base.specs.Catalogs.{Catalog}
use Rattle.aq_first_base.specs.Writes.{Writes}
use Rattle.aq_first_base.specs.Works.{Opened}
use Rattle.aq_first_base.specs.Setup.{Program}
use Rattle.aq_first_base.specs.declared.bound.Bound.{Bound}
use Rattle.aq_first_base.specs.declared.bound.Bound.TheVariants.{InsertRows, DeleteRows, BeginBlock, CommitBlock, RollbackBlock}
use Rattle.aq_first_run.specs.States.{Operation, Target, Task, Transaction, Session, State, opening, last_database}
use Rattle.aq_first_run.specs.States.Operation.{Inserting, Deleting}
use Rattle.aq_first_run.specs.States.Task.{Rows, Rounds, Committing}
use Rattle.aq_first_run.specs.Runs.{Schedule, IsSchedule}

-- a sum over all sessions, each with the statements of its script
abbrev pub over_sessions : (List Bound → Session → ℕ) → List (List Bound) → List Session → ℕ
over_sessions count scripts [] = 0
over_sessions count [] (me ∷ others) = count [] me + over_sessions count [] others
over_sessions count (statements ∷ scripts) (me ∷ others) = count statements me + over_sessions count scripts others

-- ---- rows

-- a deleted row is none
abbrev pub image_rows : Option Row → ℕ
image_rows None = 0
image_rows (Some values) = 1

-- the rows that a transaction has written and not deleted
abbrev pub written_rows : Writes → ℕ
written_rows writes = sum_by (λ entry. image_rows entry.1.image) writes

abbrev pub transaction_rows : Option Transaction → ℕ
transaction_rows None = 0
transaction_rows (Some t) = written_rows t.work.writes

-- the rows that a statement which hasn't begun may insert
abbrev pub statement_rows : Bound → ℕ
statement_rows (InsertRows table rows) = length rows
statement_rows (DeleteRows table) = 0
statement_rows BeginBlock = 0
statement_rows CommitBlock = 0
statement_rows RollbackBlock = 0

abbrev pub operation_rows : Operation → List Target → ℕ
operation_rows (Inserting table) left = length left
operation_rows (Deleting table) left = 0

-- the rows that what is in progress may still insert
abbrev pub task_rows : Task → ℕ
task_rows (Rows operation left done) = operation_rows operation left
task_rows (Rounds answer) = 0
task_rows (Committing answer) = 0

abbrev pub session_rows : List Bound → Session → ℕ
session_rows statements me = sum_by statement_rows (drop me.next statements) + sum_by task_rows me.tasks + transaction_rows me.transaction

-- no session will ever see more rows: those of the last database, those that are written, and those that may still be inserted
abbrev pub rows_at_most : Program → State → ℕ
rows_at_most program st = length (last_database st.world) + over_sessions session_rows program.sessions st.sessions

-- ---- steps

-- Each number bounds the steps that are still to come because of what it is said of.

-- a row to be inserted or deleted: its own step, and three for each trigger whose event it may queue
abbrev pub row_steps : Catalog → ℕ
row_steps cat = 1 + 3 * length cat.triggers

-- A statement that hasn't begun. One on rows has its start, the end of its rows, the close of its level, and its commit;
-- a DELETE has no more targets than there will be rows.
abbrev pub statement_steps : Catalog → ℕ → Bound → ℕ
statement_steps cat at_most (InsertRows table rows) = 4 + length rows * row_steps cat
statement_steps cat at_most (DeleteRows table) = 4 + at_most * row_steps cat
statement_steps cat at_most BeginBlock = 1
statement_steps cat at_most CommitBlock = 2
statement_steps cat at_most RollbackBlock = 1

-- what is in progress: the rows that are left, and of the end of the rows, the close of the level and the commit those that are to come
abbrev pub task_steps : Catalog → Task → ℕ
task_steps cat (Rows operation left done) = 3 + length left * row_steps cat
task_steps cat (Rounds answer) = 2
task_steps cat (Committing answer) = 1

-- the events of a level or the drain: one that is queued may wait for the commit, be taken by a round, and has its own step
abbrev pub level_steps : Opened → ℕ
level_steps level = 3 * length level.queued + length level.round

-- an event that waits for the commit is taken by the drain, and has its own step
abbrev pub transaction_steps : Option Transaction → ℕ
transaction_steps None = 0
transaction_steps (Some t) = 2 * length t.work.deferred + sum_by level_steps t.work.opened

-- the step in which a session ends
abbrev pub end_steps : Bool → ℕ
end_steps true = 0
end_steps false = 1

-- a session with the statements of its script, where no more rows than this are seen
abbrev pub session_steps : Catalog → ℕ → List Bound → Session → ℕ
session_steps cat at_most statements me =
    end_steps me.ended + sum_by (statement_steps cat at_most) (drop me.next statements) + sum_by (task_steps cat) me.tasks + transaction_steps me.transaction

-- how many steps a state has left at the most
abbrev pub steps_left : Program → State → ℕ
steps_left program st = over_sessions (session_steps program.catalog (rows_at_most program st)) program.sessions st.sessions

-- no schedule that can be run is longer than the number of the first state
abbrev pub RunsAreFinite : Type 0
RunsAreFinite = (program : Program) (schedule : Schedule) → IsSchedule program schedule → length schedule ≤ steps_left program (opening program)
