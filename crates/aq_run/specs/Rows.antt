-- Row steps of a statement, of an action and of a locking SELECT, and what comes when no target is left.
use Rattle.std.specs.Prelude.{ℕ, ◌+◌, Bool, false, List, [], ◌∷◌, ◌++◌, length, Option, Some, None, Result, Ok, Err, nat_le, nat_lt, true}
use Rattle.aq_base.specs.Values.{Row}
use Rattle.aq_base.specs.Limits.{change_limit, event_limit}
use Rattle.aq_base.specs.Writes.{has_written}
use Rattle.aq_base.specs.Statements.{Change_of_rows, Select, table_of, set_columns}
use Rattle.aq_base.specs.Statements.Change_of_rows.{Inserts, Updates, Deletes}
use Rattle.aq_base.specs.declared.data.LockMode.{LockMode}
use Rattle.aq_base.specs.declared.script.Kind.{Kind as Value_kind}
use Rattle.aq_base.specs.declared.catalog.Op.{Op}
use Rattle.aq_base.specs.declared.catalog.Op.TheVariants as ops
use Rattle.aq_expr.specs.Evaluation.{Surroundings, nothing_around}
use Rattle.aq_outcomes.specs.Schemas.{Schema, columns}
use Rattle.aq_outcomes.specs.Parties.{Around, Party}
use Rattle.aq_outcomes.specs.Rows.{Change, Outcome, Wish, row_step, insert_step}
use Rattle.aq_outcomes.specs.Rows.Outcome.{Done, Locked, Passed_over, Waits, Faulty}
use Rattle.aq_outcomes.specs.Rows.Wish.{To_delete, To_update, To_lock}
use Rattle.aq_outcomes.specs.Queued.{queued_by, queued_by_statement, condition_holds}
use Rattle.aq_outcomes.specs.Sources.{new_version, on_row, shown}
use Rattle.aq_outcomes.specs.Faults.{out_of_range, too_many_changes, too_many_events}
use Rattle.aq_run.specs.States.{Target, Place, Task, Block_state, Transaction}
use Rattle.aq_run.specs.States.Target.{New_row, Old_row}
use Rattle.aq_run.specs.States.Task.{Changing, Locking, Rounds}
use Rattle.aq_run.specs.States.Block_state.{Idle, Open, Failed}
use Rattle.aq_run.specs.Effects.{Effect}
use Rattle.aq_run.specs.Effects.Effect.{Turns, Ends_task, Locks, Changes, Queues, Aborts, Replies}
use Rattle.aq_run.specs.Replies.{shown_rows}
use Rattle.aq_run.specs.Plans.{Plan, refused}
use Rattle.aq_run.specs.Plans.Plan.{Does_all, Would_wait}

-- ---- a change with its events: the limit on changes, the conditions of the triggers, the limit on events

abbrev pub has_room : Transaction → List ℕ → Bool
has_room t triggers = nat_le (t.events + length triggers) event_limit

abbrev pub with_room : Bool → Plan → Plan
with_room true plan = plan
with_room false plan = refused [] too_many_events

abbrev pub on_triggers : Transaction → (List ℕ → List Effect) → Result (List ℕ) Value_kind → Plan
on_triggers t effects (Err kind) = refused [] (out_of_range kind)
on_triggers t effects (Ok triggers) = with_room (has_room t triggers) (Does_all (effects triggers))

-- the transaction had written the row before
abbrev pub wrote_old : Transaction → Change → Bool
wrote_old t change = written_before t change.row
  where
    written_before : Transaction → Option ℕ → Bool
    written_before t None = false
    written_before t (Some row) = has_written row t.work.writes

abbrev pub within_changes : Bool → Plan → Plan
within_changes true plan = plan
within_changes false plan = refused [] too_many_changes

abbrev pub changing : Schema → Transaction → List ℕ → Change → Option LockMode → Task → Plan
changing schema t set change lock next =
    within_changes (nat_lt t.changes change_limit)
    (on_triggers t (λ triggers. Changes change lock triggers ∷ Turns next ∷ []) (queued_by schema change set (wrote_old t change)))

-- the task as it goes on where the row was changed, where it was locked, and where it was passed over
abbrev pub on_outcome : Schema → Transaction → List ℕ → Task → (Row → Task) → Task → Outcome → Plan
on_outcome schema t set changed locked passed (Done change lock) = changing schema t set change lock changed
on_outcome schema t set changed locked passed (Locked mode values) = Does_all (Turns (locked values) ∷ [])
on_outcome schema t set changed locked passed Passed_over = Does_all (Turns passed ∷ [])
on_outcome schema t set changed locked passed (Waits ask) = Would_wait ask
on_outcome schema t set changed locked passed (Faulty fault) = refused [] fault

-- ---- a target of a statement

-- what a statement does with a row that is there, and for which rows
abbrev pub wish_of : Schema → Surroundings → Change_of_rows → Wish
wish_of schema around (Inserts s) = To_delete
wish_of schema around (Updates s) = To_update (new_version around (columns schema s.table) s.assignments)
wish_of schema around (Deletes s) = To_delete

abbrev pub test_of : Surroundings → Change_of_rows → Row → Result Bool Value_kind
test_of around (Inserts s) row = Ok false
test_of around (Updates s) row = condition_holds (on_row around row) s.condition
test_of around (Deletes s) row = condition_holds (on_row around row) s.condition

abbrev pub target_outcome : Schema → Around → Party → Surroundings → Change_of_rows → Target → Outcome
target_outcome schema others me around change (New_row values) = insert_step schema others me (table_of change) values
target_outcome schema others me around change (Old_row row) =
    row_step schema others me (table_of change) (wish_of schema around change) (test_of around change) row

-- ---- no target is left: the statement events, and then the rounds

abbrev pub op_of : Change_of_rows → Op
op_of (Inserts s) = ops.Insert
op_of (Updates s) = ops.Update
op_of (Deletes s) = ops.Delete

abbrev pub end_plan : Schema → Transaction → Place → Change_of_rows → ℕ → Plan
end_plan schema t place change done =
    on_triggers t (λ triggers. Queues (table_of change) (op_of change) triggers ∷ Turns (Rounds place done) ∷ [])
    (queued_by_statement schema (table_of change) (op_of change) (set_columns change))

abbrev pub changing_plan : Schema → Around → Party → Transaction → Surroundings → Change_of_rows → Place → List Target → ℕ → Plan
changing_plan schema others me t around change place [] done = end_plan schema t place change done
changing_plan schema others me t around change place (target ∷ left) done =
    on_outcome schema t (set_columns change) (Changing place left (done + 1)) (λ values. Changing place left done) (Changing place left done)
    (target_outcome schema others me around change target)

-- ---- a locking SELECT. Outside a block its transaction ends with it, without a commit.

abbrev pub on_locked : ℕ → Select → List ℕ → List Row → Outcome → Plan
on_locked row s left found (Done change lock) = Does_all (Turns (Locking left found) ∷ [])
on_locked row s left found (Locked mode values) = Does_all (Locks row mode ∷ Turns (Locking left (found ++ shown s.columns values ∷ [])) ∷ [])
on_locked row s left found Passed_over = Does_all (Turns (Locking left found) ∷ [])
on_locked row s left found (Waits ask) = Would_wait ask
on_locked row s left found (Faulty fault) = refused [] fault

abbrev pub locked_plan : Block_state → List Row → Plan
locked_plan Idle found = Does_all (Aborts ∷ Replies (shown_rows found) ∷ [])
locked_plan Open found = Does_all (Ends_task ∷ Replies (shown_rows found) ∷ [])
locked_plan Failed found = Does_all (Ends_task ∷ Replies (shown_rows found) ∷ [])

abbrev pub select_test : Select → Row → Result Bool Value_kind
select_test s row = condition_holds (on_row nothing_around row) s.condition

abbrev pub locking_plan : Schema → Around → Party → Block_state → Select → LockMode → List ℕ → List Row → Plan
locking_plan schema others me block s mode [] found = locked_plan block found
locking_plan schema others me block s mode (row ∷ left) found =
    on_locked row s left found (row_step schema others me s.table (To_lock mode) (select_test s) row)
