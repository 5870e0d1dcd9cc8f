-- What the traces of whole runs tell, computed on the definitions: the databases of the run, and the events that had to fire.
use Rattle.std.proofs.Common.{◌≡◌, List, [], ◌∷◌, Option, Some, refl, sym, ◌∙◌}
use Rattle.std.specs.Prelude.{ℕ, map, drop, replicate, pos}
use Rattle.aq_base.specs.Databases.{Stored, History}
use Rattle.aq_base.specs.declared.value.Value.TheVariants as values
use Rattle.aq_outcomes.specs.Rows.{row_step, insert_step}
use Rattle.aq_outcomes.specs.Queued.{queued_by, queued_by_statement}
use Rattle.aq_outcomes.specs.References.{child_check, no_action_check, restrict_check, action_targets}
use Rattle.aq_outcomes.specs.Sources.{new_rows, targets}
use Rattle.aq_run.specs.Programs.{Program}
use Rattle.aq_run.specs.States.{State}
use Rattle.aq_run.specs.Effects.{effect}
use Rattle.aq_run.specs.Errors.{error_effects}
use Rattle.aq_run.specs.Steps.{plan_of, effects_of, step}
use Rattle.aq_run.specs.Runs.{run_from, run}
use Rattle.aq_run.proofs.Worked.{settling_in_the_drain, check_waits_again, caught_duplicate, modes_and_locks_put_back}
use Rattle.aq_lines.specs.Surviving.{surviving}
use Rattle.aq_lines.specs.Transactions.{committed_transactions}
use Rattle.aq_lines.specs.Committed.{committed}
use Rattle.aq_lines.specs.Due.{due}
use Rattle.aq_lines.specs.Firing.{fired}

-- what the trace of a run says was due, for each transaction that was committed
abbrev all_due : Program → State → List (Option (List ℕ))
all_due program st = map (due program.schema.catalog) (committed_transactions st.world.trace)

-- and what fired
abbrev all_fired : State → List (List ℕ)
all_fired st = map fired (committed_transactions st.world.trace)

-- a row with one whole number, as a commit stored it
abbrev stored : ℕ → ℕ → ℕ → Stored
stored table n commit = record { table = table; values = values.Int (pos n) ∷ []; commit = commit }

-- A body sets its constraints to immediate in the drain: what the drain has taken into its round fires there, and nowhere else.
settling_in_the_drain-end : State
unfolding settling_in_the_drain run_from step effect effects_of plan_of error_effects row_step insert_step queued_by queued_by_statement child_check no_action_check restrict_check action_targets new_rows targets
settling_in_the_drain-end = run settling_in_the_drain (replicate 30 0)

abbrev settling_in_the_drain-databases : History
settling_in_the_drain-databases = [] ∷ ((1, stored 0 1 1) ∷ (2, stored 0 2 1) ∷ (3, stored 1 1 1) ∷ (4, stored 1 2 1) ∷ []) ∷ []

settling_in_the_drain-history : settling_in_the_drain-end.world.history ≡ settling_in_the_drain-databases
unfolding settling_in_the_drain settling_in_the_drain-end run_from step effect effects_of plan_of error_effects row_step insert_step queued_by queued_by_statement child_check no_action_check restrict_check action_targets new_rows targets
settling_in_the_drain-history = refl

settling_in_the_drain-told : committed settling_in_the_drain.schema.catalog settling_in_the_drain-end.world.trace ≡ settling_in_the_drain-databases
unfolding settling_in_the_drain settling_in_the_drain-end run_from step effect effects_of plan_of error_effects row_step insert_step queued_by queued_by_statement child_check no_action_check restrict_check action_targets new_rows targets
settling_in_the_drain-told = refl

settling_in_the_drain-committed : committed settling_in_the_drain.schema.catalog settling_in_the_drain-end.world.trace ≡ settling_in_the_drain-end.world.history
settling_in_the_drain-committed = settling_in_the_drain-told ∙ sym settling_in_the_drain-history

settling_in_the_drain-due : all_due settling_in_the_drain settling_in_the_drain-end ≡ Some (1 ∷ 2 ∷ 3 ∷ 4 ∷ []) ∷ []
unfolding settling_in_the_drain settling_in_the_drain-end run_from step effect effects_of plan_of error_effects row_step insert_step queued_by queued_by_statement child_check no_action_check restrict_check action_targets new_rows targets
settling_in_the_drain-due = refl

settling_in_the_drain-fired : all_fired settling_in_the_drain-end ≡ (1 ∷ 2 ∷ 3 ∷ 4 ∷ []) ∷ []
unfolding settling_in_the_drain settling_in_the_drain-end run_from step effect effects_of plan_of error_effects row_step insert_step queued_by queued_by_statement child_check no_action_check restrict_check action_targets new_rows targets
settling_in_the_drain-fired = refl

-- A return to a savepoint takes out the check that has fired since: it waits again.
check_waits_again-end : State
unfolding check_waits_again run_from step effect effects_of plan_of error_effects row_step insert_step queued_by queued_by_statement child_check no_action_check restrict_check action_targets new_rows targets
check_waits_again-end = run check_waits_again (replicate 24 0)

abbrev check_waits_again-databases : History
check_waits_again-databases = [] ∷ ((1, stored 0 1 1) ∷ []) ∷ []

check_waits_again-history : check_waits_again-end.world.history ≡ check_waits_again-databases
unfolding check_waits_again check_waits_again-end run_from step effect effects_of plan_of error_effects row_step insert_step queued_by queued_by_statement child_check no_action_check restrict_check action_targets new_rows targets
check_waits_again-history = refl

check_waits_again-told : committed check_waits_again.schema.catalog check_waits_again-end.world.trace ≡ check_waits_again-databases
unfolding check_waits_again check_waits_again-end run_from step effect effects_of plan_of error_effects row_step insert_step queued_by queued_by_statement child_check no_action_check restrict_check action_targets new_rows targets
check_waits_again-told = refl

check_waits_again-committed : committed check_waits_again.schema.catalog check_waits_again-end.world.trace ≡ check_waits_again-end.world.history
check_waits_again-committed = check_waits_again-told ∙ sym check_waits_again-history

check_waits_again-due : all_due check_waits_again check_waits_again-end ≡ Some [] ∷ []
unfolding check_waits_again check_waits_again-end run_from step effect effects_of plan_of error_effects row_step insert_step queued_by queued_by_statement child_check no_action_check restrict_check action_targets new_rows targets
check_waits_again-due = refl

check_waits_again-fired : all_fired check_waits_again-end ≡ [] ∷ []
unfolding check_waits_again check_waits_again-end run_from step effect effects_of plan_of error_effects row_step insert_step queued_by queued_by_statement child_check no_action_check restrict_check action_targets new_rows targets
check_waits_again-fired = refl

-- its second transaction, which was dropped in the drain: the check had to fire again
check_waits_again-due_again : due check_waits_again.schema.catalog (surviving (drop 7 check_waits_again-end.world.trace)) ≡ Some (1 ∷ [])
unfolding check_waits_again check_waits_again-end run_from step effect effects_of plan_of error_effects row_step insert_step queued_by queued_by_statement child_check no_action_check restrict_check action_targets new_rows targets
check_waits_again-due_again = refl

check_waits_again-fired_again : fired (surviving (drop 7 check_waits_again-end.world.trace)) ≡ 1 ∷ []
unfolding check_waits_again check_waits_again-end run_from step effect effects_of plan_of error_effects row_step insert_step queued_by queued_by_statement child_check no_action_check restrict_check action_targets new_rows targets
check_waits_again-fired_again = refl

-- A block catches an error: the level that its statement had opened is told no more, and the event of the body is done.
caught_duplicate-end : State
unfolding caught_duplicate run_from step effect effects_of plan_of error_effects row_step insert_step queued_by queued_by_statement child_check no_action_check restrict_check action_targets new_rows targets
caught_duplicate-end = run caught_duplicate (replicate 28 0)

abbrev caught_duplicate-databases : History
caught_duplicate-databases = [] ∷ ((1, stored 0 1 1) ∷ (2, stored 0 1 1) ∷ (3, stored 0 2 1) ∷ (4, stored 1 1 1) ∷ (5, stored 1 2 1) ∷ []) ∷ []

caught_duplicate-history : caught_duplicate-end.world.history ≡ caught_duplicate-databases
unfolding caught_duplicate caught_duplicate-end run_from step effect effects_of plan_of error_effects row_step insert_step queued_by queued_by_statement child_check no_action_check restrict_check action_targets new_rows targets
caught_duplicate-history = refl

caught_duplicate-told : committed caught_duplicate.schema.catalog caught_duplicate-end.world.trace ≡ caught_duplicate-databases
unfolding caught_duplicate caught_duplicate-end run_from step effect effects_of plan_of error_effects row_step insert_step queued_by queued_by_statement child_check no_action_check restrict_check action_targets new_rows targets
caught_duplicate-told = refl

caught_duplicate-committed : committed caught_duplicate.schema.catalog caught_duplicate-end.world.trace ≡ caught_duplicate-end.world.history
caught_duplicate-committed = caught_duplicate-told ∙ sym caught_duplicate-history

caught_duplicate-due : all_due caught_duplicate caught_duplicate-end ≡ Some (1 ∷ 2 ∷ 3 ∷ []) ∷ []
unfolding caught_duplicate caught_duplicate-end run_from step effect effects_of plan_of error_effects row_step insert_step queued_by queued_by_statement child_check no_action_check restrict_check action_targets new_rows targets
caught_duplicate-due = refl

caught_duplicate-fired : all_fired caught_duplicate-end ≡ (1 ∷ 2 ∷ 3 ∷ []) ∷ []
unfolding caught_duplicate caught_duplicate-end run_from step effect effects_of plan_of error_effects row_step insert_step queued_by queued_by_statement child_check no_action_check restrict_check action_targets new_rows targets
caught_duplicate-fired = refl

-- A block catches an error behind a SET CONSTRAINTS: the check that has fired in it waits again, and its mode is deferred.
modes_and_locks_put_back-end : State
unfolding modes_and_locks_put_back run_from step effect effects_of plan_of error_effects row_step insert_step queued_by queued_by_statement child_check no_action_check restrict_check action_targets new_rows targets
modes_and_locks_put_back-end = run modes_and_locks_put_back (replicate 31 0)

abbrev modes_and_locks_put_back-databases : History
modes_and_locks_put_back-databases = [] ∷ ((1, stored 0 1 1) ∷ []) ∷ []

modes_and_locks_put_back-history : modes_and_locks_put_back-end.world.history ≡ modes_and_locks_put_back-databases
unfolding modes_and_locks_put_back modes_and_locks_put_back-end run_from step effect effects_of plan_of error_effects row_step insert_step queued_by queued_by_statement child_check no_action_check restrict_check action_targets new_rows targets
modes_and_locks_put_back-history = refl

modes_and_locks_put_back-told : committed modes_and_locks_put_back.schema.catalog modes_and_locks_put_back-end.world.trace ≡ modes_and_locks_put_back-databases
unfolding modes_and_locks_put_back modes_and_locks_put_back-end run_from step effect effects_of plan_of error_effects row_step insert_step queued_by queued_by_statement child_check no_action_check restrict_check action_targets new_rows targets
modes_and_locks_put_back-told = refl

modes_and_locks_put_back-committed : committed modes_and_locks_put_back.schema.catalog modes_and_locks_put_back-end.world.trace ≡ modes_and_locks_put_back-end.world.history
modes_and_locks_put_back-committed = modes_and_locks_put_back-told ∙ sym modes_and_locks_put_back-history

modes_and_locks_put_back-due : all_due modes_and_locks_put_back modes_and_locks_put_back-end ≡ Some [] ∷ []
unfolding modes_and_locks_put_back modes_and_locks_put_back-end run_from step effect effects_of plan_of error_effects row_step insert_step queued_by queued_by_statement child_check no_action_check restrict_check action_targets new_rows targets
modes_and_locks_put_back-due = refl

modes_and_locks_put_back-fired : all_fired modes_and_locks_put_back-end ≡ [] ∷ []
unfolding modes_and_locks_put_back modes_and_locks_put_back-end run_from step effect effects_of plan_of error_effects row_step insert_step queued_by queued_by_statement child_check no_action_check restrict_check action_targets new_rows targets
modes_and_locks_put_back-fired = refl

-- its second transaction, which was dropped in the drain
modes_and_locks_put_back-due_again : due modes_and_locks_put_back.schema.catalog (surviving (drop 7 modes_and_locks_put_back-end.world.trace)) ≡ Some (2 ∷ 1 ∷ [])
unfolding modes_and_locks_put_back modes_and_locks_put_back-end run_from step effect effects_of plan_of error_effects row_step insert_step queued_by queued_by_statement child_check no_action_check restrict_check action_targets new_rows targets
modes_and_locks_put_back-due_again = refl

modes_and_locks_put_back-fired_again : fired (surviving (drop 7 modes_and_locks_put_back-end.world.trace)) ≡ 2 ∷ 1 ∷ []
unfolding modes_and_locks_put_back modes_and_locks_put_back-end run_from step effect effects_of plan_of error_effects row_step insert_step queued_by queued_by_statement child_check no_action_check restrict_check action_targets new_rows targets
modes_and_locks_put_back-fired_again = refl
