-- The measure falls with every step of whole runs.
use Rattle.std.proofs.Common.{◌≡◌, ℕ, Bool, true, List, [], ◌∷◌, ◌++◌, refl}
use Rattle.std.specs.Prelude.{◌&&◌, ◌||◌, ◌==◌, nat_lt, replicate}
use Rattle.aq_outcomes.specs.Rows.{row_step, insert_step}
use Rattle.aq_outcomes.specs.Queued.{queued_by, queued_by_statement}
use Rattle.aq_outcomes.specs.References.{child_check, no_action_check, restrict_check, action_targets}
use Rattle.aq_outcomes.specs.Sources.{new_rows, targets}
use Rattle.aq_run.specs.Programs.{Program}
use Rattle.aq_run.specs.States.{State, opening}
use Rattle.aq_run.specs.Effects.{effect}
use Rattle.aq_run.specs.Errors.{error_effects}
use Rattle.aq_run.specs.Steps.{plan_of, effects_of, step}
use Rattle.aq_run.specs.Measure.{Measure, measure}
use Rattle.aq_run.proofs.Worked.{default_without_parent, cascade_waits, two_rows_crosswise, settling_in_the_drain, transition_table_of_cascades, caught_duplicate, modes_and_locks_put_back, levels_without_end}
use Rattle.aq_run.proofs.Told_apart.{default_that_replaces}

abbrev is_less : Measure → Measure → Bool
is_less m n =
    nat_lt m.ahead n.ahead
    || (m.ahead == n.ahead && (nat_lt m.steps n.steps || (m.steps == n.steps && (nat_lt m.tasks n.tasks || (m.tasks == n.tasks && nat_lt m.enabled n.enabled)))))

falls_along : Program → State → List ℕ → Bool
falls_along program st [] = true
falls_along program st (s ∷ schedule) = is_less (measure program (step program st s)) (measure program st) && falls_along program (step program st s) schedule

default_without_parent-falls : falls_along default_without_parent (opening default_without_parent) (replicate 21 0) ≡ true
unfolding default_without_parent falls_along measure step effect effects_of plan_of error_effects row_step insert_step queued_by queued_by_statement child_check no_action_check restrict_check action_targets new_rows targets
default_without_parent-falls = refl

cascade_waits-falls : falls_along cascade_waits (opening cascade_waits) (replicate 13 0 ++ replicate 7 1 ++ replicate 6 0 ++ replicate 3 1 ++ replicate 5 0) ≡ true
unfolding cascade_waits falls_along measure step effect effects_of plan_of error_effects row_step insert_step queued_by queued_by_statement child_check no_action_check restrict_check action_targets new_rows targets
cascade_waits-falls = refl

two_rows_crosswise-falls : falls_along two_rows_crosswise (opening two_rows_crosswise) (replicate 11 0 ++ replicate 5 1 ++ replicate 2 0 ++ replicate 4 1 ++ replicate 6 0) ≡ true
unfolding two_rows_crosswise falls_along measure step effect effects_of plan_of error_effects row_step insert_step queued_by queued_by_statement child_check no_action_check restrict_check action_targets new_rows targets
two_rows_crosswise-falls = refl

settling_in_the_drain-falls : falls_along settling_in_the_drain (opening settling_in_the_drain) (replicate 30 0) ≡ true
unfolding settling_in_the_drain falls_along measure step effect effects_of plan_of error_effects row_step insert_step queued_by queued_by_statement child_check no_action_check restrict_check action_targets new_rows targets
settling_in_the_drain-falls = refl

transition_table_of_cascades-falls : falls_along transition_table_of_cascades (opening transition_table_of_cascades) (replicate 37 0) ≡ true
unfolding transition_table_of_cascades falls_along measure step effect effects_of plan_of error_effects row_step insert_step queued_by queued_by_statement child_check no_action_check restrict_check action_targets new_rows targets
transition_table_of_cascades-falls = refl

levels_without_end-falls : falls_along levels_without_end (opening levels_without_end) (replicate 322 0) ≡ true
unfolding levels_without_end falls_along measure step effect effects_of plan_of error_effects row_step insert_step queued_by queued_by_statement child_check no_action_check restrict_check action_targets new_rows targets
levels_without_end-falls = refl

caught_duplicate-falls : falls_along caught_duplicate (opening caught_duplicate) (replicate 28 0) ≡ true
unfolding caught_duplicate falls_along measure step effect effects_of plan_of error_effects row_step insert_step queued_by queued_by_statement child_check no_action_check restrict_check action_targets new_rows targets
caught_duplicate-falls = refl

modes_and_locks_put_back-falls : falls_along modes_and_locks_put_back (opening modes_and_locks_put_back) (replicate 31 0) ≡ true
unfolding modes_and_locks_put_back falls_along measure step effect effects_of plan_of error_effects row_step insert_step queued_by queued_by_statement child_check no_action_check restrict_check action_targets new_rows targets
modes_and_locks_put_back-falls = refl

-- the end of its action drops a statement event that the round has taken already
default_that_replaces-falls : falls_along default_that_replaces (opening default_that_replaces) (replicate 16 0) ≡ true
unfolding default_that_replaces falls_along measure step effect effects_of plan_of error_effects row_step insert_step queued_by queued_by_statement child_check no_action_check restrict_check action_targets new_rows targets
default_that_replaces-falls = refl
