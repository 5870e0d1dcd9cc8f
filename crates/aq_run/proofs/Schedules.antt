-- Schedules that are refused, and why.
use Rattle.std.proofs.Common.{◌≡◌, [], ◌∷◌, Some, refl}
use Rattle.std.specs.Prelude.{codes}
use Rattle.aq_outcomes.specs.Rows.{row_step, insert_step}
use Rattle.aq_outcomes.specs.Queued.{queued_by, queued_by_statement}
use Rattle.aq_outcomes.specs.References.{child_check, no_action_check, restrict_check, action_targets}
use Rattle.aq_outcomes.specs.Sources.{new_rows, targets}
use Rattle.aq_run.specs.Effects.{effect}
use Rattle.aq_run.specs.Errors.{error_effects}
use Rattle.aq_run.specs.Steps.{plan_of, effects_of, step}
use Rattle.aq_run.specs.Runs.{schedule_refusal}
use Rattle.aq_run.specs.Runs.Refusal.{Unknown, Disabled, Unfinished}
use Rattle.aq_run.proofs.Worked.{held_key, missing_parent}

-- b waits for the key that a holds
waiting_session : schedule_refusal held_key (record { name = codes "a"; count = 3 } ∷ record { name = codes "b"; count = 2 } ∷ record { name = codes "a"; count = 1 } ∷ record { name = codes "b"; count = 1 } ∷ [])
    ≡ Some (Disabled 7 (codes "b"))
unfolding held_key step effect effects_of plan_of error_effects row_step insert_step queued_by queued_by_statement child_check no_action_check restrict_check action_targets new_rows targets
waiting_session = refl

session_left : schedule_refusal held_key (record { name = codes "a"; count = 3 } ∷ record { name = codes "b"; count = 2 } ∷ record { name = codes "a"; count = 5 } ∷ record { name = codes "b"; count = 1 } ∷ [])
    ≡ Some (Unfinished 11 (codes "b"))
unfolding held_key step effect effects_of plan_of error_effects row_step insert_step queued_by queued_by_statement child_check no_action_check restrict_check action_targets new_rows targets
session_left = refl

no_session : schedule_refusal held_key (record { name = codes "z"; count = 1 } ∷ []) ≡ Some (Unknown 1 (codes "z"))
unfolding held_key
no_session = refl

-- more steps than the session has: the first place at which it has ended
long_schedule : schedule_refusal missing_parent (record { name = codes "a"; count = 9223372036854775807 } ∷ []) ≡ Some (Disabled 19 (codes "a"))
unfolding missing_parent step effect effects_of plan_of error_effects row_step insert_step queued_by queued_by_statement child_check no_action_check restrict_check action_targets new_rows targets
long_schedule = refl
