-- A run as it is printed, with its trace.
use Rattle.std.proofs.Common.{◌≡◌, true, ◌++◌, refl}
use Rattle.std.specs.Prelude.{codes, replicate}
use Rattle.std.specs.Fmt.{digits}
use Rattle.aq_texts.specs.Rows.{line}
use Rattle.aq_outcomes.specs.Rows.{row_step, insert_step}
use Rattle.aq_outcomes.specs.Queued.{queued_by, queued_by_statement}
use Rattle.aq_outcomes.specs.References.{child_check, no_action_check, restrict_check, action_targets}
use Rattle.aq_outcomes.specs.Sources.{new_rows, targets}
use Rattle.aq_run.specs.Effects.{effect}
use Rattle.aq_run.specs.Errors.{error_effects}
use Rattle.aq_run.specs.Steps.{plan_of, effects_of, step}
use Rattle.aq_run.specs.Runs.{run_from}
use Rattle.aq_run.specs.Texts.{text}
use Rattle.aq_run.proofs.Worked.{missing_parent}

missing_parent-text : text missing_parent (replicate 18 0) true
    ≡ line (codes "a.1: INSERT 0 1") ++ line (codes "a.2: INSERT 0 1")
    ++ line (codes "a.3: ERROR 23503 insert or update on table \"c\" violates foreign key constraint \"c_pid_fkey\"")
    ++ line (codes "a.3: DETAIL Key (pid)=(2) is not present in table \"p\".") ++ line (codes "table p (id)") ++ line (codes "(1)")
    ++ line (codes "table c (pid)") ++ line (codes "(1)") ++ line (codes "trace a begin rc") ++ line (codes "trace a open 1")
    ++ line (codes "trace a change p 1 - (1)") ++ line (codes "trace a close 1") ++ line (codes "trace a drain")
    ++ line (codes "trace a commit 1") ++ line (codes "trace a reply 1") ++ line (codes "trace a begin rc") ++ line (codes "trace a open 1")
    ++ line (codes "trace a change c 2 - (1) event 1 \"RI_ConstraintTrigger_c_0000000001\"") ++ line (codes "trace a round")
    ++ line (codes "trace a fire 1") ++ line (codes "trace a done 1 passed") ++ line (codes "trace a close 1")
    ++ line (codes "trace a drain") ++ line (codes "trace a commit 2") ++ line (codes "trace a reply 2") ++ line (codes "trace a begin rc")
    ++ line (codes "trace a open 1") ++ line (codes "trace a change c 3 - (2) event 1 \"RI_ConstraintTrigger_c_0000000001\"")
    ++ line (codes "trace a round") ++ line (codes "trace a fire 1") ++ line (codes "trace a missing (2) 2") ++ line (codes "trace a fail 23503")
    ++ line (codes "trace a abort") ++ line (codes "trace a reply 3") ++ line (codes "trace a end") ++ line (codes "schedule a*18")
unfolding missing_parent run_from step effect effects_of plan_of error_effects row_step insert_step queued_by queued_by_statement child_check no_action_check restrict_check action_targets new_rows targets digits
missing_parent-text = refl
