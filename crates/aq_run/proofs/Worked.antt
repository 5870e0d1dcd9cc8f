-- Whole runs, computed on the definitions: each script with its replies, its tables, its number of steps and, where it is told, its trace.
use Rattle.std.proofs.Common.{◌≡◌, true, false, [], ◌∷◌, ◌++◌, Some, None, refl}
use Rattle.std.specs.Prelude.{codes, pos, replicate}
use Rattle.std.specs.Fmt.{digits}
use Rattle.aq_base.specs.Terms.Term.{Constant, Column, New, Binary}
use Rattle.aq_base.specs.Statements.Given.{Value_of}
use Rattle.aq_base.specs.Statements.Source.{Values, Query}
use Rattle.aq_base.specs.Statements.Change_of_rows.{Inserts, Updates, Deletes}
use Rattle.aq_base.specs.Statements.Statement.{Changes_rows, Selects, Sets_constraints, Begins, Commits, Rolls_back, Makes_savepoint, Releases_savepoint, Rolls_back_to}
use Rattle.aq_base.specs.Codes.{joined, block_code}
use Rattle.aq_base.specs.Codes.Instruction.{Raises, Returns, Changes, Sets}
use Rattle.aq_base.specs.Rules.Rule.{AtMost, Both, Same, Rises}
use Rattle.aq_base.specs.declared.body.Condition.TheVariants as conditions
use Rattle.aq_base.specs.declared.value.Value.TheVariants as values
use Rattle.aq_base.specs.declared.script.Kind.TheVariants as kinds
use Rattle.aq_base.specs.declared.data.LockMode.TheVariants as lock_modes
use Rattle.aq_base.specs.declared.expr.BinaryOperator.TheVariants.{Add, Compare}
use Rattle.aq_base.specs.declared.expr.Comparison.TheVariants as comparisons
use Rattle.aq_base.specs.declared.bound_data.BoundFrom.TheVariants as tables
use Rattle.aq_base.specs.declared.bound_statement.BoundConstraints.TheVariants.{All as All_of_them}
use Rattle.aq_base.specs.declared.modes.Constraints.TheVariants as constrained
use Rattle.aq_base.specs.declared.modes.ConstraintMode.TheVariants as modes
use Rattle.aq_base.specs.declared.statement.Isolation.TheVariants as isolations
use Rattle.aq_base.specs.declared.constraint.Action.TheVariants as actions
use Rattle.aq_base.specs.declared.catalog.Op.TheVariants as ops
use Rattle.aq_base.specs.declared.catalog.Does.TheVariants.{Check, Parent, Body, Native}
use Rattle.aq_base.specs.declared.trigger.Each.TheVariants as each
use Rattle.aq_base.specs.declared.reply.ReplyLine.TheVariants as replies
use Rattle.aq_base.specs.declared.trace.TraceLine.TheVariants as traces
use Rattle.aq_base.specs.declared.trace.Ending.TheVariants as endings
use Rattle.aq_base.specs.declared.trace.ModeOf.TheVariants as mode_of
use Rattle.aq_outcomes.specs.Faults.{refusal}
use Rattle.aq_outcomes.specs.Rows.{row_step, insert_step}
use Rattle.aq_outcomes.specs.Queued.{queued_by, queued_by_statement}
use Rattle.aq_outcomes.specs.References.{child_check, no_action_check, restrict_check, action_targets}
use Rattle.aq_outcomes.specs.Sources.{new_rows, targets}
use Rattle.aq_run.specs.Programs.{Program}
use Rattle.aq_run.specs.Programs.Prepared.{Ready, Refused}
use Rattle.aq_run.specs.Programs.Form.{On_rows}
use Rattle.aq_run.specs.States.{State}
use Rattle.aq_run.specs.Effects.{effect}
use Rattle.aq_run.specs.Errors.{error_effects}
use Rattle.aq_run.specs.Steps.{plan_of, effects_of, step}
use Rattle.aq_run.specs.Runs.{run_from, run, have_all_ended}
use Rattle.aq_run.proofs.Tables.{final_tables}

--
unfoldable pub no_script : Program
no_script =
    record {
      schema = record {
        catalog = record {
          tables = [];
          keys = [];
          primaries = ([]);
          fks = [];
          constraints = [];
          functions = [];
          triggers = [];
        };
        conditions = [];
        codes = [];
        rules = [];
      };
      names = [];
      statements = [];
    }

no_script-end : State
unfolding no_script run_from step effect effects_of plan_of error_effects row_step insert_step queued_by queued_by_statement child_check no_action_check restrict_check action_targets new_rows targets
no_script-end = run no_script ([])

no_script-ended : have_all_ended no_script-end ≡ true
unfolding no_script-end run_from step effect effects_of plan_of error_effects row_step insert_step queued_by queued_by_statement child_check no_action_check restrict_check action_targets new_rows targets
no_script-ended = refl

no_script-replies : no_script-end.world.replies ≡ []
unfolding no_script-end run_from step effect effects_of plan_of error_effects row_step insert_step queued_by queued_by_statement child_check no_action_check restrict_check action_targets new_rows targets digits
no_script-replies = refl

no_script-tables : final_tables no_script no_script-end ≡ []
unfolding no_script no_script-end run_from step effect effects_of plan_of error_effects row_step insert_step queued_by queued_by_statement child_check no_action_check restrict_check action_targets new_rows targets
no_script-tables = refl

-- \setup
-- CREATE TABLE p (id integer PRIMARY KEY);CREATE TABLE c (pid integer REFERENCES p );
-- \session a
-- INSERT INTO p VALUES (1); INSERT INTO c VALUES (1); INSERT INTO c VALUES (2);
unfoldable pub missing_parent : Program
missing_parent =
    record {
      schema = record {
        catalog = record {
          tables = (record { name = codes "p"; cols = (record { name = codes "id"; kind = kinds.Integer; default = values.Null } ∷ []); not_null = (0 ∷ []) } ∷ record { name = codes "c"; cols = (record { name = codes "pid"; kind = kinds.Integer; default = values.Null } ∷ []); not_null = [] } ∷ []);
          keys = (record { name = codes "p_pkey"; table = 0; cols = (0 ∷ []) } ∷ []);
          primaries = (0 ∷ []);
          fks = (record { name = codes "c_pid_fkey"; child = 1; child_cols = (0 ∷ []); parent = 0; parent_cols = (0 ∷ []); full = false; on_delete = actions.NoAction; on_update = actions.NoAction; con = 1; set_cols = (0 ∷ []) } ∷ []);
          constraints = (record { name = codes "p_pkey"; table = 0; decl = record { deferrable = false; deferred = false } } ∷ record { name = codes "c_pid_fkey"; table = 1; decl = record { deferrable = false; deferred = false } } ∷ []);
          functions = [];
          triggers = (record { name = codes "RI_ConstraintTrigger_a_0000000001"; table = 0; ops = (ops.Delete ∷ []); cols = ([]); level = each.Row; condition = None; con = (Some 1); does = Parent 0; old_table = None; new_table = None } ∷ record { name = codes "RI_ConstraintTrigger_a_0000000001"; table = 0; ops = (ops.Update ∷ []); cols = ([]); level = each.Row; condition = None; con = (Some 1); does = Parent 0; old_table = None; new_table = None } ∷ record { name = codes "RI_ConstraintTrigger_c_0000000001"; table = 1; ops = (ops.Insert ∷ ops.Update ∷ []); cols = ([]); level = each.Row; condition = None; con = (Some 1); does = Check 0; old_table = None; new_table = None } ∷ []);
        };
        conditions = (None ∷ None ∷ None ∷ []);
        codes = ([] ∷ [] ∷ [] ∷ []);
        rules = [];
      };
      names = (codes "a" ∷ []);
      statements = (((Ready (Changes_rows (Inserts (record { table = 0; columns = None; source = Values (((Value_of (Constant (values.Int (pos 1)))) ∷ []) ∷ []) })))) ∷ (Ready (Changes_rows (Inserts (record { table = 1; columns = None; source = Values (((Value_of (Constant (values.Int (pos 1)))) ∷ []) ∷ []) })))) ∷ (Ready (Changes_rows (Inserts (record { table = 1; columns = None; source = Values (((Value_of (Constant (values.Int (pos 2)))) ∷ []) ∷ []) })))) ∷ []) ∷ []);
    }

missing_parent-end : State
unfolding missing_parent run_from step effect effects_of plan_of error_effects row_step insert_step queued_by queued_by_statement child_check no_action_check restrict_check action_targets new_rows targets
missing_parent-end = run missing_parent (replicate 18 0)

missing_parent-ended : have_all_ended missing_parent-end ≡ true
unfolding missing_parent-end run_from step effect effects_of plan_of error_effects row_step insert_step queued_by queued_by_statement child_check no_action_check restrict_check action_targets new_rows targets
missing_parent-ended = refl

missing_parent-not_before : have_all_ended (run missing_parent (replicate 17 0)) ≡ false
unfolding missing_parent run_from step effect effects_of plan_of error_effects row_step insert_step queued_by queued_by_statement child_check no_action_check restrict_check action_targets new_rows targets
missing_parent-not_before = refl

missing_parent-replies : missing_parent-end.world.replies ≡ (record { session = 0; statement = 1; line = replies.Tag (codes "INSERT 0 1") } ∷ record { session = 0; statement = 2; line = replies.Tag (codes "INSERT 0 1") } ∷ record { session = 0; statement = 3; line = replies.Error (record { 0 = codes "23503" }) (codes "insert or update on table \"c\" violates foreign key constraint \"c_pid_fkey\"") } ∷ record { session = 0; statement = 3; line = replies.Detail (codes "Key (pid)=(2) is not present in table \"p\".") } ∷ [])
unfolding missing_parent-end run_from step effect effects_of plan_of error_effects row_step insert_step queued_by queued_by_statement child_check no_action_check restrict_check action_targets new_rows targets digits
missing_parent-replies = refl

missing_parent-tables : final_tables missing_parent missing_parent-end ≡ ((((values.Int (pos 1)) ∷ []) ∷ []) ∷ (((values.Int (pos 1)) ∷ []) ∷ []) ∷ [])
unfolding missing_parent missing_parent-end run_from step effect effects_of plan_of error_effects row_step insert_step queued_by queued_by_statement child_check no_action_check restrict_check action_targets new_rows targets
missing_parent-tables = refl

-- \setup
-- CREATE TABLE node (id integer PRIMARY KEY, up integer REFERENCES node);
-- \session a
-- INSERT INTO node VALUES (1, NULL), (2, 1); DELETE FROM node;
unfoldable pub tree : Program
tree =
    record {
      schema = record {
        catalog = record {
          tables = (record { name = codes "node"; cols = (record { name = codes "id"; kind = kinds.Integer; default = values.Null } ∷ record { name = codes "up"; kind = kinds.Integer; default = values.Null } ∷ []); not_null = (0 ∷ []) } ∷ []);
          keys = (record { name = codes "node_pkey"; table = 0; cols = (0 ∷ []) } ∷ []);
          primaries = (0 ∷ []);
          fks = (record { name = codes "node_up_fkey"; child = 0; child_cols = (1 ∷ []); parent = 0; parent_cols = (0 ∷ []); full = false; on_delete = actions.NoAction; on_update = actions.NoAction; con = 1; set_cols = (1 ∷ []) } ∷ []);
          constraints = (record { name = codes "node_pkey"; table = 0; decl = record { deferrable = false; deferred = false } } ∷ record { name = codes "node_up_fkey"; table = 0; decl = record { deferrable = false; deferred = false } } ∷ []);
          functions = [];
          triggers = (record { name = codes "RI_ConstraintTrigger_a_0000000001"; table = 0; ops = (ops.Delete ∷ []); cols = ([]); level = each.Row; condition = None; con = (Some 1); does = Parent 0; old_table = None; new_table = None } ∷ record { name = codes "RI_ConstraintTrigger_a_0000000001"; table = 0; ops = (ops.Update ∷ []); cols = ([]); level = each.Row; condition = None; con = (Some 1); does = Parent 0; old_table = None; new_table = None } ∷ record { name = codes "RI_ConstraintTrigger_c_0000000001"; table = 0; ops = (ops.Insert ∷ ops.Update ∷ []); cols = ([]); level = each.Row; condition = None; con = (Some 1); does = Check 0; old_table = None; new_table = None } ∷ []);
        };
        conditions = (None ∷ None ∷ None ∷ []);
        codes = ([] ∷ [] ∷ [] ∷ []);
        rules = [];
      };
      names = (codes "a" ∷ []);
      statements = (((Ready (Changes_rows (Inserts (record { table = 0; columns = None; source = Values (((Value_of (Constant (values.Int (pos 1)))) ∷ (Value_of (Constant values.Null)) ∷ []) ∷ ((Value_of (Constant (values.Int (pos 2)))) ∷ (Value_of (Constant (values.Int (pos 1)))) ∷ []) ∷ []) })))) ∷ (Ready (Changes_rows (Deletes (record { table = 0; condition = None })))) ∷ []) ∷ []);
    }

tree-end : State
unfolding tree run_from step effect effects_of plan_of error_effects row_step insert_step queued_by queued_by_statement child_check no_action_check restrict_check action_targets new_rows targets
tree-end = run tree (replicate 19 0)

tree-ended : have_all_ended tree-end ≡ true
unfolding tree-end run_from step effect effects_of plan_of error_effects row_step insert_step queued_by queued_by_statement child_check no_action_check restrict_check action_targets new_rows targets
tree-ended = refl

tree-not_before : have_all_ended (run tree (replicate 18 0)) ≡ false
unfolding tree run_from step effect effects_of plan_of error_effects row_step insert_step queued_by queued_by_statement child_check no_action_check restrict_check action_targets new_rows targets
tree-not_before = refl

tree-replies : tree-end.world.replies ≡ (record { session = 0; statement = 1; line = replies.Tag (codes "INSERT 0 2") } ∷ record { session = 0; statement = 2; line = replies.Tag (codes "DELETE 2") } ∷ [])
unfolding tree-end run_from step effect effects_of plan_of error_effects row_step insert_step queued_by queued_by_statement child_check no_action_check restrict_check action_targets new_rows targets digits
tree-replies = refl

tree-tables : final_tables tree tree-end ≡ ([] ∷ [])
unfolding tree tree-end run_from step effect effects_of plan_of error_effects row_step insert_step queued_by queued_by_statement child_check no_action_check restrict_check action_targets new_rows targets
tree-tables = refl

-- \setup
-- CREATE TABLE p (id integer PRIMARY KEY);CREATE TABLE c (pid integer REFERENCES p DEFERRABLE INITIALLY DEFERRED);
-- \session a
-- BEGIN; INSERT INTO c VALUES (1); INSERT INTO p VALUES (1); COMMIT; BEGIN; INSERT INTO c VALUES (9); COMMIT;
unfoldable pub late_parent : Program
late_parent =
    record {
      schema = record {
        catalog = record {
          tables = (record { name = codes "p"; cols = (record { name = codes "id"; kind = kinds.Integer; default = values.Null } ∷ []); not_null = (0 ∷ []) } ∷ record { name = codes "c"; cols = (record { name = codes "pid"; kind = kinds.Integer; default = values.Null } ∷ []); not_null = [] } ∷ []);
          keys = (record { name = codes "p_pkey"; table = 0; cols = (0 ∷ []) } ∷ []);
          primaries = (0 ∷ []);
          fks = (record { name = codes "c_pid_fkey"; child = 1; child_cols = (0 ∷ []); parent = 0; parent_cols = (0 ∷ []); full = false; on_delete = actions.NoAction; on_update = actions.NoAction; con = 1; set_cols = (0 ∷ []) } ∷ []);
          constraints = (record { name = codes "p_pkey"; table = 0; decl = record { deferrable = false; deferred = false } } ∷ record { name = codes "c_pid_fkey"; table = 1; decl = record { deferrable = true; deferred = true } } ∷ []);
          functions = [];
          triggers = (record { name = codes "RI_ConstraintTrigger_a_0000000001"; table = 0; ops = (ops.Delete ∷ []); cols = ([]); level = each.Row; condition = None; con = (Some 1); does = Parent 0; old_table = None; new_table = None } ∷ record { name = codes "RI_ConstraintTrigger_a_0000000001"; table = 0; ops = (ops.Update ∷ []); cols = ([]); level = each.Row; condition = None; con = (Some 1); does = Parent 0; old_table = None; new_table = None } ∷ record { name = codes "RI_ConstraintTrigger_c_0000000001"; table = 1; ops = (ops.Insert ∷ ops.Update ∷ []); cols = ([]); level = each.Row; condition = None; con = (Some 1); does = Check 0; old_table = None; new_table = None } ∷ []);
        };
        conditions = (None ∷ None ∷ None ∷ []);
        codes = ([] ∷ [] ∷ [] ∷ []);
        rules = [];
      };
      names = (codes "a" ∷ []);
      statements = (((Ready (Begins isolations.ReadCommitted)) ∷ (Ready (Changes_rows (Inserts (record { table = 1; columns = None; source = Values (((Value_of (Constant (values.Int (pos 1)))) ∷ []) ∷ []) })))) ∷ (Ready (Changes_rows (Inserts (record { table = 0; columns = None; source = Values (((Value_of (Constant (values.Int (pos 1)))) ∷ []) ∷ []) })))) ∷ (Ready Commits) ∷ (Ready (Begins isolations.ReadCommitted)) ∷ (Ready (Changes_rows (Inserts (record { table = 1; columns = None; source = Values (((Value_of (Constant (values.Int (pos 9)))) ∷ []) ∷ []) })))) ∷ (Ready Commits) ∷ []) ∷ []);
    }

late_parent-end : State
unfolding late_parent run_from step effect effects_of plan_of error_effects row_step insert_step queued_by queued_by_statement child_check no_action_check restrict_check action_targets new_rows targets
late_parent-end = run late_parent (replicate 22 0)

late_parent-ended : have_all_ended late_parent-end ≡ true
unfolding late_parent-end run_from step effect effects_of plan_of error_effects row_step insert_step queued_by queued_by_statement child_check no_action_check restrict_check action_targets new_rows targets
late_parent-ended = refl

late_parent-not_before : have_all_ended (run late_parent (replicate 21 0)) ≡ false
unfolding late_parent run_from step effect effects_of plan_of error_effects row_step insert_step queued_by queued_by_statement child_check no_action_check restrict_check action_targets new_rows targets
late_parent-not_before = refl

late_parent-replies : late_parent-end.world.replies ≡ (record { session = 0; statement = 1; line = replies.Tag (codes "BEGIN") } ∷ record { session = 0; statement = 2; line = replies.Tag (codes "INSERT 0 1") } ∷ record { session = 0; statement = 3; line = replies.Tag (codes "INSERT 0 1") } ∷ record { session = 0; statement = 4; line = replies.Tag (codes "COMMIT") } ∷ record { session = 0; statement = 5; line = replies.Tag (codes "BEGIN") } ∷ record { session = 0; statement = 6; line = replies.Tag (codes "INSERT 0 1") } ∷ record { session = 0; statement = 7; line = replies.Error (record { 0 = codes "23503" }) (codes "insert or update on table \"c\" violates foreign key constraint \"c_pid_fkey\"") } ∷ record { session = 0; statement = 7; line = replies.Detail (codes "Key (pid)=(9) is not present in table \"p\".") } ∷ [])
unfolding late_parent-end run_from step effect effects_of plan_of error_effects row_step insert_step queued_by queued_by_statement child_check no_action_check restrict_check action_targets new_rows targets digits
late_parent-replies = refl

late_parent-tables : final_tables late_parent late_parent-end ≡ ((((values.Int (pos 1)) ∷ []) ∷ []) ∷ (((values.Int (pos 1)) ∷ []) ∷ []) ∷ [])
unfolding late_parent late_parent-end run_from step effect effects_of plan_of error_effects row_step insert_step queued_by queued_by_statement child_check no_action_check restrict_check action_targets new_rows targets
late_parent-tables = refl

-- \setup
-- CREATE TABLE pair (a integer, b integer, PRIMARY KEY (a, b)); CREATE TABLE kid (x integer, y integer, FOREIGN KEY (x, y) REFERENCES pair MATCH FULL);
-- \session a
-- INSERT INTO kid VALUES (1, NULL); INSERT INTO kid VALUES (NULL, NULL); INSERT INTO kid VALUES (NULL, 1);
unfoldable pub match_full : Program
match_full =
    record {
      schema = record {
        catalog = record {
          tables = (record { name = codes "pair"; cols = (record { name = codes "a"; kind = kinds.Integer; default = values.Null } ∷ record { name = codes "b"; kind = kinds.Integer; default = values.Null } ∷ []); not_null = (0 ∷ 1 ∷ []) } ∷ record { name = codes "kid"; cols = (record { name = codes "x"; kind = kinds.Integer; default = values.Null } ∷ record { name = codes "y"; kind = kinds.Integer; default = values.Null } ∷ []); not_null = [] } ∷ []);
          keys = (record { name = codes "pair_pkey"; table = 0; cols = (0 ∷ 1 ∷ []) } ∷ []);
          primaries = (0 ∷ []);
          fks = (record { name = codes "kid_x_y_fkey"; child = 1; child_cols = (0 ∷ 1 ∷ []); parent = 0; parent_cols = (0 ∷ 1 ∷ []); full = true; on_delete = actions.NoAction; on_update = actions.NoAction; con = 1; set_cols = (0 ∷ 1 ∷ []) } ∷ []);
          constraints = (record { name = codes "pair_pkey"; table = 0; decl = record { deferrable = false; deferred = false } } ∷ record { name = codes "kid_x_y_fkey"; table = 1; decl = record { deferrable = false; deferred = false } } ∷ []);
          functions = [];
          triggers = (record { name = codes "RI_ConstraintTrigger_a_0000000001"; table = 0; ops = (ops.Delete ∷ []); cols = ([]); level = each.Row; condition = None; con = (Some 1); does = Parent 0; old_table = None; new_table = None } ∷ record { name = codes "RI_ConstraintTrigger_a_0000000001"; table = 0; ops = (ops.Update ∷ []); cols = ([]); level = each.Row; condition = None; con = (Some 1); does = Parent 0; old_table = None; new_table = None } ∷ record { name = codes "RI_ConstraintTrigger_c_0000000001"; table = 1; ops = (ops.Insert ∷ ops.Update ∷ []); cols = ([]); level = each.Row; condition = None; con = (Some 1); does = Check 0; old_table = None; new_table = None } ∷ []);
        };
        conditions = (None ∷ None ∷ None ∷ []);
        codes = ([] ∷ [] ∷ [] ∷ []);
        rules = [];
      };
      names = (codes "a" ∷ []);
      statements = (((Ready (Changes_rows (Inserts (record { table = 1; columns = None; source = Values (((Value_of (Constant (values.Int (pos 1)))) ∷ (Value_of (Constant values.Null)) ∷ []) ∷ []) })))) ∷ (Ready (Changes_rows (Inserts (record { table = 1; columns = None; source = Values (((Value_of (Constant values.Null)) ∷ (Value_of (Constant values.Null)) ∷ []) ∷ []) })))) ∷ (Ready (Changes_rows (Inserts (record { table = 1; columns = None; source = Values (((Value_of (Constant values.Null)) ∷ (Value_of (Constant (values.Int (pos 1)))) ∷ []) ∷ []) })))) ∷ []) ∷ []);
    }

match_full-end : State
unfolding match_full run_from step effect effects_of plan_of error_effects row_step insert_step queued_by queued_by_statement child_check no_action_check restrict_check action_targets new_rows targets
match_full-end = run match_full (replicate 18 0)

match_full-ended : have_all_ended match_full-end ≡ true
unfolding match_full-end run_from step effect effects_of plan_of error_effects row_step insert_step queued_by queued_by_statement child_check no_action_check restrict_check action_targets new_rows targets
match_full-ended = refl

match_full-not_before : have_all_ended (run match_full (replicate 17 0)) ≡ false
unfolding match_full run_from step effect effects_of plan_of error_effects row_step insert_step queued_by queued_by_statement child_check no_action_check restrict_check action_targets new_rows targets
match_full-not_before = refl

match_full-replies : match_full-end.world.replies ≡ (record { session = 0; statement = 1; line = replies.Error (record { 0 = codes "23503" }) (codes "insert or update on table \"kid\" violates foreign key constraint \"kid_x_y_fkey\"") } ∷ record { session = 0; statement = 1; line = replies.Detail (codes "MATCH FULL does not allow mixing of null and nonnull key values.") } ∷ record { session = 0; statement = 2; line = replies.Tag (codes "INSERT 0 1") } ∷ record { session = 0; statement = 3; line = replies.Error (record { 0 = codes "23503" }) (codes "insert or update on table \"kid\" violates foreign key constraint \"kid_x_y_fkey\"") } ∷ record { session = 0; statement = 3; line = replies.Detail (codes "MATCH FULL does not allow mixing of null and nonnull key values.") } ∷ [])
unfolding match_full-end run_from step effect effects_of plan_of error_effects row_step insert_step queued_by queued_by_statement child_check no_action_check restrict_check action_targets new_rows targets digits
match_full-replies = refl

match_full-tables : final_tables match_full match_full-end ≡ ([] ∷ ((values.Null ∷ values.Null ∷ []) ∷ []) ∷ [])
unfolding match_full match_full-end run_from step effect effects_of plan_of error_effects row_step insert_step queued_by queued_by_statement child_check no_action_check restrict_check action_targets new_rows targets
match_full-tables = refl

-- NO ACTION looks for another parent row with the old key.
-- \setup
-- CREATE TABLE p (id integer PRIMARY KEY);CREATE TABLE c (pid integer REFERENCES p DEFERRABLE INITIALLY DEFERRED);
-- \session a
-- INSERT INTO p VALUES (5); INSERT INTO c VALUES (5); BEGIN; DELETE FROM p WHERE id = 5; INSERT INTO p VALUES (5); COMMIT;
unfoldable pub parent_comes_back : Program
parent_comes_back =
    record {
      schema = record {
        catalog = record {
          tables = (record { name = codes "p"; cols = (record { name = codes "id"; kind = kinds.Integer; default = values.Null } ∷ []); not_null = (0 ∷ []) } ∷ record { name = codes "c"; cols = (record { name = codes "pid"; kind = kinds.Integer; default = values.Null } ∷ []); not_null = [] } ∷ []);
          keys = (record { name = codes "p_pkey"; table = 0; cols = (0 ∷ []) } ∷ []);
          primaries = (0 ∷ []);
          fks = (record { name = codes "c_pid_fkey"; child = 1; child_cols = (0 ∷ []); parent = 0; parent_cols = (0 ∷ []); full = false; on_delete = actions.NoAction; on_update = actions.NoAction; con = 1; set_cols = (0 ∷ []) } ∷ []);
          constraints = (record { name = codes "p_pkey"; table = 0; decl = record { deferrable = false; deferred = false } } ∷ record { name = codes "c_pid_fkey"; table = 1; decl = record { deferrable = true; deferred = true } } ∷ []);
          functions = [];
          triggers = (record { name = codes "RI_ConstraintTrigger_a_0000000001"; table = 0; ops = (ops.Delete ∷ []); cols = ([]); level = each.Row; condition = None; con = (Some 1); does = Parent 0; old_table = None; new_table = None } ∷ record { name = codes "RI_ConstraintTrigger_a_0000000001"; table = 0; ops = (ops.Update ∷ []); cols = ([]); level = each.Row; condition = None; con = (Some 1); does = Parent 0; old_table = None; new_table = None } ∷ record { name = codes "RI_ConstraintTrigger_c_0000000001"; table = 1; ops = (ops.Insert ∷ ops.Update ∷ []); cols = ([]); level = each.Row; condition = None; con = (Some 1); does = Check 0; old_table = None; new_table = None } ∷ []);
        };
        conditions = (None ∷ None ∷ None ∷ []);
        codes = ([] ∷ [] ∷ [] ∷ []);
        rules = [];
      };
      names = (codes "a" ∷ []);
      statements = (((Ready (Changes_rows (Inserts (record { table = 0; columns = None; source = Values (((Value_of (Constant (values.Int (pos 5)))) ∷ []) ∷ []) })))) ∷ (Ready (Changes_rows (Inserts (record { table = 1; columns = None; source = Values (((Value_of (Constant (values.Int (pos 5)))) ∷ []) ∷ []) })))) ∷ (Ready (Begins isolations.ReadCommitted)) ∷ (Ready (Changes_rows (Deletes (record { table = 0; condition = (Some (Binary (Column 0) (Compare comparisons.Equal) (Constant (values.Int (pos 5))))) })))) ∷ (Ready (Changes_rows (Inserts (record { table = 0; columns = None; source = Values (((Value_of (Constant (values.Int (pos 5)))) ∷ []) ∷ []) })))) ∷ (Ready Commits) ∷ []) ∷ []);
    }

parent_comes_back-end : State
unfolding parent_comes_back run_from step effect effects_of plan_of error_effects row_step insert_step queued_by queued_by_statement child_check no_action_check restrict_check action_targets new_rows targets
parent_comes_back-end = run parent_comes_back (replicate 26 0)

parent_comes_back-ended : have_all_ended parent_comes_back-end ≡ true
unfolding parent_comes_back-end run_from step effect effects_of plan_of error_effects row_step insert_step queued_by queued_by_statement child_check no_action_check restrict_check action_targets new_rows targets
parent_comes_back-ended = refl

parent_comes_back-not_before : have_all_ended (run parent_comes_back (replicate 25 0)) ≡ false
unfolding parent_comes_back run_from step effect effects_of plan_of error_effects row_step insert_step queued_by queued_by_statement child_check no_action_check restrict_check action_targets new_rows targets
parent_comes_back-not_before = refl

parent_comes_back-replies : parent_comes_back-end.world.replies ≡ (record { session = 0; statement = 1; line = replies.Tag (codes "INSERT 0 1") } ∷ record { session = 0; statement = 2; line = replies.Tag (codes "INSERT 0 1") } ∷ record { session = 0; statement = 3; line = replies.Tag (codes "BEGIN") } ∷ record { session = 0; statement = 4; line = replies.Tag (codes "DELETE 1") } ∷ record { session = 0; statement = 5; line = replies.Tag (codes "INSERT 0 1") } ∷ record { session = 0; statement = 6; line = replies.Tag (codes "COMMIT") } ∷ [])
unfolding parent_comes_back-end run_from step effect effects_of plan_of error_effects row_step insert_step queued_by queued_by_statement child_check no_action_check restrict_check action_targets new_rows targets digits
parent_comes_back-replies = refl

parent_comes_back-tables : final_tables parent_comes_back parent_comes_back-end ≡ ((((values.Int (pos 5)) ∷ []) ∷ []) ∷ (((values.Int (pos 5)) ∷ []) ∷ []) ∷ [])
unfolding parent_comes_back parent_comes_back-end run_from step effect effects_of plan_of error_effects row_step insert_step queued_by queued_by_statement child_check no_action_check restrict_check action_targets new_rows targets
parent_comes_back-tables = refl

-- \setup
-- CREATE TABLE p (id integer PRIMARY KEY);CREATE TABLE c (pid integer REFERENCES p ON DELETE RESTRICT DEFERRABLE INITIALLY DEFERRED);
-- \session a
-- INSERT INTO p VALUES (5); INSERT INTO c VALUES (5); BEGIN; DELETE FROM p WHERE id = 5; INSERT INTO p VALUES (5); COMMIT;
unfoldable pub restrict_at_once : Program
restrict_at_once =
    record {
      schema = record {
        catalog = record {
          tables = (record { name = codes "p"; cols = (record { name = codes "id"; kind = kinds.Integer; default = values.Null } ∷ []); not_null = (0 ∷ []) } ∷ record { name = codes "c"; cols = (record { name = codes "pid"; kind = kinds.Integer; default = values.Null } ∷ []); not_null = [] } ∷ []);
          keys = (record { name = codes "p_pkey"; table = 0; cols = (0 ∷ []) } ∷ []);
          primaries = (0 ∷ []);
          fks = (record { name = codes "c_pid_fkey"; child = 1; child_cols = (0 ∷ []); parent = 0; parent_cols = (0 ∷ []); full = false; on_delete = actions.Restrict; on_update = actions.NoAction; con = 1; set_cols = (0 ∷ []) } ∷ []);
          constraints = (record { name = codes "p_pkey"; table = 0; decl = record { deferrable = false; deferred = false } } ∷ record { name = codes "c_pid_fkey"; table = 1; decl = record { deferrable = true; deferred = true } } ∷ []);
          functions = [];
          triggers = (record { name = codes "RI_ConstraintTrigger_a_0000000001"; table = 0; ops = (ops.Delete ∷ []); cols = ([]); level = each.Row; condition = None; con = None; does = Parent 0; old_table = None; new_table = None } ∷ record { name = codes "RI_ConstraintTrigger_a_0000000001"; table = 0; ops = (ops.Update ∷ []); cols = ([]); level = each.Row; condition = None; con = (Some 1); does = Parent 0; old_table = None; new_table = None } ∷ record { name = codes "RI_ConstraintTrigger_c_0000000001"; table = 1; ops = (ops.Insert ∷ ops.Update ∷ []); cols = ([]); level = each.Row; condition = None; con = (Some 1); does = Check 0; old_table = None; new_table = None } ∷ []);
        };
        conditions = (None ∷ None ∷ None ∷ []);
        codes = ([] ∷ [] ∷ [] ∷ []);
        rules = [];
      };
      names = (codes "a" ∷ []);
      statements = (((Ready (Changes_rows (Inserts (record { table = 0; columns = None; source = Values (((Value_of (Constant (values.Int (pos 5)))) ∷ []) ∷ []) })))) ∷ (Ready (Changes_rows (Inserts (record { table = 1; columns = None; source = Values (((Value_of (Constant (values.Int (pos 5)))) ∷ []) ∷ []) })))) ∷ (Ready (Begins isolations.ReadCommitted)) ∷ (Ready (Changes_rows (Deletes (record { table = 0; condition = (Some (Binary (Column 0) (Compare comparisons.Equal) (Constant (values.Int (pos 5))))) })))) ∷ (Ready (Changes_rows (Inserts (record { table = 0; columns = None; source = Values (((Value_of (Constant (values.Int (pos 5)))) ∷ []) ∷ []) })))) ∷ (Ready Commits) ∷ []) ∷ []);
    }

restrict_at_once-end : State
unfolding restrict_at_once run_from step effect effects_of plan_of error_effects row_step insert_step queued_by queued_by_statement child_check no_action_check restrict_check action_targets new_rows targets
restrict_at_once-end = run restrict_at_once (replicate 21 0)

restrict_at_once-ended : have_all_ended restrict_at_once-end ≡ true
unfolding restrict_at_once-end run_from step effect effects_of plan_of error_effects row_step insert_step queued_by queued_by_statement child_check no_action_check restrict_check action_targets new_rows targets
restrict_at_once-ended = refl

restrict_at_once-not_before : have_all_ended (run restrict_at_once (replicate 20 0)) ≡ false
unfolding restrict_at_once run_from step effect effects_of plan_of error_effects row_step insert_step queued_by queued_by_statement child_check no_action_check restrict_check action_targets new_rows targets
restrict_at_once-not_before = refl

restrict_at_once-replies : restrict_at_once-end.world.replies ≡ (record { session = 0; statement = 1; line = replies.Tag (codes "INSERT 0 1") } ∷ record { session = 0; statement = 2; line = replies.Tag (codes "INSERT 0 1") } ∷ record { session = 0; statement = 3; line = replies.Tag (codes "BEGIN") } ∷ record { session = 0; statement = 4; line = replies.Error (record { 0 = codes "23503" }) (codes "update or delete on table \"p\" violates foreign key constraint \"c_pid_fkey\" on table \"c\"") } ∷ record { session = 0; statement = 4; line = replies.Detail (codes "Key (id)=(5) is still referenced from table \"c\".") } ∷ record { session = 0; statement = 5; line = replies.Error (record { 0 = codes "25P02" }) (codes "current transaction is aborted, commands ignored until end of transaction block") } ∷ record { session = 0; statement = 6; line = replies.Tag (codes "ROLLBACK") } ∷ [])
unfolding restrict_at_once-end run_from step effect effects_of plan_of error_effects row_step insert_step queued_by queued_by_statement child_check no_action_check restrict_check action_targets new_rows targets digits
restrict_at_once-replies = refl

restrict_at_once-tables : final_tables restrict_at_once restrict_at_once-end ≡ ((((values.Int (pos 5)) ∷ []) ∷ []) ∷ (((values.Int (pos 5)) ∷ []) ∷ []) ∷ [])
unfolding restrict_at_once restrict_at_once-end run_from step effect effects_of plan_of error_effects row_step insert_step queued_by queued_by_statement child_check no_action_check restrict_check action_targets new_rows targets
restrict_at_once-tables = refl

-- \setup
-- CREATE TABLE p (id integer PRIMARY KEY); CREATE TABLE c (pid integer DEFAULT 5 REFERENCES p ON DELETE SET DEFAULT);
-- \session a
-- INSERT INTO p VALUES (5); INSERT INTO c VALUES (5); DELETE FROM p;
unfoldable pub default_without_parent : Program
default_without_parent =
    record {
      schema = record {
        catalog = record {
          tables = (record { name = codes "p"; cols = (record { name = codes "id"; kind = kinds.Integer; default = values.Null } ∷ []); not_null = (0 ∷ []) } ∷ record { name = codes "c"; cols = (record { name = codes "pid"; kind = kinds.Integer; default = (values.Int (pos 5)) } ∷ []); not_null = [] } ∷ []);
          keys = (record { name = codes "p_pkey"; table = 0; cols = (0 ∷ []) } ∷ []);
          primaries = (0 ∷ []);
          fks = (record { name = codes "c_pid_fkey"; child = 1; child_cols = (0 ∷ []); parent = 0; parent_cols = (0 ∷ []); full = false; on_delete = actions.SetDefault; on_update = actions.NoAction; con = 1; set_cols = (0 ∷ []) } ∷ []);
          constraints = (record { name = codes "p_pkey"; table = 0; decl = record { deferrable = false; deferred = false } } ∷ record { name = codes "c_pid_fkey"; table = 1; decl = record { deferrable = false; deferred = false } } ∷ []);
          functions = [];
          triggers = (record { name = codes "RI_ConstraintTrigger_a_0000000001"; table = 0; ops = (ops.Delete ∷ []); cols = ([]); level = each.Row; condition = None; con = None; does = Parent 0; old_table = None; new_table = None } ∷ record { name = codes "RI_ConstraintTrigger_a_0000000001"; table = 0; ops = (ops.Update ∷ []); cols = ([]); level = each.Row; condition = None; con = (Some 1); does = Parent 0; old_table = None; new_table = None } ∷ record { name = codes "RI_ConstraintTrigger_c_0000000001"; table = 1; ops = (ops.Insert ∷ ops.Update ∷ []); cols = ([]); level = each.Row; condition = None; con = (Some 1); does = Check 0; old_table = None; new_table = None } ∷ []);
        };
        conditions = (None ∷ None ∷ None ∷ []);
        codes = ([] ∷ [] ∷ [] ∷ []);
        rules = [];
      };
      names = (codes "a" ∷ []);
      statements = (((Ready (Changes_rows (Inserts (record { table = 0; columns = None; source = Values (((Value_of (Constant (values.Int (pos 5)))) ∷ []) ∷ []) })))) ∷ (Ready (Changes_rows (Inserts (record { table = 1; columns = None; source = Values (((Value_of (Constant (values.Int (pos 5)))) ∷ []) ∷ []) })))) ∷ (Ready (Changes_rows (Deletes (record { table = 0; condition = None })))) ∷ []) ∷ []);
    }

default_without_parent-end : State
unfolding default_without_parent run_from step effect effects_of plan_of error_effects row_step insert_step queued_by queued_by_statement child_check no_action_check restrict_check action_targets new_rows targets
default_without_parent-end = run default_without_parent (replicate 21 0)

default_without_parent-ended : have_all_ended default_without_parent-end ≡ true
unfolding default_without_parent-end run_from step effect effects_of plan_of error_effects row_step insert_step queued_by queued_by_statement child_check no_action_check restrict_check action_targets new_rows targets
default_without_parent-ended = refl

default_without_parent-not_before : have_all_ended (run default_without_parent (replicate 20 0)) ≡ false
unfolding default_without_parent run_from step effect effects_of plan_of error_effects row_step insert_step queued_by queued_by_statement child_check no_action_check restrict_check action_targets new_rows targets
default_without_parent-not_before = refl

default_without_parent-replies : default_without_parent-end.world.replies ≡ (record { session = 0; statement = 1; line = replies.Tag (codes "INSERT 0 1") } ∷ record { session = 0; statement = 2; line = replies.Tag (codes "INSERT 0 1") } ∷ record { session = 0; statement = 3; line = replies.Error (record { 0 = codes "23503" }) (codes "update or delete on table \"p\" violates foreign key constraint \"c_pid_fkey\" on table \"c\"") } ∷ record { session = 0; statement = 3; line = replies.Detail (codes "Key (id)=(5) is still referenced from table \"c\".") } ∷ [])
unfolding default_without_parent-end run_from step effect effects_of plan_of error_effects row_step insert_step queued_by queued_by_statement child_check no_action_check restrict_check action_targets new_rows targets digits
default_without_parent-replies = refl

default_without_parent-tables : final_tables default_without_parent default_without_parent-end ≡ ((((values.Int (pos 5)) ∷ []) ∷ []) ∷ (((values.Int (pos 5)) ∷ []) ∷ []) ∷ [])
unfolding default_without_parent default_without_parent-end run_from step effect effects_of plan_of error_effects row_step insert_step queued_by queued_by_statement child_check no_action_check restrict_check action_targets new_rows targets
default_without_parent-tables = refl

-- \setup
-- CREATE TABLE p (id integer PRIMARY KEY);CREATE TABLE c (pid integer REFERENCES p DEFERRABLE INITIALLY DEFERRED);
-- \session a
-- BEGIN; INSERT INTO c VALUES (7); DELETE FROM c; COMMIT;
unfoldable pub skipped_check : Program
skipped_check =
    record {
      schema = record {
        catalog = record {
          tables = (record { name = codes "p"; cols = (record { name = codes "id"; kind = kinds.Integer; default = values.Null } ∷ []); not_null = (0 ∷ []) } ∷ record { name = codes "c"; cols = (record { name = codes "pid"; kind = kinds.Integer; default = values.Null } ∷ []); not_null = [] } ∷ []);
          keys = (record { name = codes "p_pkey"; table = 0; cols = (0 ∷ []) } ∷ []);
          primaries = (0 ∷ []);
          fks = (record { name = codes "c_pid_fkey"; child = 1; child_cols = (0 ∷ []); parent = 0; parent_cols = (0 ∷ []); full = false; on_delete = actions.NoAction; on_update = actions.NoAction; con = 1; set_cols = (0 ∷ []) } ∷ []);
          constraints = (record { name = codes "p_pkey"; table = 0; decl = record { deferrable = false; deferred = false } } ∷ record { name = codes "c_pid_fkey"; table = 1; decl = record { deferrable = true; deferred = true } } ∷ []);
          functions = [];
          triggers = (record { name = codes "RI_ConstraintTrigger_a_0000000001"; table = 0; ops = (ops.Delete ∷ []); cols = ([]); level = each.Row; condition = None; con = (Some 1); does = Parent 0; old_table = None; new_table = None } ∷ record { name = codes "RI_ConstraintTrigger_a_0000000001"; table = 0; ops = (ops.Update ∷ []); cols = ([]); level = each.Row; condition = None; con = (Some 1); does = Parent 0; old_table = None; new_table = None } ∷ record { name = codes "RI_ConstraintTrigger_c_0000000001"; table = 1; ops = (ops.Insert ∷ ops.Update ∷ []); cols = ([]); level = each.Row; condition = None; con = (Some 1); does = Check 0; old_table = None; new_table = None } ∷ []);
        };
        conditions = (None ∷ None ∷ None ∷ []);
        codes = ([] ∷ [] ∷ [] ∷ []);
        rules = [];
      };
      names = (codes "a" ∷ []);
      statements = (((Ready (Begins isolations.ReadCommitted)) ∷ (Ready (Changes_rows (Inserts (record { table = 1; columns = None; source = Values (((Value_of (Constant (values.Int (pos 7)))) ∷ []) ∷ []) })))) ∷ (Ready (Changes_rows (Deletes (record { table = 1; condition = None })))) ∷ (Ready Commits) ∷ []) ∷ []);
    }

skipped_check-end : State
unfolding skipped_check run_from step effect effects_of plan_of error_effects row_step insert_step queued_by queued_by_statement child_check no_action_check restrict_check action_targets new_rows targets
skipped_check-end = run skipped_check (replicate 14 0)

skipped_check-ended : have_all_ended skipped_check-end ≡ true
unfolding skipped_check-end run_from step effect effects_of plan_of error_effects row_step insert_step queued_by queued_by_statement child_check no_action_check restrict_check action_targets new_rows targets
skipped_check-ended = refl

skipped_check-not_before : have_all_ended (run skipped_check (replicate 13 0)) ≡ false
unfolding skipped_check run_from step effect effects_of plan_of error_effects row_step insert_step queued_by queued_by_statement child_check no_action_check restrict_check action_targets new_rows targets
skipped_check-not_before = refl

skipped_check-replies : skipped_check-end.world.replies ≡ (record { session = 0; statement = 1; line = replies.Tag (codes "BEGIN") } ∷ record { session = 0; statement = 2; line = replies.Tag (codes "INSERT 0 1") } ∷ record { session = 0; statement = 3; line = replies.Tag (codes "DELETE 1") } ∷ record { session = 0; statement = 4; line = replies.Tag (codes "COMMIT") } ∷ [])
unfolding skipped_check-end run_from step effect effects_of plan_of error_effects row_step insert_step queued_by queued_by_statement child_check no_action_check restrict_check action_targets new_rows targets digits
skipped_check-replies = refl

skipped_check-tables : final_tables skipped_check skipped_check-end ≡ ([] ∷ [] ∷ [])
unfolding skipped_check skipped_check-end run_from step effect effects_of plan_of error_effects row_step insert_step queued_by queued_by_statement child_check no_action_check restrict_check action_targets new_rows targets
skipped_check-tables = refl

-- A check that fired after a savepoint waits again once the transaction has returned to it.
-- \setup
-- CREATE TABLE p (id integer PRIMARY KEY);CREATE TABLE c (pid integer REFERENCES p DEFERRABLE INITIALLY DEFERRED);
-- \session a
-- INSERT INTO p VALUES (1); BEGIN; INSERT INTO c VALUES (1); SAVEPOINT s; SET CONSTRAINTS ALL IMMEDIATE; ROLLBACK TO s; DELETE FROM p; COMMIT;
unfoldable pub check_waits_again : Program
check_waits_again =
    record {
      schema = record {
        catalog = record {
          tables = (record { name = codes "p"; cols = (record { name = codes "id"; kind = kinds.Integer; default = values.Null } ∷ []); not_null = (0 ∷ []) } ∷ record { name = codes "c"; cols = (record { name = codes "pid"; kind = kinds.Integer; default = values.Null } ∷ []); not_null = [] } ∷ []);
          keys = (record { name = codes "p_pkey"; table = 0; cols = (0 ∷ []) } ∷ []);
          primaries = (0 ∷ []);
          fks = (record { name = codes "c_pid_fkey"; child = 1; child_cols = (0 ∷ []); parent = 0; parent_cols = (0 ∷ []); full = false; on_delete = actions.NoAction; on_update = actions.NoAction; con = 1; set_cols = (0 ∷ []) } ∷ []);
          constraints = (record { name = codes "p_pkey"; table = 0; decl = record { deferrable = false; deferred = false } } ∷ record { name = codes "c_pid_fkey"; table = 1; decl = record { deferrable = true; deferred = true } } ∷ []);
          functions = [];
          triggers = (record { name = codes "RI_ConstraintTrigger_a_0000000001"; table = 0; ops = (ops.Delete ∷ []); cols = ([]); level = each.Row; condition = None; con = (Some 1); does = Parent 0; old_table = None; new_table = None } ∷ record { name = codes "RI_ConstraintTrigger_a_0000000001"; table = 0; ops = (ops.Update ∷ []); cols = ([]); level = each.Row; condition = None; con = (Some 1); does = Parent 0; old_table = None; new_table = None } ∷ record { name = codes "RI_ConstraintTrigger_c_0000000001"; table = 1; ops = (ops.Insert ∷ ops.Update ∷ []); cols = ([]); level = each.Row; condition = None; con = (Some 1); does = Check 0; old_table = None; new_table = None } ∷ []);
        };
        conditions = (None ∷ None ∷ None ∷ []);
        codes = ([] ∷ [] ∷ [] ∷ []);
        rules = [];
      };
      names = (codes "a" ∷ []);
      statements = (((Ready (Changes_rows (Inserts (record { table = 0; columns = None; source = Values (((Value_of (Constant (values.Int (pos 1)))) ∷ []) ∷ []) })))) ∷ (Ready (Begins isolations.ReadCommitted)) ∷ (Ready (Changes_rows (Inserts (record { table = 1; columns = None; source = Values (((Value_of (Constant (values.Int (pos 1)))) ∷ []) ∷ []) })))) ∷ (Ready (Makes_savepoint (codes "s"))) ∷ (Ready (Sets_constraints (record { constraints = All_of_them; mode = modes.Immediate }))) ∷ (Ready (Rolls_back_to (codes "s"))) ∷ (Ready (Changes_rows (Deletes (record { table = 0; condition = None })))) ∷ (Ready Commits) ∷ []) ∷ []);
    }

check_waits_again-end : State
unfolding check_waits_again run_from step effect effects_of plan_of error_effects row_step insert_step queued_by queued_by_statement child_check no_action_check restrict_check action_targets new_rows targets
check_waits_again-end = run check_waits_again (replicate 24 0)

check_waits_again-ended : have_all_ended check_waits_again-end ≡ true
unfolding check_waits_again-end run_from step effect effects_of plan_of error_effects row_step insert_step queued_by queued_by_statement child_check no_action_check restrict_check action_targets new_rows targets
check_waits_again-ended = refl

check_waits_again-not_before : have_all_ended (run check_waits_again (replicate 23 0)) ≡ false
unfolding check_waits_again run_from step effect effects_of plan_of error_effects row_step insert_step queued_by queued_by_statement child_check no_action_check restrict_check action_targets new_rows targets
check_waits_again-not_before = refl

check_waits_again-replies : check_waits_again-end.world.replies ≡ (record { session = 0; statement = 1; line = replies.Tag (codes "INSERT 0 1") } ∷ record { session = 0; statement = 2; line = replies.Tag (codes "BEGIN") } ∷ record { session = 0; statement = 3; line = replies.Tag (codes "INSERT 0 1") } ∷ record { session = 0; statement = 4; line = replies.Tag (codes "SAVEPOINT") } ∷ record { session = 0; statement = 5; line = replies.Tag (codes "SET CONSTRAINTS") } ∷ record { session = 0; statement = 6; line = replies.Tag (codes "ROLLBACK") } ∷ record { session = 0; statement = 7; line = replies.Tag (codes "DELETE 1") } ∷ record { session = 0; statement = 8; line = replies.Error (record { 0 = codes "23503" }) (codes "insert or update on table \"c\" violates foreign key constraint \"c_pid_fkey\"") } ∷ record { session = 0; statement = 8; line = replies.Detail (codes "Key (pid)=(1) is not present in table \"p\".") } ∷ [])
unfolding check_waits_again-end run_from step effect effects_of plan_of error_effects row_step insert_step queued_by queued_by_statement child_check no_action_check restrict_check action_targets new_rows targets digits
check_waits_again-replies = refl

check_waits_again-tables : final_tables check_waits_again check_waits_again-end ≡ ((((values.Int (pos 1)) ∷ []) ∷ []) ∷ [] ∷ [])
unfolding check_waits_again check_waits_again-end run_from step effect effects_of plan_of error_effects row_step insert_step queued_by queued_by_statement child_check no_action_check restrict_check action_targets new_rows targets
check_waits_again-tables = refl

-- A return puts the modes of constraints back.
-- \setup
-- CREATE TABLE p (id integer PRIMARY KEY);CREATE TABLE c (pid integer REFERENCES p DEFERRABLE INITIALLY DEFERRED);
-- \session a
-- BEGIN; SAVEPOINT s; SET CONSTRAINTS ALL IMMEDIATE; ROLLBACK TO s; INSERT INTO c VALUES (3); INSERT INTO p VALUES (3); COMMIT;
unfoldable pub modes_put_back : Program
modes_put_back =
    record {
      schema = record {
        catalog = record {
          tables = (record { name = codes "p"; cols = (record { name = codes "id"; kind = kinds.Integer; default = values.Null } ∷ []); not_null = (0 ∷ []) } ∷ record { name = codes "c"; cols = (record { name = codes "pid"; kind = kinds.Integer; default = values.Null } ∷ []); not_null = [] } ∷ []);
          keys = (record { name = codes "p_pkey"; table = 0; cols = (0 ∷ []) } ∷ []);
          primaries = (0 ∷ []);
          fks = (record { name = codes "c_pid_fkey"; child = 1; child_cols = (0 ∷ []); parent = 0; parent_cols = (0 ∷ []); full = false; on_delete = actions.NoAction; on_update = actions.NoAction; con = 1; set_cols = (0 ∷ []) } ∷ []);
          constraints = (record { name = codes "p_pkey"; table = 0; decl = record { deferrable = false; deferred = false } } ∷ record { name = codes "c_pid_fkey"; table = 1; decl = record { deferrable = true; deferred = true } } ∷ []);
          functions = [];
          triggers = (record { name = codes "RI_ConstraintTrigger_a_0000000001"; table = 0; ops = (ops.Delete ∷ []); cols = ([]); level = each.Row; condition = None; con = (Some 1); does = Parent 0; old_table = None; new_table = None } ∷ record { name = codes "RI_ConstraintTrigger_a_0000000001"; table = 0; ops = (ops.Update ∷ []); cols = ([]); level = each.Row; condition = None; con = (Some 1); does = Parent 0; old_table = None; new_table = None } ∷ record { name = codes "RI_ConstraintTrigger_c_0000000001"; table = 1; ops = (ops.Insert ∷ ops.Update ∷ []); cols = ([]); level = each.Row; condition = None; con = (Some 1); does = Check 0; old_table = None; new_table = None } ∷ []);
        };
        conditions = (None ∷ None ∷ None ∷ []);
        codes = ([] ∷ [] ∷ [] ∷ []);
        rules = [];
      };
      names = (codes "a" ∷ []);
      statements = (((Ready (Begins isolations.ReadCommitted)) ∷ (Ready (Makes_savepoint (codes "s"))) ∷ (Ready (Sets_constraints (record { constraints = All_of_them; mode = modes.Immediate }))) ∷ (Ready (Rolls_back_to (codes "s"))) ∷ (Ready (Changes_rows (Inserts (record { table = 1; columns = None; source = Values (((Value_of (Constant (values.Int (pos 3)))) ∷ []) ∷ []) })))) ∷ (Ready (Changes_rows (Inserts (record { table = 0; columns = None; source = Values (((Value_of (Constant (values.Int (pos 3)))) ∷ []) ∷ []) })))) ∷ (Ready Commits) ∷ []) ∷ []);
    }

modes_put_back-end : State
unfolding modes_put_back run_from step effect effects_of plan_of error_effects row_step insert_step queued_by queued_by_statement child_check no_action_check restrict_check action_targets new_rows targets
modes_put_back-end = run modes_put_back (replicate 18 0)

modes_put_back-ended : have_all_ended modes_put_back-end ≡ true
unfolding modes_put_back-end run_from step effect effects_of plan_of error_effects row_step insert_step queued_by queued_by_statement child_check no_action_check restrict_check action_targets new_rows targets
modes_put_back-ended = refl

modes_put_back-not_before : have_all_ended (run modes_put_back (replicate 17 0)) ≡ false
unfolding modes_put_back run_from step effect effects_of plan_of error_effects row_step insert_step queued_by queued_by_statement child_check no_action_check restrict_check action_targets new_rows targets
modes_put_back-not_before = refl

modes_put_back-replies : modes_put_back-end.world.replies ≡ (record { session = 0; statement = 1; line = replies.Tag (codes "BEGIN") } ∷ record { session = 0; statement = 2; line = replies.Tag (codes "SAVEPOINT") } ∷ record { session = 0; statement = 3; line = replies.Tag (codes "SET CONSTRAINTS") } ∷ record { session = 0; statement = 4; line = replies.Tag (codes "ROLLBACK") } ∷ record { session = 0; statement = 5; line = replies.Tag (codes "INSERT 0 1") } ∷ record { session = 0; statement = 6; line = replies.Tag (codes "INSERT 0 1") } ∷ record { session = 0; statement = 7; line = replies.Tag (codes "COMMIT") } ∷ [])
unfolding modes_put_back-end run_from step effect effects_of plan_of error_effects row_step insert_step queued_by queued_by_statement child_check no_action_check restrict_check action_targets new_rows targets digits
modes_put_back-replies = refl

modes_put_back-tables : final_tables modes_put_back modes_put_back-end ≡ ((((values.Int (pos 3)) ∷ []) ∷ []) ∷ (((values.Int (pos 3)) ∷ []) ∷ []) ∷ [])
unfolding modes_put_back modes_put_back-end run_from step effect effects_of plan_of error_effects row_step insert_step queued_by queued_by_statement child_check no_action_check restrict_check action_targets new_rows targets
modes_put_back-tables = refl

-- A return gives an upgraded lock back and keeps the weaker one: b waits no longer than for KEY SHARE's holder to end.
-- \setup
-- CREATE TABLE p (id integer PRIMARY KEY);
-- \session a
-- INSERT INTO p VALUES (1); BEGIN; SELECT id FROM p FOR KEY SHARE; SAVEPOINT s; DELETE FROM p; ROLLBACK TO s; COMMIT;
-- \session b
-- DELETE FROM p;
-- \schedule a*15 b*2 a*3 b*5
unfoldable pub lock_given_back : Program
lock_given_back =
    record {
      schema = record {
        catalog = record {
          tables = (record { name = codes "p"; cols = (record { name = codes "id"; kind = kinds.Integer; default = values.Null } ∷ []); not_null = (0 ∷ []) } ∷ []);
          keys = (record { name = codes "p_pkey"; table = 0; cols = (0 ∷ []) } ∷ []);
          primaries = (0 ∷ []);
          fks = [];
          constraints = (record { name = codes "p_pkey"; table = 0; decl = record { deferrable = false; deferred = false } } ∷ []);
          functions = [];
          triggers = [];
        };
        conditions = [];
        codes = [];
        rules = [];
      };
      names = (codes "a" ∷ codes "b" ∷ []);
      statements = (((Ready (Changes_rows (Inserts (record { table = 0; columns = None; source = Values (((Value_of (Constant (values.Int (pos 1)))) ∷ []) ∷ []) })))) ∷ (Ready (Begins isolations.ReadCommitted)) ∷ (Ready (Selects (record { columns = (Some (0 ∷ [])); table = 0; condition = None; lock = (Some lock_modes.KeyShare) }))) ∷ (Ready (Makes_savepoint (codes "s"))) ∷ (Ready (Changes_rows (Deletes (record { table = 0; condition = None })))) ∷ (Ready (Rolls_back_to (codes "s"))) ∷ (Ready Commits) ∷ []) ∷ ((Ready (Changes_rows (Deletes (record { table = 0; condition = None })))) ∷ []) ∷ []);
    }

lock_given_back-end : State
unfolding lock_given_back run_from step effect effects_of plan_of error_effects row_step insert_step queued_by queued_by_statement child_check no_action_check restrict_check action_targets new_rows targets
lock_given_back-end = run lock_given_back (replicate 15 0 ++ replicate 2 1 ++ replicate 3 0 ++ replicate 5 1)

lock_given_back-ended : have_all_ended lock_given_back-end ≡ true
unfolding lock_given_back-end run_from step effect effects_of plan_of error_effects row_step insert_step queued_by queued_by_statement child_check no_action_check restrict_check action_targets new_rows targets
lock_given_back-ended = refl

lock_given_back-not_before : have_all_ended (run lock_given_back (replicate 15 0 ++ replicate 2 1 ++ replicate 3 0 ++ replicate 4 1)) ≡ false
unfolding lock_given_back run_from step effect effects_of plan_of error_effects row_step insert_step queued_by queued_by_statement child_check no_action_check restrict_check action_targets new_rows targets
lock_given_back-not_before = refl

lock_given_back-replies : lock_given_back-end.world.replies ≡ (record { session = 0; statement = 1; line = replies.Tag (codes "INSERT 0 1") } ∷ record { session = 0; statement = 2; line = replies.Tag (codes "BEGIN") } ∷ record { session = 0; statement = 3; line = replies.Row ((values.Int (pos 1)) ∷ []) } ∷ record { session = 0; statement = 3; line = replies.Tag (codes "SELECT 1") } ∷ record { session = 0; statement = 4; line = replies.Tag (codes "SAVEPOINT") } ∷ record { session = 0; statement = 5; line = replies.Tag (codes "DELETE 1") } ∷ record { session = 0; statement = 6; line = replies.Tag (codes "ROLLBACK") } ∷ record { session = 0; statement = 7; line = replies.Tag (codes "COMMIT") } ∷ record { session = 1; statement = 1; line = replies.Tag (codes "DELETE 1") } ∷ [])
unfolding lock_given_back-end run_from step effect effects_of plan_of error_effects row_step insert_step queued_by queued_by_statement child_check no_action_check restrict_check action_targets new_rows targets digits
lock_given_back-replies = refl

lock_given_back-tables : final_tables lock_given_back lock_given_back-end ≡ ([] ∷ [])
unfolding lock_given_back lock_given_back-end run_from step effect effects_of plan_of error_effects row_step insert_step queued_by queued_by_statement child_check no_action_check restrict_check action_targets new_rows targets
lock_given_back-tables = refl

-- A Repeatable Read transaction looks for children in the latest database, not in its snapshot.
-- \setup
-- CREATE TABLE p (id integer PRIMARY KEY);CREATE TABLE c (pid integer REFERENCES p );
-- \session a
-- INSERT INTO p VALUES (1); BEGIN ISOLATION LEVEL REPEATABLE READ; SELECT id FROM p; DELETE FROM p; COMMIT;
-- \session b
-- INSERT INTO c VALUES (1);
-- \schedule a*7 b*8 a*7
unfoldable pub child_behind_snapshot : Program
child_behind_snapshot =
    record {
      schema = record {
        catalog = record {
          tables = (record { name = codes "p"; cols = (record { name = codes "id"; kind = kinds.Integer; default = values.Null } ∷ []); not_null = (0 ∷ []) } ∷ record { name = codes "c"; cols = (record { name = codes "pid"; kind = kinds.Integer; default = values.Null } ∷ []); not_null = [] } ∷ []);
          keys = (record { name = codes "p_pkey"; table = 0; cols = (0 ∷ []) } ∷ []);
          primaries = (0 ∷ []);
          fks = (record { name = codes "c_pid_fkey"; child = 1; child_cols = (0 ∷ []); parent = 0; parent_cols = (0 ∷ []); full = false; on_delete = actions.NoAction; on_update = actions.NoAction; con = 1; set_cols = (0 ∷ []) } ∷ []);
          constraints = (record { name = codes "p_pkey"; table = 0; decl = record { deferrable = false; deferred = false } } ∷ record { name = codes "c_pid_fkey"; table = 1; decl = record { deferrable = false; deferred = false } } ∷ []);
          functions = [];
          triggers = (record { name = codes "RI_ConstraintTrigger_a_0000000001"; table = 0; ops = (ops.Delete ∷ []); cols = ([]); level = each.Row; condition = None; con = (Some 1); does = Parent 0; old_table = None; new_table = None } ∷ record { name = codes "RI_ConstraintTrigger_a_0000000001"; table = 0; ops = (ops.Update ∷ []); cols = ([]); level = each.Row; condition = None; con = (Some 1); does = Parent 0; old_table = None; new_table = None } ∷ record { name = codes "RI_ConstraintTrigger_c_0000000001"; table = 1; ops = (ops.Insert ∷ ops.Update ∷ []); cols = ([]); level = each.Row; condition = None; con = (Some 1); does = Check 0; old_table = None; new_table = None } ∷ []);
        };
        conditions = (None ∷ None ∷ None ∷ []);
        codes = ([] ∷ [] ∷ [] ∷ []);
        rules = [];
      };
      names = (codes "a" ∷ codes "b" ∷ []);
      statements = (((Ready (Changes_rows (Inserts (record { table = 0; columns = None; source = Values (((Value_of (Constant (values.Int (pos 1)))) ∷ []) ∷ []) })))) ∷ (Ready (Begins isolations.RepeatableRead)) ∷ (Ready (Selects (record { columns = (Some (0 ∷ [])); table = 0; condition = None; lock = None }))) ∷ (Ready (Changes_rows (Deletes (record { table = 0; condition = None })))) ∷ (Ready Commits) ∷ []) ∷ ((Ready (Changes_rows (Inserts (record { table = 1; columns = None; source = Values (((Value_of (Constant (values.Int (pos 1)))) ∷ []) ∷ []) })))) ∷ []) ∷ []);
    }

child_behind_snapshot-end : State
unfolding child_behind_snapshot run_from step effect effects_of plan_of error_effects row_step insert_step queued_by queued_by_statement child_check no_action_check restrict_check action_targets new_rows targets
child_behind_snapshot-end = run child_behind_snapshot (replicate 7 0 ++ replicate 8 1 ++ replicate 7 0)

child_behind_snapshot-ended : have_all_ended child_behind_snapshot-end ≡ true
unfolding child_behind_snapshot-end run_from step effect effects_of plan_of error_effects row_step insert_step queued_by queued_by_statement child_check no_action_check restrict_check action_targets new_rows targets
child_behind_snapshot-ended = refl

child_behind_snapshot-not_before : have_all_ended (run child_behind_snapshot (replicate 7 0 ++ replicate 8 1 ++ replicate 6 0)) ≡ false
unfolding child_behind_snapshot run_from step effect effects_of plan_of error_effects row_step insert_step queued_by queued_by_statement child_check no_action_check restrict_check action_targets new_rows targets
child_behind_snapshot-not_before = refl

child_behind_snapshot-replies : child_behind_snapshot-end.world.replies ≡ (record { session = 0; statement = 1; line = replies.Tag (codes "INSERT 0 1") } ∷ record { session = 0; statement = 2; line = replies.Tag (codes "BEGIN") } ∷ record { session = 0; statement = 3; line = replies.Row ((values.Int (pos 1)) ∷ []) } ∷ record { session = 0; statement = 3; line = replies.Tag (codes "SELECT 1") } ∷ record { session = 1; statement = 1; line = replies.Tag (codes "INSERT 0 1") } ∷ record { session = 0; statement = 4; line = replies.Error (record { 0 = codes "23503" }) (codes "update or delete on table \"p\" violates foreign key constraint \"c_pid_fkey\" on table \"c\"") } ∷ record { session = 0; statement = 4; line = replies.Detail (codes "Key (id)=(1) is still referenced from table \"c\".") } ∷ record { session = 0; statement = 5; line = replies.Tag (codes "ROLLBACK") } ∷ [])
unfolding child_behind_snapshot-end run_from step effect effects_of plan_of error_effects row_step insert_step queued_by queued_by_statement child_check no_action_check restrict_check action_targets new_rows targets digits
child_behind_snapshot-replies = refl

child_behind_snapshot-tables : final_tables child_behind_snapshot child_behind_snapshot-end ≡ ((((values.Int (pos 1)) ∷ []) ∷ []) ∷ (((values.Int (pos 1)) ∷ []) ∷ []) ∷ [])
unfolding child_behind_snapshot child_behind_snapshot-end run_from step effect effects_of plan_of error_effects row_step insert_step queued_by queued_by_statement child_check no_action_check restrict_check action_targets new_rows targets
child_behind_snapshot-tables = refl

-- \setup
-- CREATE TABLE p (id integer PRIMARY KEY);CREATE TABLE c (pid integer REFERENCES p ON DELETE CASCADE);
-- \session a
-- INSERT INTO p VALUES (1); BEGIN ISOLATION LEVEL REPEATABLE READ; SELECT id FROM p; DELETE FROM p; COMMIT;
-- \session b
-- INSERT INTO c VALUES (1);
-- \schedule a*7 b*8 a*8
unfoldable pub cascade_behind_snapshot : Program
cascade_behind_snapshot =
    record {
      schema = record {
        catalog = record {
          tables = (record { name = codes "p"; cols = (record { name = codes "id"; kind = kinds.Integer; default = values.Null } ∷ []); not_null = (0 ∷ []) } ∷ record { name = codes "c"; cols = (record { name = codes "pid"; kind = kinds.Integer; default = values.Null } ∷ []); not_null = [] } ∷ []);
          keys = (record { name = codes "p_pkey"; table = 0; cols = (0 ∷ []) } ∷ []);
          primaries = (0 ∷ []);
          fks = (record { name = codes "c_pid_fkey"; child = 1; child_cols = (0 ∷ []); parent = 0; parent_cols = (0 ∷ []); full = false; on_delete = actions.Cascade; on_update = actions.NoAction; con = 1; set_cols = (0 ∷ []) } ∷ []);
          constraints = (record { name = codes "p_pkey"; table = 0; decl = record { deferrable = false; deferred = false } } ∷ record { name = codes "c_pid_fkey"; table = 1; decl = record { deferrable = false; deferred = false } } ∷ []);
          functions = [];
          triggers = (record { name = codes "RI_ConstraintTrigger_a_0000000001"; table = 0; ops = (ops.Delete ∷ []); cols = ([]); level = each.Row; condition = None; con = None; does = Parent 0; old_table = None; new_table = None } ∷ record { name = codes "RI_ConstraintTrigger_a_0000000001"; table = 0; ops = (ops.Update ∷ []); cols = ([]); level = each.Row; condition = None; con = (Some 1); does = Parent 0; old_table = None; new_table = None } ∷ record { name = codes "RI_ConstraintTrigger_c_0000000001"; table = 1; ops = (ops.Insert ∷ ops.Update ∷ []); cols = ([]); level = each.Row; condition = None; con = (Some 1); does = Check 0; old_table = None; new_table = None } ∷ []);
        };
        conditions = (None ∷ None ∷ None ∷ []);
        codes = ([] ∷ [] ∷ [] ∷ []);
        rules = [];
      };
      names = (codes "a" ∷ codes "b" ∷ []);
      statements = (((Ready (Changes_rows (Inserts (record { table = 0; columns = None; source = Values (((Value_of (Constant (values.Int (pos 1)))) ∷ []) ∷ []) })))) ∷ (Ready (Begins isolations.RepeatableRead)) ∷ (Ready (Selects (record { columns = (Some (0 ∷ [])); table = 0; condition = None; lock = None }))) ∷ (Ready (Changes_rows (Deletes (record { table = 0; condition = None })))) ∷ (Ready Commits) ∷ []) ∷ ((Ready (Changes_rows (Inserts (record { table = 1; columns = None; source = Values (((Value_of (Constant (values.Int (pos 1)))) ∷ []) ∷ []) })))) ∷ []) ∷ []);
    }

cascade_behind_snapshot-end : State
unfolding cascade_behind_snapshot run_from step effect effects_of plan_of error_effects row_step insert_step queued_by queued_by_statement child_check no_action_check restrict_check action_targets new_rows targets
cascade_behind_snapshot-end = run cascade_behind_snapshot (replicate 7 0 ++ replicate 8 1 ++ replicate 8 0)

cascade_behind_snapshot-ended : have_all_ended cascade_behind_snapshot-end ≡ true
unfolding cascade_behind_snapshot-end run_from step effect effects_of plan_of error_effects row_step insert_step queued_by queued_by_statement child_check no_action_check restrict_check action_targets new_rows targets
cascade_behind_snapshot-ended = refl

cascade_behind_snapshot-not_before : have_all_ended (run cascade_behind_snapshot (replicate 7 0 ++ replicate 8 1 ++ replicate 7 0)) ≡ false
unfolding cascade_behind_snapshot run_from step effect effects_of plan_of error_effects row_step insert_step queued_by queued_by_statement child_check no_action_check restrict_check action_targets new_rows targets
cascade_behind_snapshot-not_before = refl

cascade_behind_snapshot-replies : cascade_behind_snapshot-end.world.replies ≡ (record { session = 0; statement = 1; line = replies.Tag (codes "INSERT 0 1") } ∷ record { session = 0; statement = 2; line = replies.Tag (codes "BEGIN") } ∷ record { session = 0; statement = 3; line = replies.Row ((values.Int (pos 1)) ∷ []) } ∷ record { session = 0; statement = 3; line = replies.Tag (codes "SELECT 1") } ∷ record { session = 1; statement = 1; line = replies.Tag (codes "INSERT 0 1") } ∷ record { session = 0; statement = 4; line = replies.Error (record { 0 = codes "40001" }) (codes "could not serialize access due to concurrent update") } ∷ record { session = 0; statement = 5; line = replies.Tag (codes "ROLLBACK") } ∷ [])
unfolding cascade_behind_snapshot-end run_from step effect effects_of plan_of error_effects row_step insert_step queued_by queued_by_statement child_check no_action_check restrict_check action_targets new_rows targets digits
cascade_behind_snapshot-replies = refl

cascade_behind_snapshot-tables : final_tables cascade_behind_snapshot cascade_behind_snapshot-end ≡ ((((values.Int (pos 1)) ∷ []) ∷ []) ∷ (((values.Int (pos 1)) ∷ []) ∷ []) ∷ [])
unfolding cascade_behind_snapshot cascade_behind_snapshot-end run_from step effect effects_of plan_of error_effects row_step insert_step queued_by queued_by_statement child_check no_action_check restrict_check action_targets new_rows targets
cascade_behind_snapshot-tables = refl

-- \setup
-- CREATE TABLE p (id integer PRIMARY KEY);CREATE TABLE c (pid integer REFERENCES p ON DELETE CASCADE);
-- \session a
-- INSERT INTO p VALUES (1), (2); INSERT INTO c VALUES (1); DELETE FROM p WHERE id = 1;
-- \session b
-- BEGIN; UPDATE c SET pid = 2; COMMIT;
-- \schedule a*13 b*7 a*6 b*3 a*5
unfoldable pub cascade_waits : Program
cascade_waits =
    record {
      schema = record {
        catalog = record {
          tables = (record { name = codes "p"; cols = (record { name = codes "id"; kind = kinds.Integer; default = values.Null } ∷ []); not_null = (0 ∷ []) } ∷ record { name = codes "c"; cols = (record { name = codes "pid"; kind = kinds.Integer; default = values.Null } ∷ []); not_null = [] } ∷ []);
          keys = (record { name = codes "p_pkey"; table = 0; cols = (0 ∷ []) } ∷ []);
          primaries = (0 ∷ []);
          fks = (record { name = codes "c_pid_fkey"; child = 1; child_cols = (0 ∷ []); parent = 0; parent_cols = (0 ∷ []); full = false; on_delete = actions.Cascade; on_update = actions.NoAction; con = 1; set_cols = (0 ∷ []) } ∷ []);
          constraints = (record { name = codes "p_pkey"; table = 0; decl = record { deferrable = false; deferred = false } } ∷ record { name = codes "c_pid_fkey"; table = 1; decl = record { deferrable = false; deferred = false } } ∷ []);
          functions = [];
          triggers = (record { name = codes "RI_ConstraintTrigger_a_0000000001"; table = 0; ops = (ops.Delete ∷ []); cols = ([]); level = each.Row; condition = None; con = None; does = Parent 0; old_table = None; new_table = None } ∷ record { name = codes "RI_ConstraintTrigger_a_0000000001"; table = 0; ops = (ops.Update ∷ []); cols = ([]); level = each.Row; condition = None; con = (Some 1); does = Parent 0; old_table = None; new_table = None } ∷ record { name = codes "RI_ConstraintTrigger_c_0000000001"; table = 1; ops = (ops.Insert ∷ ops.Update ∷ []); cols = ([]); level = each.Row; condition = None; con = (Some 1); does = Check 0; old_table = None; new_table = None } ∷ []);
        };
        conditions = (None ∷ None ∷ None ∷ []);
        codes = ([] ∷ [] ∷ [] ∷ []);
        rules = [];
      };
      names = (codes "a" ∷ codes "b" ∷ []);
      statements = (((Ready (Changes_rows (Inserts (record { table = 0; columns = None; source = Values (((Value_of (Constant (values.Int (pos 1)))) ∷ []) ∷ ((Value_of (Constant (values.Int (pos 2)))) ∷ []) ∷ []) })))) ∷ (Ready (Changes_rows (Inserts (record { table = 1; columns = None; source = Values (((Value_of (Constant (values.Int (pos 1)))) ∷ []) ∷ []) })))) ∷ (Ready (Changes_rows (Deletes (record { table = 0; condition = (Some (Binary (Column 0) (Compare comparisons.Equal) (Constant (values.Int (pos 1))))) })))) ∷ []) ∷ ((Ready (Begins isolations.ReadCommitted)) ∷ (Ready (Changes_rows (Updates (record { table = 1; assignments = (record { column = 0; value = (Value_of (Constant (values.Int (pos 2)))) } ∷ []); condition = None })))) ∷ (Ready Commits) ∷ []) ∷ []);
    }

cascade_waits-end : State
unfolding cascade_waits run_from step effect effects_of plan_of error_effects row_step insert_step queued_by queued_by_statement child_check no_action_check restrict_check action_targets new_rows targets
cascade_waits-end = run cascade_waits (replicate 13 0 ++ replicate 7 1 ++ replicate 6 0 ++ replicate 3 1 ++ replicate 5 0)

cascade_waits-ended : have_all_ended cascade_waits-end ≡ true
unfolding cascade_waits-end run_from step effect effects_of plan_of error_effects row_step insert_step queued_by queued_by_statement child_check no_action_check restrict_check action_targets new_rows targets
cascade_waits-ended = refl

cascade_waits-not_before : have_all_ended (run cascade_waits (replicate 13 0 ++ replicate 7 1 ++ replicate 6 0 ++ replicate 3 1 ++ replicate 4 0)) ≡ false
unfolding cascade_waits run_from step effect effects_of plan_of error_effects row_step insert_step queued_by queued_by_statement child_check no_action_check restrict_check action_targets new_rows targets
cascade_waits-not_before = refl

cascade_waits-replies : cascade_waits-end.world.replies ≡ (record { session = 0; statement = 1; line = replies.Tag (codes "INSERT 0 2") } ∷ record { session = 0; statement = 2; line = replies.Tag (codes "INSERT 0 1") } ∷ record { session = 1; statement = 1; line = replies.Tag (codes "BEGIN") } ∷ record { session = 1; statement = 2; line = replies.Tag (codes "UPDATE 1") } ∷ record { session = 1; statement = 3; line = replies.Tag (codes "COMMIT") } ∷ record { session = 0; statement = 3; line = replies.Tag (codes "DELETE 1") } ∷ [])
unfolding cascade_waits-end run_from step effect effects_of plan_of error_effects row_step insert_step queued_by queued_by_statement child_check no_action_check restrict_check action_targets new_rows targets digits
cascade_waits-replies = refl

cascade_waits-tables : final_tables cascade_waits cascade_waits-end ≡ ((((values.Int (pos 2)) ∷ []) ∷ []) ∷ (((values.Int (pos 2)) ∷ []) ∷ []) ∷ [])
unfolding cascade_waits cascade_waits-end run_from step effect effects_of plan_of error_effects row_step insert_step queued_by queued_by_statement child_check no_action_check restrict_check action_targets new_rows targets
cascade_waits-tables = refl

-- A wait that would close a cycle is refused.
-- \setup
-- CREATE TABLE p (id integer PRIMARY KEY, v integer);
-- \session a
-- INSERT INTO p VALUES (1, 0), (2, 0); BEGIN; UPDATE p SET v = 1 WHERE id = 1; UPDATE p SET v = 1 WHERE id = 2; COMMIT;
-- \session b
-- BEGIN; UPDATE p SET v = 2 WHERE id = 2; UPDATE p SET v = 2 WHERE id = 1; COMMIT;
-- \schedule a*11 b*5 a*2 b*4 a*6
unfoldable pub two_rows_crosswise : Program
two_rows_crosswise =
    record {
      schema = record {
        catalog = record {
          tables = (record { name = codes "p"; cols = (record { name = codes "id"; kind = kinds.Integer; default = values.Null } ∷ record { name = codes "v"; kind = kinds.Integer; default = values.Null } ∷ []); not_null = (0 ∷ []) } ∷ []);
          keys = (record { name = codes "p_pkey"; table = 0; cols = (0 ∷ []) } ∷ []);
          primaries = (0 ∷ []);
          fks = [];
          constraints = (record { name = codes "p_pkey"; table = 0; decl = record { deferrable = false; deferred = false } } ∷ []);
          functions = [];
          triggers = [];
        };
        conditions = [];
        codes = [];
        rules = [];
      };
      names = (codes "a" ∷ codes "b" ∷ []);
      statements = (((Ready (Changes_rows (Inserts (record { table = 0; columns = None; source = Values (((Value_of (Constant (values.Int (pos 1)))) ∷ (Value_of (Constant (values.Int (pos 0)))) ∷ []) ∷ ((Value_of (Constant (values.Int (pos 2)))) ∷ (Value_of (Constant (values.Int (pos 0)))) ∷ []) ∷ []) })))) ∷ (Ready (Begins isolations.ReadCommitted)) ∷ (Ready (Changes_rows (Updates (record { table = 0; assignments = (record { column = 1; value = (Value_of (Constant (values.Int (pos 1)))) } ∷ []); condition = (Some (Binary (Column 0) (Compare comparisons.Equal) (Constant (values.Int (pos 1))))) })))) ∷ (Ready (Changes_rows (Updates (record { table = 0; assignments = (record { column = 1; value = (Value_of (Constant (values.Int (pos 1)))) } ∷ []); condition = (Some (Binary (Column 0) (Compare comparisons.Equal) (Constant (values.Int (pos 2))))) })))) ∷ (Ready Commits) ∷ []) ∷ ((Ready (Begins isolations.ReadCommitted)) ∷ (Ready (Changes_rows (Updates (record { table = 0; assignments = (record { column = 1; value = (Value_of (Constant (values.Int (pos 2)))) } ∷ []); condition = (Some (Binary (Column 0) (Compare comparisons.Equal) (Constant (values.Int (pos 2))))) })))) ∷ (Ready (Changes_rows (Updates (record { table = 0; assignments = (record { column = 1; value = (Value_of (Constant (values.Int (pos 2)))) } ∷ []); condition = (Some (Binary (Column 0) (Compare comparisons.Equal) (Constant (values.Int (pos 1))))) })))) ∷ (Ready Commits) ∷ []) ∷ []);
    }

two_rows_crosswise-end : State
unfolding two_rows_crosswise run_from step effect effects_of plan_of error_effects row_step insert_step queued_by queued_by_statement child_check no_action_check restrict_check action_targets new_rows targets
two_rows_crosswise-end = run two_rows_crosswise (replicate 11 0 ++ replicate 5 1 ++ replicate 2 0 ++ replicate 4 1 ++ replicate 6 0)

two_rows_crosswise-ended : have_all_ended two_rows_crosswise-end ≡ true
unfolding two_rows_crosswise-end run_from step effect effects_of plan_of error_effects row_step insert_step queued_by queued_by_statement child_check no_action_check restrict_check action_targets new_rows targets
two_rows_crosswise-ended = refl

two_rows_crosswise-not_before : have_all_ended (run two_rows_crosswise (replicate 11 0 ++ replicate 5 1 ++ replicate 2 0 ++ replicate 4 1 ++ replicate 5 0)) ≡ false
unfolding two_rows_crosswise run_from step effect effects_of plan_of error_effects row_step insert_step queued_by queued_by_statement child_check no_action_check restrict_check action_targets new_rows targets
two_rows_crosswise-not_before = refl

two_rows_crosswise-replies : two_rows_crosswise-end.world.replies ≡ (record { session = 0; statement = 1; line = replies.Tag (codes "INSERT 0 2") } ∷ record { session = 0; statement = 2; line = replies.Tag (codes "BEGIN") } ∷ record { session = 0; statement = 3; line = replies.Tag (codes "UPDATE 1") } ∷ record { session = 1; statement = 1; line = replies.Tag (codes "BEGIN") } ∷ record { session = 1; statement = 2; line = replies.Tag (codes "UPDATE 1") } ∷ record { session = 1; statement = 3; line = replies.Error (record { 0 = codes "40P01" }) (codes "deadlock detected") } ∷ record { session = 1; statement = 4; line = replies.Tag (codes "ROLLBACK") } ∷ record { session = 0; statement = 4; line = replies.Tag (codes "UPDATE 1") } ∷ record { session = 0; statement = 5; line = replies.Tag (codes "COMMIT") } ∷ [])
unfolding two_rows_crosswise-end run_from step effect effects_of plan_of error_effects row_step insert_step queued_by queued_by_statement child_check no_action_check restrict_check action_targets new_rows targets digits
two_rows_crosswise-replies = refl

two_rows_crosswise-tables : final_tables two_rows_crosswise two_rows_crosswise-end ≡ ((((values.Int (pos 1)) ∷ (values.Int (pos 1)) ∷ []) ∷ ((values.Int (pos 2)) ∷ (values.Int (pos 1)) ∷ []) ∷ []) ∷ [])
unfolding two_rows_crosswise two_rows_crosswise-end run_from step effect effects_of plan_of error_effects row_step insert_step queued_by queued_by_statement child_check no_action_check restrict_check action_targets new_rows targets
two_rows_crosswise-tables = refl

-- \setup
-- CREATE TABLE t (id integer);
-- CREATE TABLE log (n integer);
-- CREATE FUNCTION f() RETURNS trigger LANGUAGE plpgsql AS $$ BEGIN SET CONSTRAINTS ALL IMMEDIATE; RETURN NULL; END $$;
-- CREATE FUNCTION g() RETURNS trigger LANGUAGE plpgsql AS $$ BEGIN INSERT INTO log VALUES (NEW.id); RETURN NULL; END $$;
-- CREATE CONSTRAINT TRIGGER a_set AFTER INSERT ON t DEFERRABLE INITIALLY DEFERRED FOR EACH ROW EXECUTE FUNCTION f();
-- CREATE CONSTRAINT TRIGGER b_log AFTER INSERT ON t DEFERRABLE INITIALLY DEFERRED FOR EACH ROW EXECUTE FUNCTION g();
-- \session a
-- BEGIN; INSERT INTO t VALUES (1), (2); COMMIT;
unfoldable pub settling_in_the_drain : Program
settling_in_the_drain =
    record {
      schema = record {
        catalog = record {
          tables = (record { name = codes "t"; cols = (record { name = codes "id"; kind = kinds.Integer; default = values.Null } ∷ []); not_null = [] } ∷ record { name = codes "log"; cols = (record { name = codes "n"; kind = kinds.Integer; default = values.Null } ∷ []); not_null = [] } ∷ []);
          keys = [];
          primaries = ([]);
          fks = [];
          constraints = (record { name = codes "a_set"; table = 0; decl = record { deferrable = true; deferred = true } } ∷ record { name = codes "b_log"; table = 0; decl = record { deferrable = true; deferred = true } } ∷ []);
          functions = [];
          triggers = (record { name = codes "a_set"; table = 0; ops = (ops.Insert ∷ []); cols = ([]); level = each.Row; condition = None; con = (Some 0); does = Body (record { statements = []; handlers = [] }); old_table = None; new_table = None } ∷ record { name = codes "b_log"; table = 0; ops = (ops.Insert ∷ []); cols = ([]); level = each.Row; condition = None; con = (Some 1); does = Body (record { statements = []; handlers = [] }); old_table = None; new_table = None } ∷ []);
        };
        conditions = (None ∷ None ∷ []);
        codes = ((block_code (joined ((Sets (record { constraints = constrained.All; mode = modes.Immediate }) ∷ []) ∷ (Returns ∷ []) ∷ [])) []) ∷ (block_code (joined ((Changes (Inserts (record { table = 1; columns = None; source = Values (((Value_of (New 0)) ∷ []) ∷ []) })) ∷ []) ∷ (Returns ∷ []) ∷ [])) []) ∷ []);
        rules = [];
      };
      names = (codes "a" ∷ []);
      statements = (((Ready (Begins isolations.ReadCommitted)) ∷ (Ready (Changes_rows (Inserts (record { table = 0; columns = None; source = Values (((Value_of (Constant (values.Int (pos 1)))) ∷ []) ∷ ((Value_of (Constant (values.Int (pos 2)))) ∷ []) ∷ []) })))) ∷ (Ready Commits) ∷ []) ∷ []);
    }

settling_in_the_drain-end : State
unfolding settling_in_the_drain run_from step effect effects_of plan_of error_effects row_step insert_step queued_by queued_by_statement child_check no_action_check restrict_check action_targets new_rows targets
settling_in_the_drain-end = run settling_in_the_drain (replicate 30 0)

settling_in_the_drain-ended : have_all_ended settling_in_the_drain-end ≡ true
unfolding settling_in_the_drain-end run_from step effect effects_of plan_of error_effects row_step insert_step queued_by queued_by_statement child_check no_action_check restrict_check action_targets new_rows targets
settling_in_the_drain-ended = refl

settling_in_the_drain-not_before : have_all_ended (run settling_in_the_drain (replicate 29 0)) ≡ false
unfolding settling_in_the_drain run_from step effect effects_of plan_of error_effects row_step insert_step queued_by queued_by_statement child_check no_action_check restrict_check action_targets new_rows targets
settling_in_the_drain-not_before = refl

settling_in_the_drain-replies : settling_in_the_drain-end.world.replies ≡ (record { session = 0; statement = 1; line = replies.Tag (codes "BEGIN") } ∷ record { session = 0; statement = 2; line = replies.Tag (codes "INSERT 0 2") } ∷ record { session = 0; statement = 3; line = replies.Tag (codes "COMMIT") } ∷ [])
unfolding settling_in_the_drain-end run_from step effect effects_of plan_of error_effects row_step insert_step queued_by queued_by_statement child_check no_action_check restrict_check action_targets new_rows targets digits
settling_in_the_drain-replies = refl

settling_in_the_drain-tables : final_tables settling_in_the_drain settling_in_the_drain-end ≡ ((((values.Int (pos 1)) ∷ []) ∷ ((values.Int (pos 2)) ∷ []) ∷ []) ∷ (((values.Int (pos 1)) ∷ []) ∷ ((values.Int (pos 2)) ∷ []) ∷ []) ∷ [])
unfolding settling_in_the_drain settling_in_the_drain-end run_from step effect effects_of plan_of error_effects row_step insert_step queued_by queued_by_statement child_check no_action_check restrict_check action_targets new_rows targets
settling_in_the_drain-tables = refl

settling_in_the_drain-trace : settling_in_the_drain-end.world.trace ≡ (traces.Begin (codes "a") isolations.ReadCommitted ∷ traces.Reply (codes "a") 1 ∷ traces.Open (codes "a") 1 ∷ traces.Change (codes "a") (codes "t") 1 None (Some ((values.Int (pos 1)) ∷ [])) (record { no = 1; trigger = codes "a_set" } ∷ record { no = 2; trigger = codes "b_log" } ∷ []) ∷ traces.Change (codes "a") (codes "t") 2 None (Some ((values.Int (pos 2)) ∷ [])) (record { no = 3; trigger = codes "a_set" } ∷ record { no = 4; trigger = codes "b_log" } ∷ []) ∷ traces.Close (codes "a") 1 ∷ traces.Reply (codes "a") 2 ∷ traces.Drain (codes "a") ∷ traces.Round (codes "a") ∷ traces.Fire (codes "a") 1 ∷ traces.Mode (codes "a") mode_of.All modes.Immediate ∷ traces.Done (codes "a") 1 endings.Ran ∷ traces.Fire (codes "a") 2 ∷ traces.Open (codes "a") 1 ∷ traces.Change (codes "a") (codes "log") 3 None (Some ((values.Int (pos 1)) ∷ [])) [] ∷ traces.Close (codes "a") 1 ∷ traces.Done (codes "a") 2 endings.Ran ∷ traces.Fire (codes "a") 3 ∷ traces.Mode (codes "a") mode_of.All modes.Immediate ∷ traces.Done (codes "a") 3 endings.Ran ∷ traces.Fire (codes "a") 4 ∷ traces.Open (codes "a") 1 ∷ traces.Change (codes "a") (codes "log") 4 None (Some ((values.Int (pos 2)) ∷ [])) [] ∷ traces.Close (codes "a") 1 ∷ traces.Done (codes "a") 4 endings.Ran ∷ traces.Commit (codes "a") 1 ∷ traces.Reply (codes "a") 3 ∷ traces.End (codes "a") ∷ [])
unfolding settling_in_the_drain-end run_from step effect effects_of plan_of error_effects row_step insert_step queued_by queued_by_statement child_check no_action_check restrict_check action_targets new_rows targets
settling_in_the_drain-trace = refl

-- The changes of an action stand at the level at which its event fires: one transition table holds them all.
-- \setup
-- CREATE TABLE node (id integer PRIMARY KEY, up integer REFERENCES node ON DELETE CASCADE); CREATE TABLE log (id integer);CREATE FUNCTION f() RETURNS trigger LANGUAGE plpgsql AS $$ BEGIN INSERT INTO log SELECT id FROM gone; RETURN NULL; END $$;CREATE TRIGGER s AFTER DELETE ON node REFERENCING OLD TABLE AS gone FOR EACH STATEMENT EXECUTE FUNCTION f();
-- \session a
-- INSERT INTO node VALUES (1, NULL), (2, 1), (3, 2); DELETE FROM node WHERE id = 1;
unfoldable pub transition_table_of_cascades : Program
transition_table_of_cascades =
    record {
      schema = record {
        catalog = record {
          tables = (record { name = codes "node"; cols = (record { name = codes "id"; kind = kinds.Integer; default = values.Null } ∷ record { name = codes "up"; kind = kinds.Integer; default = values.Null } ∷ []); not_null = (0 ∷ []) } ∷ record { name = codes "log"; cols = (record { name = codes "id"; kind = kinds.Integer; default = values.Null } ∷ []); not_null = [] } ∷ []);
          keys = (record { name = codes "node_pkey"; table = 0; cols = (0 ∷ []) } ∷ []);
          primaries = (0 ∷ []);
          fks = (record { name = codes "node_up_fkey"; child = 0; child_cols = (1 ∷ []); parent = 0; parent_cols = (0 ∷ []); full = false; on_delete = actions.Cascade; on_update = actions.NoAction; con = 1; set_cols = (1 ∷ []) } ∷ []);
          constraints = (record { name = codes "node_pkey"; table = 0; decl = record { deferrable = false; deferred = false } } ∷ record { name = codes "node_up_fkey"; table = 0; decl = record { deferrable = false; deferred = false } } ∷ []);
          functions = [];
          triggers = (record { name = codes "RI_ConstraintTrigger_a_0000000001"; table = 0; ops = (ops.Delete ∷ []); cols = ([]); level = each.Row; condition = None; con = None; does = Parent 0; old_table = None; new_table = None } ∷ record { name = codes "RI_ConstraintTrigger_a_0000000001"; table = 0; ops = (ops.Update ∷ []); cols = ([]); level = each.Row; condition = None; con = (Some 1); does = Parent 0; old_table = None; new_table = None } ∷ record { name = codes "RI_ConstraintTrigger_c_0000000001"; table = 0; ops = (ops.Insert ∷ ops.Update ∷ []); cols = ([]); level = each.Row; condition = None; con = (Some 1); does = Check 0; old_table = None; new_table = None } ∷ record { name = codes "s"; table = 0; ops = (ops.Delete ∷ []); cols = ([]); level = each.Statement; condition = None; con = None; does = Body (record { statements = []; handlers = [] }); old_table = (Some (codes "gone")); new_table = None } ∷ []);
        };
        conditions = (None ∷ None ∷ None ∷ None ∷ []);
        codes = ([] ∷ [] ∷ [] ∷ (block_code (joined ((Changes (Inserts (record { table = 1; columns = None; source = Query ((Column 0) ∷ []) tables.OldTable None })) ∷ []) ∷ (Returns ∷ []) ∷ [])) []) ∷ []);
        rules = [];
      };
      names = (codes "a" ∷ []);
      statements = (((Ready (Changes_rows (Inserts (record { table = 0; columns = None; source = Values (((Value_of (Constant (values.Int (pos 1)))) ∷ (Value_of (Constant values.Null)) ∷ []) ∷ ((Value_of (Constant (values.Int (pos 2)))) ∷ (Value_of (Constant (values.Int (pos 1)))) ∷ []) ∷ ((Value_of (Constant (values.Int (pos 3)))) ∷ (Value_of (Constant (values.Int (pos 2)))) ∷ []) ∷ []) })))) ∷ (Ready (Changes_rows (Deletes (record { table = 0; condition = (Some (Binary (Column 0) (Compare comparisons.Equal) (Constant (values.Int (pos 1))))) })))) ∷ []) ∷ []);
    }

transition_table_of_cascades-end : State
unfolding transition_table_of_cascades run_from step effect effects_of plan_of error_effects row_step insert_step queued_by queued_by_statement child_check no_action_check restrict_check action_targets new_rows targets
transition_table_of_cascades-end = run transition_table_of_cascades (replicate 37 0)

transition_table_of_cascades-ended : have_all_ended transition_table_of_cascades-end ≡ true
unfolding transition_table_of_cascades-end run_from step effect effects_of plan_of error_effects row_step insert_step queued_by queued_by_statement child_check no_action_check restrict_check action_targets new_rows targets
transition_table_of_cascades-ended = refl

transition_table_of_cascades-not_before : have_all_ended (run transition_table_of_cascades (replicate 36 0)) ≡ false
unfolding transition_table_of_cascades run_from step effect effects_of plan_of error_effects row_step insert_step queued_by queued_by_statement child_check no_action_check restrict_check action_targets new_rows targets
transition_table_of_cascades-not_before = refl

transition_table_of_cascades-replies : transition_table_of_cascades-end.world.replies ≡ (record { session = 0; statement = 1; line = replies.Tag (codes "INSERT 0 3") } ∷ record { session = 0; statement = 2; line = replies.Tag (codes "DELETE 1") } ∷ [])
unfolding transition_table_of_cascades-end run_from step effect effects_of plan_of error_effects row_step insert_step queued_by queued_by_statement child_check no_action_check restrict_check action_targets new_rows targets digits
transition_table_of_cascades-replies = refl

transition_table_of_cascades-tables : final_tables transition_table_of_cascades transition_table_of_cascades-end ≡ ([] ∷ (((values.Int (pos 1)) ∷ []) ∷ ((values.Int (pos 2)) ∷ []) ∷ ((values.Int (pos 3)) ∷ []) ∷ []) ∷ [])
unfolding transition_table_of_cascades transition_table_of_cascades-end run_from step effect effects_of plan_of error_effects row_step insert_step queued_by queued_by_statement child_check no_action_check restrict_check action_targets new_rows targets
transition_table_of_cascades-tables = refl

-- \setup
-- CREATE TABLE p (id integer PRIMARY KEY);
-- \session a
-- BEGIN; INSERT INTO p VALUES (1); COMMIT;
-- \session b
-- INSERT INTO p VALUES (1);
-- \schedule a*3 b*2 a*5 b*2
unfoldable pub held_key : Program
held_key =
    record {
      schema = record {
        catalog = record {
          tables = (record { name = codes "p"; cols = (record { name = codes "id"; kind = kinds.Integer; default = values.Null } ∷ []); not_null = (0 ∷ []) } ∷ []);
          keys = (record { name = codes "p_pkey"; table = 0; cols = (0 ∷ []) } ∷ []);
          primaries = (0 ∷ []);
          fks = [];
          constraints = (record { name = codes "p_pkey"; table = 0; decl = record { deferrable = false; deferred = false } } ∷ []);
          functions = [];
          triggers = [];
        };
        conditions = [];
        codes = [];
        rules = [];
      };
      names = (codes "a" ∷ codes "b" ∷ []);
      statements = (((Ready (Begins isolations.ReadCommitted)) ∷ (Ready (Changes_rows (Inserts (record { table = 0; columns = None; source = Values (((Value_of (Constant (values.Int (pos 1)))) ∷ []) ∷ []) })))) ∷ (Ready Commits) ∷ []) ∷ ((Ready (Changes_rows (Inserts (record { table = 0; columns = None; source = Values (((Value_of (Constant (values.Int (pos 1)))) ∷ []) ∷ []) })))) ∷ []) ∷ []);
    }

held_key-end : State
unfolding held_key run_from step effect effects_of plan_of error_effects row_step insert_step queued_by queued_by_statement child_check no_action_check restrict_check action_targets new_rows targets
held_key-end = run held_key (replicate 3 0 ++ replicate 2 1 ++ replicate 5 0 ++ replicate 2 1)

held_key-ended : have_all_ended held_key-end ≡ true
unfolding held_key-end run_from step effect effects_of plan_of error_effects row_step insert_step queued_by queued_by_statement child_check no_action_check restrict_check action_targets new_rows targets
held_key-ended = refl

held_key-not_before : have_all_ended (run held_key (replicate 3 0 ++ replicate 2 1 ++ replicate 5 0 ++ replicate 1 1)) ≡ false
unfolding held_key run_from step effect effects_of plan_of error_effects row_step insert_step queued_by queued_by_statement child_check no_action_check restrict_check action_targets new_rows targets
held_key-not_before = refl

held_key-replies : held_key-end.world.replies ≡ (record { session = 0; statement = 1; line = replies.Tag (codes "BEGIN") } ∷ record { session = 0; statement = 2; line = replies.Tag (codes "INSERT 0 1") } ∷ record { session = 0; statement = 3; line = replies.Tag (codes "COMMIT") } ∷ record { session = 1; statement = 1; line = replies.Error (record { 0 = codes "23505" }) (codes "duplicate key value violates unique constraint \"p_pkey\"") } ∷ record { session = 1; statement = 1; line = replies.Detail (codes "Key (id)=(1) already exists.") } ∷ [])
unfolding held_key-end run_from step effect effects_of plan_of error_effects row_step insert_step queued_by queued_by_statement child_check no_action_check restrict_check action_targets new_rows targets digits
held_key-replies = refl

held_key-tables : final_tables held_key held_key-end ≡ ((((values.Int (pos 1)) ∷ []) ∷ []) ∷ [])
unfolding held_key held_key-end run_from step effect effects_of plan_of error_effects row_step insert_step queued_by queued_by_statement child_check no_action_check restrict_check action_targets new_rows targets
held_key-tables = refl

-- \setup
-- CREATE TABLE orders (id integer PRIMARY KEY, customer text NOT NULL); CREATE TABLE order_lines (order_id integer NOT NULL REFERENCES orders ON DELETE CASCADE DEFERRABLE INITIALLY DEFERRED, line integer, qty integer NOT NULL DEFAULT 1, PRIMARY KEY (order_id, line));
-- \session a
-- BEGIN; INSERT INTO order_lines VALUES (1, 1, 2), (1, 2, 5); INSERT INTO orders VALUES (1, 'ann'); COMMIT; UPDATE order_lines SET qty = qty + 1 WHERE order_id = 1; SELECT * FROM order_lines;
-- \session b
-- BEGIN; INSERT INTO orders VALUES (2, 'bob'); INSERT INTO order_lines (order_id, line) VALUES (2, 1); COMMIT; DELETE FROM orders WHERE id = 2; SELECT * FROM orders;
unfoldable pub orders : Program
orders =
    record {
      schema = record {
        catalog = record {
          tables = (record { name = codes "orders"; cols = (record { name = codes "id"; kind = kinds.Integer; default = values.Null } ∷ record { name = codes "customer"; kind = kinds.Text; default = values.Null } ∷ []); not_null = (0 ∷ 1 ∷ []) } ∷ record { name = codes "order_lines"; cols = (record { name = codes "order_id"; kind = kinds.Integer; default = values.Null } ∷ record { name = codes "line"; kind = kinds.Integer; default = values.Null } ∷ record { name = codes "qty"; kind = kinds.Integer; default = (values.Int (pos 1)) } ∷ []); not_null = (0 ∷ 1 ∷ 2 ∷ []) } ∷ []);
          keys = (record { name = codes "orders_pkey"; table = 0; cols = (0 ∷ []) } ∷ record { name = codes "order_lines_pkey"; table = 1; cols = (0 ∷ 1 ∷ []) } ∷ []);
          primaries = (0 ∷ 1 ∷ []);
          fks = (record { name = codes "order_lines_order_id_fkey"; child = 1; child_cols = (0 ∷ []); parent = 0; parent_cols = (0 ∷ []); full = false; on_delete = actions.Cascade; on_update = actions.NoAction; con = 1; set_cols = (0 ∷ []) } ∷ []);
          constraints = (record { name = codes "orders_pkey"; table = 0; decl = record { deferrable = false; deferred = false } } ∷ record { name = codes "order_lines_order_id_fkey"; table = 1; decl = record { deferrable = true; deferred = true } } ∷ record { name = codes "order_lines_pkey"; table = 1; decl = record { deferrable = false; deferred = false } } ∷ []);
          functions = [];
          triggers = (record { name = codes "RI_ConstraintTrigger_a_0000000001"; table = 0; ops = (ops.Delete ∷ []); cols = ([]); level = each.Row; condition = None; con = None; does = Parent 0; old_table = None; new_table = None } ∷ record { name = codes "RI_ConstraintTrigger_a_0000000001"; table = 0; ops = (ops.Update ∷ []); cols = ([]); level = each.Row; condition = None; con = (Some 1); does = Parent 0; old_table = None; new_table = None } ∷ record { name = codes "RI_ConstraintTrigger_c_0000000001"; table = 1; ops = (ops.Insert ∷ ops.Update ∷ []); cols = ([]); level = each.Row; condition = None; con = (Some 1); does = Check 0; old_table = None; new_table = None } ∷ []);
        };
        conditions = (None ∷ None ∷ None ∷ []);
        codes = ([] ∷ [] ∷ [] ∷ []);
        rules = [];
      };
      names = (codes "a" ∷ codes "b" ∷ []);
      statements = (((Ready (Begins isolations.ReadCommitted)) ∷ (Ready (Changes_rows (Inserts (record { table = 1; columns = None; source = Values (((Value_of (Constant (values.Int (pos 1)))) ∷ (Value_of (Constant (values.Int (pos 1)))) ∷ (Value_of (Constant (values.Int (pos 2)))) ∷ []) ∷ ((Value_of (Constant (values.Int (pos 1)))) ∷ (Value_of (Constant (values.Int (pos 2)))) ∷ (Value_of (Constant (values.Int (pos 5)))) ∷ []) ∷ []) })))) ∷ (Ready (Changes_rows (Inserts (record { table = 0; columns = None; source = Values (((Value_of (Constant (values.Int (pos 1)))) ∷ (Value_of (Constant (values.Text (codes "ann")))) ∷ []) ∷ []) })))) ∷ (Ready Commits) ∷ (Ready (Changes_rows (Updates (record { table = 1; assignments = (record { column = 2; value = (Value_of (Binary (Column 2) Add (Constant (values.Int (pos 1))))) } ∷ []); condition = (Some (Binary (Column 0) (Compare comparisons.Equal) (Constant (values.Int (pos 1))))) })))) ∷ (Ready (Selects (record { columns = None; table = 1; condition = None; lock = None }))) ∷ []) ∷ ((Ready (Begins isolations.ReadCommitted)) ∷ (Ready (Changes_rows (Inserts (record { table = 0; columns = None; source = Values (((Value_of (Constant (values.Int (pos 2)))) ∷ (Value_of (Constant (values.Text (codes "bob")))) ∷ []) ∷ []) })))) ∷ (Ready (Changes_rows (Inserts (record { table = 1; columns = (Some (0 ∷ 1 ∷ [])); source = Values (((Value_of (Constant (values.Int (pos 2)))) ∷ (Value_of (Constant (values.Int (pos 1)))) ∷ []) ∷ []) })))) ∷ (Ready Commits) ∷ (Ready (Changes_rows (Deletes (record { table = 0; condition = (Some (Binary (Column 0) (Compare comparisons.Equal) (Constant (values.Int (pos 2))))) })))) ∷ (Ready (Selects (record { columns = None; table = 0; condition = None; lock = None }))) ∷ []) ∷ []);
    }

orders-end : State
unfolding orders run_from step effect effects_of plan_of error_effects row_step insert_step queued_by queued_by_statement child_check no_action_check restrict_check action_targets new_rows targets
orders-end = run orders (replicate 23 0 ++ replicate 24 1)

orders-ended : have_all_ended orders-end ≡ true
unfolding orders-end run_from step effect effects_of plan_of error_effects row_step insert_step queued_by queued_by_statement child_check no_action_check restrict_check action_targets new_rows targets
orders-ended = refl

orders-not_before : have_all_ended (run orders (replicate 23 0 ++ replicate 23 1)) ≡ false
unfolding orders run_from step effect effects_of plan_of error_effects row_step insert_step queued_by queued_by_statement child_check no_action_check restrict_check action_targets new_rows targets
orders-not_before = refl

orders-replies : orders-end.world.replies ≡ (record { session = 0; statement = 1; line = replies.Tag (codes "BEGIN") } ∷ record { session = 0; statement = 2; line = replies.Tag (codes "INSERT 0 2") } ∷ record { session = 0; statement = 3; line = replies.Tag (codes "INSERT 0 1") } ∷ record { session = 0; statement = 4; line = replies.Tag (codes "COMMIT") } ∷ record { session = 0; statement = 5; line = replies.Tag (codes "UPDATE 2") } ∷ record { session = 0; statement = 6; line = replies.Row ((values.Int (pos 1)) ∷ (values.Int (pos 1)) ∷ (values.Int (pos 3)) ∷ []) } ∷ record { session = 0; statement = 6; line = replies.Row ((values.Int (pos 1)) ∷ (values.Int (pos 2)) ∷ (values.Int (pos 6)) ∷ []) } ∷ record { session = 0; statement = 6; line = replies.Tag (codes "SELECT 2") } ∷ record { session = 1; statement = 1; line = replies.Tag (codes "BEGIN") } ∷ record { session = 1; statement = 2; line = replies.Tag (codes "INSERT 0 1") } ∷ record { session = 1; statement = 3; line = replies.Tag (codes "INSERT 0 1") } ∷ record { session = 1; statement = 4; line = replies.Tag (codes "COMMIT") } ∷ record { session = 1; statement = 5; line = replies.Tag (codes "DELETE 1") } ∷ record { session = 1; statement = 6; line = replies.Row ((values.Int (pos 1)) ∷ (values.Text (codes "ann")) ∷ []) } ∷ record { session = 1; statement = 6; line = replies.Tag (codes "SELECT 1") } ∷ [])
unfolding orders-end run_from step effect effects_of plan_of error_effects row_step insert_step queued_by queued_by_statement child_check no_action_check restrict_check action_targets new_rows targets digits
orders-replies = refl

orders-tables : final_tables orders orders-end ≡ ((((values.Int (pos 1)) ∷ (values.Text (codes "ann")) ∷ []) ∷ []) ∷ (((values.Int (pos 1)) ∷ (values.Int (pos 1)) ∷ (values.Int (pos 3)) ∷ []) ∷ ((values.Int (pos 1)) ∷ (values.Int (pos 2)) ∷ (values.Int (pos 6)) ∷ []) ∷ []) ∷ [])
unfolding orders orders-end run_from step effect effects_of plan_of error_effects row_step insert_step queued_by queued_by_statement child_check no_action_check restrict_check action_targets new_rows targets
orders-tables = refl

-- \setup
-- CREATE TABLE t (a integer, b integer);
-- CREATE TRIGGER n AFTER INSERT OR UPDATE ON t FOR EACH ROW EXECUTE FUNCTION native_ordered();
-- \session a
-- INSERT INTO t VALUES (1, 2); INSERT INTO t VALUES (3, 2);
unfoldable pub ordered_by_native : Program
ordered_by_native =
    record {
      schema = record {
        catalog = record {
          tables = (record { name = codes "t"; cols = (record { name = codes "a"; kind = kinds.Integer; default = values.Null } ∷ record { name = codes "b"; kind = kinds.Integer; default = values.Null } ∷ []); not_null = [] } ∷ []);
          keys = [];
          primaries = ([]);
          fks = [];
          constraints = [];
          functions = [];
          triggers = (record { name = codes "n"; table = 0; ops = (ops.Insert ∷ ops.Update ∷ []); cols = ([]); level = each.Row; condition = None; con = None; does = Native (codes "native_ordered"); old_table = None; new_table = None } ∷ []);
        };
        conditions = (None ∷ []);
        codes = ([] ∷ []);
        rules = ((codes "native_ordered", AtMost 0 1) ∷ []);
      };
      names = (codes "a" ∷ []);
      statements = (((Ready (Changes_rows (Inserts (record { table = 0; columns = None; source = Values (((Value_of (Constant (values.Int (pos 1)))) ∷ (Value_of (Constant (values.Int (pos 2)))) ∷ []) ∷ []) })))) ∷ (Ready (Changes_rows (Inserts (record { table = 0; columns = None; source = Values (((Value_of (Constant (values.Int (pos 3)))) ∷ (Value_of (Constant (values.Int (pos 2)))) ∷ []) ∷ []) })))) ∷ []) ∷ []);
    }

ordered_by_native-end : State
unfolding ordered_by_native run_from step effect effects_of plan_of error_effects row_step insert_step queued_by queued_by_statement child_check no_action_check restrict_check action_targets new_rows targets
ordered_by_native-end = run ordered_by_native (replicate 13 0)

ordered_by_native-ended : have_all_ended ordered_by_native-end ≡ true
unfolding ordered_by_native-end run_from step effect effects_of plan_of error_effects row_step insert_step queued_by queued_by_statement child_check no_action_check restrict_check action_targets new_rows targets
ordered_by_native-ended = refl

ordered_by_native-not_before : have_all_ended (run ordered_by_native (replicate 12 0)) ≡ false
unfolding ordered_by_native run_from step effect effects_of plan_of error_effects row_step insert_step queued_by queued_by_statement child_check no_action_check restrict_check action_targets new_rows targets
ordered_by_native-not_before = refl

ordered_by_native-replies : ordered_by_native-end.world.replies ≡ (record { session = 0; statement = 1; line = replies.Tag (codes "INSERT 0 1") } ∷ record { session = 0; statement = 2; line = replies.Error (record { 0 = codes "P0001" }) (codes "native check \"native_ordered\" is false") } ∷ record { session = 0; statement = 2; line = replies.Detail (codes "Failing row contains (3, 2).") } ∷ [])
unfolding ordered_by_native-end run_from step effect effects_of plan_of error_effects row_step insert_step queued_by queued_by_statement child_check no_action_check restrict_check action_targets new_rows targets digits
ordered_by_native-replies = refl

ordered_by_native-tables : final_tables ordered_by_native ordered_by_native-end ≡ ((((values.Int (pos 1)) ∷ (values.Int (pos 2)) ∷ []) ∷ []) ∷ [])
unfolding ordered_by_native ordered_by_native-end run_from step effect effects_of plan_of error_effects row_step insert_step queued_by queued_by_statement child_check no_action_check restrict_check action_targets new_rows targets
ordered_by_native-tables = refl

-- \setup
-- CREATE TABLE t (n integer);CREATE FUNCTION f() RETURNS trigger LANGUAGE plpgsql AS $$ BEGIN INSERT INTO t VALUES (NEW.n); RETURN NULL; END $$;CREATE TRIGGER x AFTER INSERT ON t FOR EACH ROW EXECUTE FUNCTION f();
-- \session a
-- INSERT INTO t VALUES (1);
unfoldable pub levels_without_end : Program
levels_without_end =
    record {
      schema = record {
        catalog = record {
          tables = (record { name = codes "t"; cols = (record { name = codes "n"; kind = kinds.Integer; default = values.Null } ∷ []); not_null = [] } ∷ []);
          keys = [];
          primaries = ([]);
          fks = [];
          constraints = [];
          functions = [];
          triggers = (record { name = codes "x"; table = 0; ops = (ops.Insert ∷ []); cols = ([]); level = each.Row; condition = None; con = None; does = Body (record { statements = []; handlers = [] }); old_table = None; new_table = None } ∷ []);
        };
        conditions = (None ∷ []);
        codes = ((block_code (joined ((Changes (Inserts (record { table = 0; columns = None; source = Values (((Value_of (New 0)) ∷ []) ∷ []) })) ∷ []) ∷ (Returns ∷ []) ∷ [])) []) ∷ []);
        rules = [];
      };
      names = (codes "a" ∷ []);
      statements = (((Ready (Changes_rows (Inserts (record { table = 0; columns = None; source = Values (((Value_of (Constant (values.Int (pos 1)))) ∷ []) ∷ []) })))) ∷ []) ∷ []);
    }

levels_without_end-end : State
unfolding levels_without_end run_from step effect effects_of plan_of error_effects row_step insert_step queued_by queued_by_statement child_check no_action_check restrict_check action_targets new_rows targets
levels_without_end-end = run levels_without_end (replicate 322 0)

levels_without_end-ended : have_all_ended levels_without_end-end ≡ true
unfolding levels_without_end-end run_from step effect effects_of plan_of error_effects row_step insert_step queued_by queued_by_statement child_check no_action_check restrict_check action_targets new_rows targets
levels_without_end-ended = refl

levels_without_end-not_before : have_all_ended (run levels_without_end (replicate 321 0)) ≡ false
unfolding levels_without_end run_from step effect effects_of plan_of error_effects row_step insert_step queued_by queued_by_statement child_check no_action_check restrict_check action_targets new_rows targets
levels_without_end-not_before = refl

levels_without_end-replies : levels_without_end-end.world.replies ≡ (record { session = 0; statement = 1; line = replies.Error (record { 0 = codes "54001" }) (codes "trigger level limit of 64 reached") } ∷ [])
unfolding levels_without_end-end run_from step effect effects_of plan_of error_effects row_step insert_step queued_by queued_by_statement child_check no_action_check restrict_check action_targets new_rows targets digits
levels_without_end-replies = refl

levels_without_end-tables : final_tables levels_without_end levels_without_end-end ≡ ([] ∷ [])
unfolding levels_without_end levels_without_end-end run_from step effect effects_of plan_of error_effects row_step insert_step queued_by queued_by_statement child_check no_action_check restrict_check action_targets new_rows targets
levels_without_end-tables = refl

-- \session a
-- SAVEPOINT s; BEGIN; SAVEPOINT s; RELEASE s; ROLLBACK TO s; COMMIT;
unfoldable pub savepoint_states : Program
savepoint_states =
    record {
      schema = record {
        catalog = record {
          tables = [];
          keys = [];
          primaries = ([]);
          fks = [];
          constraints = [];
          functions = [];
          triggers = [];
        };
        conditions = [];
        codes = [];
        rules = [];
      };
      names = (codes "a" ∷ []);
      statements = (((Ready (Makes_savepoint (codes "s"))) ∷ (Ready (Begins isolations.ReadCommitted)) ∷ (Ready (Makes_savepoint (codes "s"))) ∷ (Ready (Releases_savepoint (codes "s"))) ∷ (Ready (Rolls_back_to (codes "s"))) ∷ (Ready Commits) ∷ []) ∷ []);
    }

savepoint_states-end : State
unfolding savepoint_states run_from step effect effects_of plan_of error_effects row_step insert_step queued_by queued_by_statement child_check no_action_check restrict_check action_targets new_rows targets
savepoint_states-end = run savepoint_states (replicate 7 0)

savepoint_states-ended : have_all_ended savepoint_states-end ≡ true
unfolding savepoint_states-end run_from step effect effects_of plan_of error_effects row_step insert_step queued_by queued_by_statement child_check no_action_check restrict_check action_targets new_rows targets
savepoint_states-ended = refl

savepoint_states-not_before : have_all_ended (run savepoint_states (replicate 6 0)) ≡ false
unfolding savepoint_states run_from step effect effects_of plan_of error_effects row_step insert_step queued_by queued_by_statement child_check no_action_check restrict_check action_targets new_rows targets
savepoint_states-not_before = refl

savepoint_states-replies : savepoint_states-end.world.replies ≡ (record { session = 0; statement = 1; line = replies.Error (record { 0 = codes "25P01" }) (codes "SAVEPOINT can only be used in transaction blocks") } ∷ record { session = 0; statement = 2; line = replies.Tag (codes "BEGIN") } ∷ record { session = 0; statement = 3; line = replies.Tag (codes "SAVEPOINT") } ∷ record { session = 0; statement = 4; line = replies.Tag (codes "RELEASE") } ∷ record { session = 0; statement = 5; line = replies.Error (record { 0 = codes "3B001" }) (codes "savepoint \"s\" does not exist") } ∷ record { session = 0; statement = 6; line = replies.Tag (codes "ROLLBACK") } ∷ [])
unfolding savepoint_states-end run_from step effect effects_of plan_of error_effects row_step insert_step queued_by queued_by_statement child_check no_action_check restrict_check action_targets new_rows targets digits
savepoint_states-replies = refl

savepoint_states-tables : final_tables savepoint_states savepoint_states-end ≡ []
unfolding savepoint_states savepoint_states-end run_from step effect effects_of plan_of error_effects row_step insert_step queued_by queued_by_statement child_check no_action_check restrict_check action_targets new_rows targets
savepoint_states-tables = refl

-- \setup
-- CREATE TABLE t (n integer NOT NULL);
-- \session a
-- INSERT INTO t VALUES (NULL); INSERT INTO t VALUES (2147483648); DELETE FROM u; INSERT INTO t VALUES (2147483647);
unfoldable pub faults_of_rows : Program
faults_of_rows =
    record {
      schema = record {
        catalog = record {
          tables = (record { name = codes "t"; cols = (record { name = codes "n"; kind = kinds.Integer; default = values.Null } ∷ []); not_null = (0 ∷ []) } ∷ []);
          keys = [];
          primaries = ([]);
          fks = [];
          constraints = [];
          functions = [];
          triggers = [];
        };
        conditions = [];
        codes = [];
        rules = [];
      };
      names = (codes "a" ∷ []);
      statements = (((Ready (Changes_rows (Inserts (record { table = 0; columns = None; source = Values (((Value_of (Constant values.Null)) ∷ []) ∷ []) })))) ∷ (Ready (Changes_rows (Inserts (record { table = 0; columns = None; source = Values (((Value_of (Constant (values.Int (pos 2147483648)))) ∷ []) ∷ []) })))) ∷ (Refused On_rows (refusal (codes "42P01") (codes "relation \"u\" does not exist"))) ∷ (Ready (Changes_rows (Inserts (record { table = 0; columns = None; source = Values (((Value_of (Constant (values.Int (pos 2147483647)))) ∷ []) ∷ []) })))) ∷ []) ∷ []);
    }

faults_of_rows-end : State
unfolding faults_of_rows run_from step effect effects_of plan_of error_effects row_step insert_step queued_by queued_by_statement child_check no_action_check restrict_check action_targets new_rows targets
faults_of_rows-end = run faults_of_rows (replicate 10 0)

faults_of_rows-ended : have_all_ended faults_of_rows-end ≡ true
unfolding faults_of_rows-end run_from step effect effects_of plan_of error_effects row_step insert_step queued_by queued_by_statement child_check no_action_check restrict_check action_targets new_rows targets
faults_of_rows-ended = refl

faults_of_rows-not_before : have_all_ended (run faults_of_rows (replicate 9 0)) ≡ false
unfolding faults_of_rows run_from step effect effects_of plan_of error_effects row_step insert_step queued_by queued_by_statement child_check no_action_check restrict_check action_targets new_rows targets
faults_of_rows-not_before = refl

faults_of_rows-replies : faults_of_rows-end.world.replies ≡ (record { session = 0; statement = 1; line = replies.Error (record { 0 = codes "23502" }) (codes "null value in column \"n\" of relation \"t\" violates not-null constraint") } ∷ record { session = 0; statement = 1; line = replies.Detail (codes "Failing row contains (null).") } ∷ record { session = 0; statement = 2; line = replies.Error (record { 0 = codes "22003" }) (codes "integer out of range") } ∷ record { session = 0; statement = 3; line = replies.Error (record { 0 = codes "42P01" }) (codes "relation \"u\" does not exist") } ∷ record { session = 0; statement = 4; line = replies.Tag (codes "INSERT 0 1") } ∷ [])
unfolding faults_of_rows-end run_from step effect effects_of plan_of error_effects row_step insert_step queued_by queued_by_statement child_check no_action_check restrict_check action_targets new_rows targets digits
faults_of_rows-replies = refl

faults_of_rows-tables : final_tables faults_of_rows faults_of_rows-end ≡ ((((values.Int (pos 2147483647)) ∷ []) ∷ []) ∷ [])
unfolding faults_of_rows faults_of_rows-end run_from step effect effects_of plan_of error_effects row_step insert_step queued_by queued_by_statement child_check no_action_check restrict_check action_targets new_rows targets
faults_of_rows-tables = refl

-- \setup
-- CREATE TABLE p (id integer PRIMARY KEY);
-- \session a
-- INSERT INTO p VALUES (1); BEGIN; UPDATE p SET id = 2; SAVEPOINT s; UPDATE p SET id = 3; ROLLBACK TO s; COMMIT;
-- \session b
-- INSERT INTO p VALUES (2);
-- \schedule a*15 b*2 a*4 b*2
unfoldable pub key_of_a_kept_copy : Program
key_of_a_kept_copy =
    record {
      schema = record {
        catalog = record {
          tables = (record { name = codes "p"; cols = (record { name = codes "id"; kind = kinds.Integer; default = values.Null } ∷ []); not_null = (0 ∷ []) } ∷ []);
          keys = (record { name = codes "p_pkey"; table = 0; cols = (0 ∷ []) } ∷ []);
          primaries = (0 ∷ []);
          fks = [];
          constraints = (record { name = codes "p_pkey"; table = 0; decl = record { deferrable = false; deferred = false } } ∷ []);
          functions = [];
          triggers = [];
        };
        conditions = [];
        codes = [];
        rules = [];
      };
      names = (codes "a" ∷ codes "b" ∷ []);
      statements = (((Ready (Changes_rows (Inserts (record { table = 0; columns = None; source = Values (((Value_of (Constant (values.Int (pos 1)))) ∷ []) ∷ []) })))) ∷ (Ready (Begins isolations.ReadCommitted)) ∷ (Ready (Changes_rows (Updates (record { table = 0; assignments = (record { column = 0; value = (Value_of (Constant (values.Int (pos 2)))) } ∷ []); condition = None })))) ∷ (Ready (Makes_savepoint (codes "s"))) ∷ (Ready (Changes_rows (Updates (record { table = 0; assignments = (record { column = 0; value = (Value_of (Constant (values.Int (pos 3)))) } ∷ []); condition = None })))) ∷ (Ready (Rolls_back_to (codes "s"))) ∷ (Ready Commits) ∷ []) ∷ ((Ready (Changes_rows (Inserts (record { table = 0; columns = None; source = Values (((Value_of (Constant (values.Int (pos 2)))) ∷ []) ∷ []) })))) ∷ []) ∷ []);
    }

key_of_a_kept_copy-end : State
unfolding key_of_a_kept_copy run_from step effect effects_of plan_of error_effects row_step insert_step queued_by queued_by_statement child_check no_action_check restrict_check action_targets new_rows targets
key_of_a_kept_copy-end = run key_of_a_kept_copy (replicate 15 0 ++ replicate 2 1 ++ replicate 4 0 ++ replicate 2 1)

key_of_a_kept_copy-ended : have_all_ended key_of_a_kept_copy-end ≡ true
unfolding key_of_a_kept_copy-end run_from step effect effects_of plan_of error_effects row_step insert_step queued_by queued_by_statement child_check no_action_check restrict_check action_targets new_rows targets
key_of_a_kept_copy-ended = refl

key_of_a_kept_copy-not_before : have_all_ended (run key_of_a_kept_copy (replicate 15 0 ++ replicate 2 1 ++ replicate 4 0 ++ replicate 1 1)) ≡ false
unfolding key_of_a_kept_copy run_from step effect effects_of plan_of error_effects row_step insert_step queued_by queued_by_statement child_check no_action_check restrict_check action_targets new_rows targets
key_of_a_kept_copy-not_before = refl

key_of_a_kept_copy-replies : key_of_a_kept_copy-end.world.replies ≡ (record { session = 0; statement = 1; line = replies.Tag (codes "INSERT 0 1") } ∷ record { session = 0; statement = 2; line = replies.Tag (codes "BEGIN") } ∷ record { session = 0; statement = 3; line = replies.Tag (codes "UPDATE 1") } ∷ record { session = 0; statement = 4; line = replies.Tag (codes "SAVEPOINT") } ∷ record { session = 0; statement = 5; line = replies.Tag (codes "UPDATE 1") } ∷ record { session = 0; statement = 6; line = replies.Tag (codes "ROLLBACK") } ∷ record { session = 0; statement = 7; line = replies.Tag (codes "COMMIT") } ∷ record { session = 1; statement = 1; line = replies.Error (record { 0 = codes "23505" }) (codes "duplicate key value violates unique constraint \"p_pkey\"") } ∷ record { session = 1; statement = 1; line = replies.Detail (codes "Key (id)=(2) already exists.") } ∷ [])
unfolding key_of_a_kept_copy-end run_from step effect effects_of plan_of error_effects row_step insert_step queued_by queued_by_statement child_check no_action_check restrict_check action_targets new_rows targets digits
key_of_a_kept_copy-replies = refl

key_of_a_kept_copy-tables : final_tables key_of_a_kept_copy key_of_a_kept_copy-end ≡ ((((values.Int (pos 2)) ∷ []) ∷ []) ∷ [])
unfolding key_of_a_kept_copy key_of_a_kept_copy-end run_from step effect effects_of plan_of error_effects row_step insert_step queued_by queued_by_statement child_check no_action_check restrict_check action_targets new_rows targets
key_of_a_kept_copy-tables = refl

-- \setup
-- CREATE TABLE p (id integer PRIMARY KEY);
-- \session a
-- SELECT * FROM p; SELECT * FROM p;
-- \session b
-- INSERT INTO p VALUES (1);
-- \schedule a b*5 a*2 b
unfoldable pub read_and_written : Program
read_and_written =
    record {
      schema = record {
        catalog = record {
          tables = (record { name = codes "p"; cols = (record { name = codes "id"; kind = kinds.Integer; default = values.Null } ∷ []); not_null = (0 ∷ []) } ∷ []);
          keys = (record { name = codes "p_pkey"; table = 0; cols = (0 ∷ []) } ∷ []);
          primaries = (0 ∷ []);
          fks = [];
          constraints = (record { name = codes "p_pkey"; table = 0; decl = record { deferrable = false; deferred = false } } ∷ []);
          functions = [];
          triggers = [];
        };
        conditions = [];
        codes = [];
        rules = [];
      };
      names = (codes "a" ∷ codes "b" ∷ []);
      statements = (((Ready (Selects (record { columns = None; table = 0; condition = None; lock = None }))) ∷ (Ready (Selects (record { columns = None; table = 0; condition = None; lock = None }))) ∷ []) ∷ ((Ready (Changes_rows (Inserts (record { table = 0; columns = None; source = Values (((Value_of (Constant (values.Int (pos 1)))) ∷ []) ∷ []) })))) ∷ []) ∷ []);
    }

read_and_written-end : State
unfolding read_and_written run_from step effect effects_of plan_of error_effects row_step insert_step queued_by queued_by_statement child_check no_action_check restrict_check action_targets new_rows targets
read_and_written-end = run read_and_written (replicate 1 0 ++ replicate 5 1 ++ replicate 2 0 ++ replicate 1 1)

read_and_written-ended : have_all_ended read_and_written-end ≡ true
unfolding read_and_written-end run_from step effect effects_of plan_of error_effects row_step insert_step queued_by queued_by_statement child_check no_action_check restrict_check action_targets new_rows targets
read_and_written-ended = refl

read_and_written-not_before : have_all_ended (run read_and_written (replicate 1 0 ++ replicate 5 1 ++ replicate 2 0)) ≡ false
unfolding read_and_written run_from step effect effects_of plan_of error_effects row_step insert_step queued_by queued_by_statement child_check no_action_check restrict_check action_targets new_rows targets
read_and_written-not_before = refl

read_and_written-replies : read_and_written-end.world.replies ≡ (record { session = 0; statement = 1; line = replies.Tag (codes "SELECT 0") } ∷ record { session = 1; statement = 1; line = replies.Tag (codes "INSERT 0 1") } ∷ record { session = 0; statement = 2; line = replies.Row ((values.Int (pos 1)) ∷ []) } ∷ record { session = 0; statement = 2; line = replies.Tag (codes "SELECT 1") } ∷ [])
unfolding read_and_written-end run_from step effect effects_of plan_of error_effects row_step insert_step queued_by queued_by_statement child_check no_action_check restrict_check action_targets new_rows targets digits
read_and_written-replies = refl

read_and_written-tables : final_tables read_and_written read_and_written-end ≡ ((((values.Int (pos 1)) ∷ []) ∷ []) ∷ [])
unfolding read_and_written read_and_written-end run_from step effect effects_of plan_of error_effects row_step insert_step queued_by queued_by_statement child_check no_action_check restrict_check action_targets new_rows targets
read_and_written-tables = refl

-- \setup
-- CREATE TABLE p (id integer PRIMARY KEY);
-- \session a
-- COMMIT; BEGIN; BEGIN; INSERT INTO p VALUES (1); INSERT INTO p VALUES (1); DELETE FROM p; ROLLBACK; ROLLBACK;
unfoldable pub block_states : Program
block_states =
    record {
      schema = record {
        catalog = record {
          tables = (record { name = codes "p"; cols = (record { name = codes "id"; kind = kinds.Integer; default = values.Null } ∷ []); not_null = (0 ∷ []) } ∷ []);
          keys = (record { name = codes "p_pkey"; table = 0; cols = (0 ∷ []) } ∷ []);
          primaries = (0 ∷ []);
          fks = [];
          constraints = (record { name = codes "p_pkey"; table = 0; decl = record { deferrable = false; deferred = false } } ∷ []);
          functions = [];
          triggers = [];
        };
        conditions = [];
        codes = [];
        rules = [];
      };
      names = (codes "a" ∷ []);
      statements = (((Ready Commits) ∷ (Ready (Begins isolations.ReadCommitted)) ∷ (Ready (Begins isolations.ReadCommitted)) ∷ (Ready (Changes_rows (Inserts (record { table = 0; columns = None; source = Values (((Value_of (Constant (values.Int (pos 1)))) ∷ []) ∷ []) })))) ∷ (Ready (Changes_rows (Inserts (record { table = 0; columns = None; source = Values (((Value_of (Constant (values.Int (pos 1)))) ∷ []) ∷ []) })))) ∷ (Ready (Changes_rows (Deletes (record { table = 0; condition = None })))) ∷ (Ready Rolls_back) ∷ (Ready Rolls_back) ∷ []) ∷ []);
    }

block_states-end : State
unfolding block_states run_from step effect effects_of plan_of error_effects row_step insert_step queued_by queued_by_statement child_check no_action_check restrict_check action_targets new_rows targets
block_states-end = run block_states (replicate 13 0)

block_states-ended : have_all_ended block_states-end ≡ true
unfolding block_states-end run_from step effect effects_of plan_of error_effects row_step insert_step queued_by queued_by_statement child_check no_action_check restrict_check action_targets new_rows targets
block_states-ended = refl

block_states-not_before : have_all_ended (run block_states (replicate 12 0)) ≡ false
unfolding block_states run_from step effect effects_of plan_of error_effects row_step insert_step queued_by queued_by_statement child_check no_action_check restrict_check action_targets new_rows targets
block_states-not_before = refl

block_states-replies : block_states-end.world.replies ≡ (record { session = 0; statement = 1; line = replies.Warning (record { 0 = codes "25P01" }) (codes "there is no transaction in progress") } ∷ record { session = 0; statement = 1; line = replies.Tag (codes "COMMIT") } ∷ record { session = 0; statement = 2; line = replies.Tag (codes "BEGIN") } ∷ record { session = 0; statement = 3; line = replies.Warning (record { 0 = codes "25001" }) (codes "there is already a transaction in progress") } ∷ record { session = 0; statement = 3; line = replies.Tag (codes "BEGIN") } ∷ record { session = 0; statement = 4; line = replies.Tag (codes "INSERT 0 1") } ∷ record { session = 0; statement = 5; line = replies.Error (record { 0 = codes "23505" }) (codes "duplicate key value violates unique constraint \"p_pkey\"") } ∷ record { session = 0; statement = 5; line = replies.Detail (codes "Key (id)=(1) already exists.") } ∷ record { session = 0; statement = 6; line = replies.Error (record { 0 = codes "25P02" }) (codes "current transaction is aborted, commands ignored until end of transaction block") } ∷ record { session = 0; statement = 7; line = replies.Tag (codes "ROLLBACK") } ∷ record { session = 0; statement = 8; line = replies.Warning (record { 0 = codes "25P01" }) (codes "there is no transaction in progress") } ∷ record { session = 0; statement = 8; line = replies.Tag (codes "ROLLBACK") } ∷ [])
unfolding block_states-end run_from step effect effects_of plan_of error_effects row_step insert_step queued_by queued_by_statement child_check no_action_check restrict_check action_targets new_rows targets digits
block_states-replies = refl

block_states-tables : final_tables block_states block_states-end ≡ ([] ∷ [])
unfolding block_states block_states-end run_from step effect effects_of plan_of error_effects row_step insert_step queued_by queued_by_statement child_check no_action_check restrict_check action_targets new_rows targets
block_states-tables = refl

-- \setup
-- CREATE TABLE p (id integer PRIMARY KEY);
-- \session a
-- INSERT INTO p VALUES (1); BEGIN ISOLATION LEVEL REPEATABLE READ; SELECT id FROM p; DELETE FROM p; COMMIT;
-- \session b
-- UPDATE p SET id = 2;
-- \schedule a*7 b*6 a*4
unfoldable pub row_behind_snapshot : Program
row_behind_snapshot =
    record {
      schema = record {
        catalog = record {
          tables = (record { name = codes "p"; cols = (record { name = codes "id"; kind = kinds.Integer; default = values.Null } ∷ []); not_null = (0 ∷ []) } ∷ []);
          keys = (record { name = codes "p_pkey"; table = 0; cols = (0 ∷ []) } ∷ []);
          primaries = (0 ∷ []);
          fks = [];
          constraints = (record { name = codes "p_pkey"; table = 0; decl = record { deferrable = false; deferred = false } } ∷ []);
          functions = [];
          triggers = [];
        };
        conditions = [];
        codes = [];
        rules = [];
      };
      names = (codes "a" ∷ codes "b" ∷ []);
      statements = (((Ready (Changes_rows (Inserts (record { table = 0; columns = None; source = Values (((Value_of (Constant (values.Int (pos 1)))) ∷ []) ∷ []) })))) ∷ (Ready (Begins isolations.RepeatableRead)) ∷ (Ready (Selects (record { columns = (Some (0 ∷ [])); table = 0; condition = None; lock = None }))) ∷ (Ready (Changes_rows (Deletes (record { table = 0; condition = None })))) ∷ (Ready Commits) ∷ []) ∷ ((Ready (Changes_rows (Updates (record { table = 0; assignments = (record { column = 0; value = (Value_of (Constant (values.Int (pos 2)))) } ∷ []); condition = None })))) ∷ []) ∷ []);
    }

row_behind_snapshot-end : State
unfolding row_behind_snapshot run_from step effect effects_of plan_of error_effects row_step insert_step queued_by queued_by_statement child_check no_action_check restrict_check action_targets new_rows targets
row_behind_snapshot-end = run row_behind_snapshot (replicate 7 0 ++ replicate 6 1 ++ replicate 4 0)

row_behind_snapshot-ended : have_all_ended row_behind_snapshot-end ≡ true
unfolding row_behind_snapshot-end run_from step effect effects_of plan_of error_effects row_step insert_step queued_by queued_by_statement child_check no_action_check restrict_check action_targets new_rows targets
row_behind_snapshot-ended = refl

row_behind_snapshot-not_before : have_all_ended (run row_behind_snapshot (replicate 7 0 ++ replicate 6 1 ++ replicate 3 0)) ≡ false
unfolding row_behind_snapshot run_from step effect effects_of plan_of error_effects row_step insert_step queued_by queued_by_statement child_check no_action_check restrict_check action_targets new_rows targets
row_behind_snapshot-not_before = refl

row_behind_snapshot-replies : row_behind_snapshot-end.world.replies ≡ (record { session = 0; statement = 1; line = replies.Tag (codes "INSERT 0 1") } ∷ record { session = 0; statement = 2; line = replies.Tag (codes "BEGIN") } ∷ record { session = 0; statement = 3; line = replies.Row ((values.Int (pos 1)) ∷ []) } ∷ record { session = 0; statement = 3; line = replies.Tag (codes "SELECT 1") } ∷ record { session = 1; statement = 1; line = replies.Tag (codes "UPDATE 1") } ∷ record { session = 0; statement = 4; line = replies.Error (record { 0 = codes "40001" }) (codes "could not serialize access due to concurrent update") } ∷ record { session = 0; statement = 5; line = replies.Tag (codes "ROLLBACK") } ∷ [])
unfolding row_behind_snapshot-end run_from step effect effects_of plan_of error_effects row_step insert_step queued_by queued_by_statement child_check no_action_check restrict_check action_targets new_rows targets digits
row_behind_snapshot-replies = refl

row_behind_snapshot-tables : final_tables row_behind_snapshot row_behind_snapshot-end ≡ ((((values.Int (pos 2)) ∷ []) ∷ []) ∷ [])
unfolding row_behind_snapshot row_behind_snapshot-end run_from step effect effects_of plan_of error_effects row_step insert_step queued_by queued_by_statement child_check no_action_check restrict_check action_targets new_rows targets
row_behind_snapshot-tables = refl

-- \setup
-- CREATE TABLE p (id integer PRIMARY KEY);
-- \session a
-- INSERT INTO p VALUES (1); BEGIN; SELECT id FROM p FOR NO KEY UPDATE; COMMIT;
-- \session b
-- BEGIN; SELECT id FROM p FOR KEY SHARE; COMMIT; SELECT id FROM p FOR SHARE;
-- \schedule a*9 b*6 b*2 a*2 b*3 a
unfoldable pub weak_locks : Program
weak_locks =
    record {
      schema = record {
        catalog = record {
          tables = (record { name = codes "p"; cols = (record { name = codes "id"; kind = kinds.Integer; default = values.Null } ∷ []); not_null = (0 ∷ []) } ∷ []);
          keys = (record { name = codes "p_pkey"; table = 0; cols = (0 ∷ []) } ∷ []);
          primaries = (0 ∷ []);
          fks = [];
          constraints = (record { name = codes "p_pkey"; table = 0; decl = record { deferrable = false; deferred = false } } ∷ []);
          functions = [];
          triggers = [];
        };
        conditions = [];
        codes = [];
        rules = [];
      };
      names = (codes "a" ∷ codes "b" ∷ []);
      statements = (((Ready (Changes_rows (Inserts (record { table = 0; columns = None; source = Values (((Value_of (Constant (values.Int (pos 1)))) ∷ []) ∷ []) })))) ∷ (Ready (Begins isolations.ReadCommitted)) ∷ (Ready (Selects (record { columns = (Some (0 ∷ [])); table = 0; condition = None; lock = (Some lock_modes.NoKeyUpdate) }))) ∷ (Ready Commits) ∷ []) ∷ ((Ready (Begins isolations.ReadCommitted)) ∷ (Ready (Selects (record { columns = (Some (0 ∷ [])); table = 0; condition = None; lock = (Some lock_modes.KeyShare) }))) ∷ (Ready Commits) ∷ (Ready (Selects (record { columns = (Some (0 ∷ [])); table = 0; condition = None; lock = (Some lock_modes.Share) }))) ∷ []) ∷ []);
    }

weak_locks-end : State
unfolding weak_locks run_from step effect effects_of plan_of error_effects row_step insert_step queued_by queued_by_statement child_check no_action_check restrict_check action_targets new_rows targets
weak_locks-end = run weak_locks (replicate 9 0 ++ replicate 8 1 ++ replicate 2 0 ++ replicate 3 1 ++ replicate 1 0)

weak_locks-ended : have_all_ended weak_locks-end ≡ true
unfolding weak_locks-end run_from step effect effects_of plan_of error_effects row_step insert_step queued_by queued_by_statement child_check no_action_check restrict_check action_targets new_rows targets
weak_locks-ended = refl

weak_locks-not_before : have_all_ended (run weak_locks (replicate 9 0 ++ replicate 8 1 ++ replicate 2 0 ++ replicate 3 1)) ≡ false
unfolding weak_locks run_from step effect effects_of plan_of error_effects row_step insert_step queued_by queued_by_statement child_check no_action_check restrict_check action_targets new_rows targets
weak_locks-not_before = refl

weak_locks-replies : weak_locks-end.world.replies ≡ (record { session = 0; statement = 1; line = replies.Tag (codes "INSERT 0 1") } ∷ record { session = 0; statement = 2; line = replies.Tag (codes "BEGIN") } ∷ record { session = 0; statement = 3; line = replies.Row ((values.Int (pos 1)) ∷ []) } ∷ record { session = 0; statement = 3; line = replies.Tag (codes "SELECT 1") } ∷ record { session = 1; statement = 1; line = replies.Tag (codes "BEGIN") } ∷ record { session = 1; statement = 2; line = replies.Row ((values.Int (pos 1)) ∷ []) } ∷ record { session = 1; statement = 2; line = replies.Tag (codes "SELECT 1") } ∷ record { session = 1; statement = 3; line = replies.Tag (codes "COMMIT") } ∷ record { session = 0; statement = 4; line = replies.Tag (codes "COMMIT") } ∷ record { session = 1; statement = 4; line = replies.Row ((values.Int (pos 1)) ∷ []) } ∷ record { session = 1; statement = 4; line = replies.Tag (codes "SELECT 1") } ∷ [])
unfolding weak_locks-end run_from step effect effects_of plan_of error_effects row_step insert_step queued_by queued_by_statement child_check no_action_check restrict_check action_targets new_rows targets digits
weak_locks-replies = refl

weak_locks-tables : final_tables weak_locks weak_locks-end ≡ ((((values.Int (pos 1)) ∷ []) ∷ []) ∷ [])
unfolding weak_locks weak_locks-end run_from step effect effects_of plan_of error_effects row_step insert_step queued_by queued_by_statement child_check no_action_check restrict_check action_targets new_rows targets
weak_locks-tables = refl

-- \setup
-- CREATE TABLE p (id integer PRIMARY KEY);CREATE TABLE c (pid integer REFERENCES p );
-- \session a
-- INSERT INTO p VALUES (1); BEGIN; DELETE FROM p; COMMIT;
-- \session b
-- INSERT INTO c VALUES (1);
-- \schedule a*12 b*5 a*3 b*2
unfoldable pub check_waits_for_parent : Program
check_waits_for_parent =
    record {
      schema = record {
        catalog = record {
          tables = (record { name = codes "p"; cols = (record { name = codes "id"; kind = kinds.Integer; default = values.Null } ∷ []); not_null = (0 ∷ []) } ∷ record { name = codes "c"; cols = (record { name = codes "pid"; kind = kinds.Integer; default = values.Null } ∷ []); not_null = [] } ∷ []);
          keys = (record { name = codes "p_pkey"; table = 0; cols = (0 ∷ []) } ∷ []);
          primaries = (0 ∷ []);
          fks = (record { name = codes "c_pid_fkey"; child = 1; child_cols = (0 ∷ []); parent = 0; parent_cols = (0 ∷ []); full = false; on_delete = actions.NoAction; on_update = actions.NoAction; con = 1; set_cols = (0 ∷ []) } ∷ []);
          constraints = (record { name = codes "p_pkey"; table = 0; decl = record { deferrable = false; deferred = false } } ∷ record { name = codes "c_pid_fkey"; table = 1; decl = record { deferrable = false; deferred = false } } ∷ []);
          functions = [];
          triggers = (record { name = codes "RI_ConstraintTrigger_a_0000000001"; table = 0; ops = (ops.Delete ∷ []); cols = ([]); level = each.Row; condition = None; con = (Some 1); does = Parent 0; old_table = None; new_table = None } ∷ record { name = codes "RI_ConstraintTrigger_a_0000000001"; table = 0; ops = (ops.Update ∷ []); cols = ([]); level = each.Row; condition = None; con = (Some 1); does = Parent 0; old_table = None; new_table = None } ∷ record { name = codes "RI_ConstraintTrigger_c_0000000001"; table = 1; ops = (ops.Insert ∷ ops.Update ∷ []); cols = ([]); level = each.Row; condition = None; con = (Some 1); does = Check 0; old_table = None; new_table = None } ∷ []);
        };
        conditions = (None ∷ None ∷ None ∷ []);
        codes = ([] ∷ [] ∷ [] ∷ []);
        rules = [];
      };
      names = (codes "a" ∷ codes "b" ∷ []);
      statements = (((Ready (Changes_rows (Inserts (record { table = 0; columns = None; source = Values (((Value_of (Constant (values.Int (pos 1)))) ∷ []) ∷ []) })))) ∷ (Ready (Begins isolations.ReadCommitted)) ∷ (Ready (Changes_rows (Deletes (record { table = 0; condition = None })))) ∷ (Ready Commits) ∷ []) ∷ ((Ready (Changes_rows (Inserts (record { table = 1; columns = None; source = Values (((Value_of (Constant (values.Int (pos 1)))) ∷ []) ∷ []) })))) ∷ []) ∷ []);
    }

check_waits_for_parent-end : State
unfolding check_waits_for_parent run_from step effect effects_of plan_of error_effects row_step insert_step queued_by queued_by_statement child_check no_action_check restrict_check action_targets new_rows targets
check_waits_for_parent-end = run check_waits_for_parent (replicate 12 0 ++ replicate 5 1 ++ replicate 3 0 ++ replicate 2 1)

check_waits_for_parent-ended : have_all_ended check_waits_for_parent-end ≡ true
unfolding check_waits_for_parent-end run_from step effect effects_of plan_of error_effects row_step insert_step queued_by queued_by_statement child_check no_action_check restrict_check action_targets new_rows targets
check_waits_for_parent-ended = refl

check_waits_for_parent-not_before : have_all_ended (run check_waits_for_parent (replicate 12 0 ++ replicate 5 1 ++ replicate 3 0 ++ replicate 1 1)) ≡ false
unfolding check_waits_for_parent run_from step effect effects_of plan_of error_effects row_step insert_step queued_by queued_by_statement child_check no_action_check restrict_check action_targets new_rows targets
check_waits_for_parent-not_before = refl

check_waits_for_parent-replies : check_waits_for_parent-end.world.replies ≡ (record { session = 0; statement = 1; line = replies.Tag (codes "INSERT 0 1") } ∷ record { session = 0; statement = 2; line = replies.Tag (codes "BEGIN") } ∷ record { session = 0; statement = 3; line = replies.Tag (codes "DELETE 1") } ∷ record { session = 0; statement = 4; line = replies.Tag (codes "COMMIT") } ∷ record { session = 1; statement = 1; line = replies.Error (record { 0 = codes "23503" }) (codes "insert or update on table \"c\" violates foreign key constraint \"c_pid_fkey\"") } ∷ record { session = 1; statement = 1; line = replies.Detail (codes "Key (pid)=(1) is not present in table \"p\".") } ∷ [])
unfolding check_waits_for_parent-end run_from step effect effects_of plan_of error_effects row_step insert_step queued_by queued_by_statement child_check no_action_check restrict_check action_targets new_rows targets digits
check_waits_for_parent-replies = refl

check_waits_for_parent-tables : final_tables check_waits_for_parent check_waits_for_parent-end ≡ ([] ∷ [] ∷ [])
unfolding check_waits_for_parent check_waits_for_parent-end run_from step effect effects_of plan_of error_effects row_step insert_step queued_by queued_by_statement child_check no_action_check restrict_check action_targets new_rows targets
check_waits_for_parent-tables = refl

-- \setup
-- CREATE TABLE t (a integer, b integer); CREATE TABLE log (n integer);CREATE FUNCTION f() RETURNS trigger LANGUAGE plpgsql AS $$ BEGIN INSERT INTO log VALUES (1); RETURN NULL; END $$;CREATE TRIGGER x AFTER UPDATE OF b ON t FOR EACH STATEMENT EXECUTE FUNCTION f();
-- \session a
-- UPDATE t SET a = 1; UPDATE t SET b = 1;
unfoldable pub update_of_another_column : Program
update_of_another_column =
    record {
      schema = record {
        catalog = record {
          tables = (record { name = codes "t"; cols = (record { name = codes "a"; kind = kinds.Integer; default = values.Null } ∷ record { name = codes "b"; kind = kinds.Integer; default = values.Null } ∷ []); not_null = [] } ∷ record { name = codes "log"; cols = (record { name = codes "n"; kind = kinds.Integer; default = values.Null } ∷ []); not_null = [] } ∷ []);
          keys = [];
          primaries = ([]);
          fks = [];
          constraints = [];
          functions = [];
          triggers = (record { name = codes "x"; table = 0; ops = (ops.Update ∷ []); cols = (1 ∷ []); level = each.Statement; condition = None; con = None; does = Body (record { statements = []; handlers = [] }); old_table = None; new_table = None } ∷ []);
        };
        conditions = (None ∷ []);
        codes = ((block_code (joined ((Changes (Inserts (record { table = 1; columns = None; source = Values (((Value_of (Constant (values.Int (pos 1)))) ∷ []) ∷ []) })) ∷ []) ∷ (Returns ∷ []) ∷ [])) []) ∷ []);
        rules = [];
      };
      names = (codes "a" ∷ []);
      statements = (((Ready (Changes_rows (Updates (record { table = 0; assignments = (record { column = 0; value = (Value_of (Constant (values.Int (pos 1)))) } ∷ []); condition = None })))) ∷ (Ready (Changes_rows (Updates (record { table = 0; assignments = (record { column = 1; value = (Value_of (Constant (values.Int (pos 1)))) } ∷ []); condition = None })))) ∷ []) ∷ []);
    }

update_of_another_column-end : State
unfolding update_of_another_column run_from step effect effects_of plan_of error_effects row_step insert_step queued_by queued_by_statement child_check no_action_check restrict_check action_targets new_rows targets
update_of_another_column-end = run update_of_another_column (replicate 16 0)

update_of_another_column-ended : have_all_ended update_of_another_column-end ≡ true
unfolding update_of_another_column-end run_from step effect effects_of plan_of error_effects row_step insert_step queued_by queued_by_statement child_check no_action_check restrict_check action_targets new_rows targets
update_of_another_column-ended = refl

update_of_another_column-not_before : have_all_ended (run update_of_another_column (replicate 15 0)) ≡ false
unfolding update_of_another_column run_from step effect effects_of plan_of error_effects row_step insert_step queued_by queued_by_statement child_check no_action_check restrict_check action_targets new_rows targets
update_of_another_column-not_before = refl

update_of_another_column-replies : update_of_another_column-end.world.replies ≡ (record { session = 0; statement = 1; line = replies.Tag (codes "UPDATE 0") } ∷ record { session = 0; statement = 2; line = replies.Tag (codes "UPDATE 0") } ∷ [])
unfolding update_of_another_column-end run_from step effect effects_of plan_of error_effects row_step insert_step queued_by queued_by_statement child_check no_action_check restrict_check action_targets new_rows targets digits
update_of_another_column-replies = refl

update_of_another_column-tables : final_tables update_of_another_column update_of_another_column-end ≡ ([] ∷ (((values.Int (pos 1)) ∷ []) ∷ []) ∷ [])
unfolding update_of_another_column update_of_another_column-end run_from step effect effects_of plan_of error_effects row_step insert_step queued_by queued_by_statement child_check no_action_check restrict_check action_targets new_rows targets
update_of_another_column-tables = refl

-- \setup
-- CREATE TABLE t (id integer); CREATE TABLE u (id integer PRIMARY KEY); CREATE FUNCTION f() RETURNS trigger LANGUAGE plpgsql AS $$ BEGIN INSERT INTO u VALUES (NEW.id); RETURN NULL; EXCEPTION WHEN unique_violation THEN RETURN NULL; END $$; CREATE TRIGGER x AFTER INSERT ON t FOR EACH ROW EXECUTE FUNCTION f();
-- \session a
-- INSERT INTO t VALUES (1), (1), (2);
unfoldable pub caught_duplicate : Program
caught_duplicate =
    record {
      schema = record {
        catalog = record {
          tables = (record { name = codes "t"; cols = (record { name = codes "id"; kind = kinds.Integer; default = values.Null } ∷ []); not_null = [] } ∷ record { name = codes "u"; cols = (record { name = codes "id"; kind = kinds.Integer; default = values.Null } ∷ []); not_null = (0 ∷ []) } ∷ []);
          keys = (record { name = codes "u_pkey"; table = 1; cols = (0 ∷ []) } ∷ []);
          primaries = (0 ∷ []);
          fks = [];
          constraints = (record { name = codes "u_pkey"; table = 1; decl = record { deferrable = false; deferred = false } } ∷ []);
          functions = [];
          triggers = (record { name = codes "x"; table = 0; ops = (ops.Insert ∷ []); cols = ([]); level = each.Row; condition = None; con = None; does = Body (record { statements = []; handlers = [] }); old_table = None; new_table = None } ∷ []);
        };
        conditions = (None ∷ []);
        codes = ((block_code (joined ((Changes (Inserts (record { table = 1; columns = None; source = Values (((Value_of (New 0)) ∷ []) ∷ []) })) ∷ []) ∷ (Returns ∷ []) ∷ [])) (((conditions.UniqueViolation ∷ []), (joined ((Returns ∷ []) ∷ []))) ∷ [])) ∷ []);
        rules = [];
      };
      names = (codes "a" ∷ []);
      statements = (((Ready (Changes_rows (Inserts (record { table = 0; columns = None; source = Values (((Value_of (Constant (values.Int (pos 1)))) ∷ []) ∷ ((Value_of (Constant (values.Int (pos 1)))) ∷ []) ∷ ((Value_of (Constant (values.Int (pos 2)))) ∷ []) ∷ []) })))) ∷ []) ∷ []);
    }

caught_duplicate-end : State
unfolding caught_duplicate run_from step effect effects_of plan_of error_effects row_step insert_step queued_by queued_by_statement child_check no_action_check restrict_check action_targets new_rows targets
caught_duplicate-end = run caught_duplicate (replicate 28 0)

caught_duplicate-ended : have_all_ended caught_duplicate-end ≡ true
unfolding caught_duplicate-end run_from step effect effects_of plan_of error_effects row_step insert_step queued_by queued_by_statement child_check no_action_check restrict_check action_targets new_rows targets
caught_duplicate-ended = refl

caught_duplicate-not_before : have_all_ended (run caught_duplicate (replicate 27 0)) ≡ false
unfolding caught_duplicate run_from step effect effects_of plan_of error_effects row_step insert_step queued_by queued_by_statement child_check no_action_check restrict_check action_targets new_rows targets
caught_duplicate-not_before = refl

caught_duplicate-replies : caught_duplicate-end.world.replies ≡ (record { session = 0; statement = 1; line = replies.Tag (codes "INSERT 0 3") } ∷ [])
unfolding caught_duplicate-end run_from step effect effects_of plan_of error_effects row_step insert_step queued_by queued_by_statement child_check no_action_check restrict_check action_targets new_rows targets digits
caught_duplicate-replies = refl

caught_duplicate-tables : final_tables caught_duplicate caught_duplicate-end ≡ ((((values.Int (pos 1)) ∷ []) ∷ ((values.Int (pos 1)) ∷ []) ∷ ((values.Int (pos 2)) ∷ []) ∷ []) ∷ (((values.Int (pos 1)) ∷ []) ∷ ((values.Int (pos 2)) ∷ []) ∷ []) ∷ [])
unfolding caught_duplicate caught_duplicate-end run_from step effect effects_of plan_of error_effects row_step insert_step queued_by queued_by_statement child_check no_action_check restrict_check action_targets new_rows targets
caught_duplicate-tables = refl

caught_duplicate-trace : caught_duplicate-end.world.trace ≡ (traces.Begin (codes "a") isolations.ReadCommitted ∷ traces.Open (codes "a") 1 ∷ traces.Change (codes "a") (codes "t") 1 None (Some ((values.Int (pos 1)) ∷ [])) (record { no = 1; trigger = codes "x" } ∷ []) ∷ traces.Change (codes "a") (codes "t") 2 None (Some ((values.Int (pos 1)) ∷ [])) (record { no = 2; trigger = codes "x" } ∷ []) ∷ traces.Change (codes "a") (codes "t") 3 None (Some ((values.Int (pos 2)) ∷ [])) (record { no = 3; trigger = codes "x" } ∷ []) ∷ traces.Round (codes "a") ∷ traces.Fire (codes "a") 1 ∷ traces.Block (codes "a") 1 ∷ traces.Open (codes "a") 2 ∷ traces.Change (codes "a") (codes "u") 4 None (Some ((values.Int (pos 1)) ∷ [])) [] ∷ traces.Close (codes "a") 2 ∷ traces.Unblock (codes "a") 1 ∷ traces.Done (codes "a") 1 endings.Ran ∷ traces.Fire (codes "a") 2 ∷ traces.Block (codes "a") 1 ∷ traces.Open (codes "a") 2 ∷ traces.Caught (codes "a") 1 (record { 0 = codes "23505" }) ∷ traces.Done (codes "a") 2 endings.Ran ∷ traces.Fire (codes "a") 3 ∷ traces.Block (codes "a") 1 ∷ traces.Open (codes "a") 2 ∷ traces.Change (codes "a") (codes "u") 5 None (Some ((values.Int (pos 2)) ∷ [])) [] ∷ traces.Close (codes "a") 2 ∷ traces.Unblock (codes "a") 1 ∷ traces.Done (codes "a") 3 endings.Ran ∷ traces.Close (codes "a") 1 ∷ traces.Drain (codes "a") ∷ traces.Commit (codes "a") 1 ∷ traces.Reply (codes "a") 1 ∷ traces.End (codes "a") ∷ [])
unfolding caught_duplicate-end run_from step effect effects_of plan_of error_effects row_step insert_step queued_by queued_by_statement child_check no_action_check restrict_check action_targets new_rows targets
caught_duplicate-trace = refl

-- \setup
-- CREATE TABLE p (id integer PRIMARY KEY);CREATE TABLE c (pid integer REFERENCES p DEFERRABLE INITIALLY DEFERRED);CREATE TABLE t (id integer);CREATE FUNCTION f() RETURNS trigger LANGUAGE plpgsql AS $$ BEGIN SET CONSTRAINTS ALL IMMEDIATE; RAISE EXCEPTION 'no'; EXCEPTION WHEN OTHERS THEN RETURN NULL; END $$;CREATE TRIGGER x AFTER INSERT ON t FOR EACH ROW EXECUTE FUNCTION f();
-- \session a
-- INSERT INTO p VALUES (1); BEGIN; INSERT INTO c VALUES (1); INSERT INTO t VALUES (1); DELETE FROM p; COMMIT;
unfoldable pub modes_and_locks_put_back : Program
modes_and_locks_put_back =
    record {
      schema = record {
        catalog = record {
          tables = (record { name = codes "p"; cols = (record { name = codes "id"; kind = kinds.Integer; default = values.Null } ∷ []); not_null = (0 ∷ []) } ∷ record { name = codes "c"; cols = (record { name = codes "pid"; kind = kinds.Integer; default = values.Null } ∷ []); not_null = [] } ∷ record { name = codes "t"; cols = (record { name = codes "id"; kind = kinds.Integer; default = values.Null } ∷ []); not_null = [] } ∷ []);
          keys = (record { name = codes "p_pkey"; table = 0; cols = (0 ∷ []) } ∷ []);
          primaries = (0 ∷ []);
          fks = (record { name = codes "c_pid_fkey"; child = 1; child_cols = (0 ∷ []); parent = 0; parent_cols = (0 ∷ []); full = false; on_delete = actions.NoAction; on_update = actions.NoAction; con = 1; set_cols = (0 ∷ []) } ∷ []);
          constraints = (record { name = codes "p_pkey"; table = 0; decl = record { deferrable = false; deferred = false } } ∷ record { name = codes "c_pid_fkey"; table = 1; decl = record { deferrable = true; deferred = true } } ∷ []);
          functions = [];
          triggers = (record { name = codes "RI_ConstraintTrigger_a_0000000001"; table = 0; ops = (ops.Delete ∷ []); cols = ([]); level = each.Row; condition = None; con = (Some 1); does = Parent 0; old_table = None; new_table = None } ∷ record { name = codes "RI_ConstraintTrigger_a_0000000001"; table = 0; ops = (ops.Update ∷ []); cols = ([]); level = each.Row; condition = None; con = (Some 1); does = Parent 0; old_table = None; new_table = None } ∷ record { name = codes "RI_ConstraintTrigger_c_0000000001"; table = 1; ops = (ops.Insert ∷ ops.Update ∷ []); cols = ([]); level = each.Row; condition = None; con = (Some 1); does = Check 0; old_table = None; new_table = None } ∷ record { name = codes "x"; table = 2; ops = (ops.Insert ∷ []); cols = ([]); level = each.Row; condition = None; con = None; does = Body (record { statements = []; handlers = [] }); old_table = None; new_table = None } ∷ []);
        };
        conditions = (None ∷ None ∷ None ∷ None ∷ []);
        codes = ([] ∷ [] ∷ [] ∷ (block_code (joined ((Sets (record { constraints = constrained.All; mode = modes.Immediate }) ∷ []) ∷ (Raises (codes "no") ∷ []) ∷ [])) (((conditions.Others ∷ []), (joined ((Returns ∷ []) ∷ []))) ∷ [])) ∷ []);
        rules = [];
      };
      names = (codes "a" ∷ []);
      statements = (((Ready (Changes_rows (Inserts (record { table = 0; columns = None; source = Values (((Value_of (Constant (values.Int (pos 1)))) ∷ []) ∷ []) })))) ∷ (Ready (Begins isolations.ReadCommitted)) ∷ (Ready (Changes_rows (Inserts (record { table = 1; columns = None; source = Values (((Value_of (Constant (values.Int (pos 1)))) ∷ []) ∷ []) })))) ∷ (Ready (Changes_rows (Inserts (record { table = 2; columns = None; source = Values (((Value_of (Constant (values.Int (pos 1)))) ∷ []) ∷ []) })))) ∷ (Ready (Changes_rows (Deletes (record { table = 0; condition = None })))) ∷ (Ready Commits) ∷ []) ∷ []);
    }

modes_and_locks_put_back-end : State
unfolding modes_and_locks_put_back run_from step effect effects_of plan_of error_effects row_step insert_step queued_by queued_by_statement child_check no_action_check restrict_check action_targets new_rows targets
modes_and_locks_put_back-end = run modes_and_locks_put_back (replicate 31 0)

modes_and_locks_put_back-ended : have_all_ended modes_and_locks_put_back-end ≡ true
unfolding modes_and_locks_put_back-end run_from step effect effects_of plan_of error_effects row_step insert_step queued_by queued_by_statement child_check no_action_check restrict_check action_targets new_rows targets
modes_and_locks_put_back-ended = refl

modes_and_locks_put_back-not_before : have_all_ended (run modes_and_locks_put_back (replicate 30 0)) ≡ false
unfolding modes_and_locks_put_back run_from step effect effects_of plan_of error_effects row_step insert_step queued_by queued_by_statement child_check no_action_check restrict_check action_targets new_rows targets
modes_and_locks_put_back-not_before = refl

modes_and_locks_put_back-replies : modes_and_locks_put_back-end.world.replies ≡ (record { session = 0; statement = 1; line = replies.Tag (codes "INSERT 0 1") } ∷ record { session = 0; statement = 2; line = replies.Tag (codes "BEGIN") } ∷ record { session = 0; statement = 3; line = replies.Tag (codes "INSERT 0 1") } ∷ record { session = 0; statement = 4; line = replies.Tag (codes "INSERT 0 1") } ∷ record { session = 0; statement = 5; line = replies.Tag (codes "DELETE 1") } ∷ record { session = 0; statement = 6; line = replies.Error (record { 0 = codes "23503" }) (codes "insert or update on table \"c\" violates foreign key constraint \"c_pid_fkey\"") } ∷ record { session = 0; statement = 6; line = replies.Detail (codes "Key (pid)=(1) is not present in table \"p\".") } ∷ [])
unfolding modes_and_locks_put_back-end run_from step effect effects_of plan_of error_effects row_step insert_step queued_by queued_by_statement child_check no_action_check restrict_check action_targets new_rows targets digits
modes_and_locks_put_back-replies = refl

modes_and_locks_put_back-tables : final_tables modes_and_locks_put_back modes_and_locks_put_back-end ≡ ((((values.Int (pos 1)) ∷ []) ∷ []) ∷ [] ∷ [] ∷ [])
unfolding modes_and_locks_put_back modes_and_locks_put_back-end run_from step effect effects_of plan_of error_effects row_step insert_step queued_by queued_by_statement child_check no_action_check restrict_check action_targets new_rows targets
modes_and_locks_put_back-tables = refl

-- \setup
-- CREATE TABLE pair (a integer, b integer, PRIMARY KEY (a, b)); CREATE TABLE kid (x integer, y integer, FOREIGN KEY (x, y) REFERENCES pair ON DELETE SET NULL (y));
-- \session a
-- INSERT INTO pair VALUES (1, 2); INSERT INTO kid VALUES (1, 2); DELETE FROM pair;
unfoldable pub one_column_set_null : Program
one_column_set_null =
    record {
      schema = record {
        catalog = record {
          tables = (record { name = codes "pair"; cols = (record { name = codes "a"; kind = kinds.Integer; default = values.Null } ∷ record { name = codes "b"; kind = kinds.Integer; default = values.Null } ∷ []); not_null = (0 ∷ 1 ∷ []) } ∷ record { name = codes "kid"; cols = (record { name = codes "x"; kind = kinds.Integer; default = values.Null } ∷ record { name = codes "y"; kind = kinds.Integer; default = values.Null } ∷ []); not_null = [] } ∷ []);
          keys = (record { name = codes "pair_pkey"; table = 0; cols = (0 ∷ 1 ∷ []) } ∷ []);
          primaries = (0 ∷ []);
          fks = (record { name = codes "kid_x_y_fkey"; child = 1; child_cols = (0 ∷ 1 ∷ []); parent = 0; parent_cols = (0 ∷ 1 ∷ []); full = false; on_delete = actions.SetNull; on_update = actions.NoAction; con = 1; set_cols = (1 ∷ []) } ∷ []);
          constraints = (record { name = codes "pair_pkey"; table = 0; decl = record { deferrable = false; deferred = false } } ∷ record { name = codes "kid_x_y_fkey"; table = 1; decl = record { deferrable = false; deferred = false } } ∷ []);
          functions = [];
          triggers = (record { name = codes "RI_ConstraintTrigger_a_0000000001"; table = 0; ops = (ops.Delete ∷ []); cols = ([]); level = each.Row; condition = None; con = None; does = Parent 0; old_table = None; new_table = None } ∷ record { name = codes "RI_ConstraintTrigger_a_0000000001"; table = 0; ops = (ops.Update ∷ []); cols = ([]); level = each.Row; condition = None; con = (Some 1); does = Parent 0; old_table = None; new_table = None } ∷ record { name = codes "RI_ConstraintTrigger_c_0000000001"; table = 1; ops = (ops.Insert ∷ ops.Update ∷ []); cols = ([]); level = each.Row; condition = None; con = (Some 1); does = Check 0; old_table = None; new_table = None } ∷ []);
        };
        conditions = (None ∷ None ∷ None ∷ []);
        codes = ([] ∷ [] ∷ [] ∷ []);
        rules = [];
      };
      names = (codes "a" ∷ []);
      statements = (((Ready (Changes_rows (Inserts (record { table = 0; columns = None; source = Values (((Value_of (Constant (values.Int (pos 1)))) ∷ (Value_of (Constant (values.Int (pos 2)))) ∷ []) ∷ []) })))) ∷ (Ready (Changes_rows (Inserts (record { table = 1; columns = None; source = Values (((Value_of (Constant (values.Int (pos 1)))) ∷ (Value_of (Constant (values.Int (pos 2)))) ∷ []) ∷ []) })))) ∷ (Ready (Changes_rows (Deletes (record { table = 0; condition = None })))) ∷ []) ∷ []);
    }

one_column_set_null-end : State
unfolding one_column_set_null run_from step effect effects_of plan_of error_effects row_step insert_step queued_by queued_by_statement child_check no_action_check restrict_check action_targets new_rows targets
one_column_set_null-end = run one_column_set_null (replicate 22 0)

one_column_set_null-ended : have_all_ended one_column_set_null-end ≡ true
unfolding one_column_set_null-end run_from step effect effects_of plan_of error_effects row_step insert_step queued_by queued_by_statement child_check no_action_check restrict_check action_targets new_rows targets
one_column_set_null-ended = refl

one_column_set_null-not_before : have_all_ended (run one_column_set_null (replicate 21 0)) ≡ false
unfolding one_column_set_null run_from step effect effects_of plan_of error_effects row_step insert_step queued_by queued_by_statement child_check no_action_check restrict_check action_targets new_rows targets
one_column_set_null-not_before = refl

one_column_set_null-replies : one_column_set_null-end.world.replies ≡ (record { session = 0; statement = 1; line = replies.Tag (codes "INSERT 0 1") } ∷ record { session = 0; statement = 2; line = replies.Tag (codes "INSERT 0 1") } ∷ record { session = 0; statement = 3; line = replies.Tag (codes "DELETE 1") } ∷ [])
unfolding one_column_set_null-end run_from step effect effects_of plan_of error_effects row_step insert_step queued_by queued_by_statement child_check no_action_check restrict_check action_targets new_rows targets digits
one_column_set_null-replies = refl

one_column_set_null-tables : final_tables one_column_set_null one_column_set_null-end ≡ ([] ∷ (((values.Int (pos 1)) ∷ values.Null ∷ []) ∷ []) ∷ [])
unfolding one_column_set_null one_column_set_null-end run_from step effect effects_of plan_of error_effects row_step insert_step queued_by queued_by_statement child_check no_action_check restrict_check action_targets new_rows targets
one_column_set_null-tables = refl

-- \setup
-- CREATE TABLE t (a integer, b integer);
-- CREATE TRIGGER n AFTER INSERT OR UPDATE ON t FOR EACH ROW EXECUTE FUNCTION native_append();
-- \session a
-- INSERT INTO t VALUES (1, 5); UPDATE t SET b = 6; UPDATE t SET b = 4;
unfoldable pub appended_by_native : Program
appended_by_native =
    record {
      schema = record {
        catalog = record {
          tables = (record { name = codes "t"; cols = (record { name = codes "a"; kind = kinds.Integer; default = values.Null } ∷ record { name = codes "b"; kind = kinds.Integer; default = values.Null } ∷ []); not_null = [] } ∷ []);
          keys = [];
          primaries = ([]);
          fks = [];
          constraints = [];
          functions = [];
          triggers = (record { name = codes "n"; table = 0; ops = (ops.Insert ∷ ops.Update ∷ []); cols = ([]); level = each.Row; condition = None; con = None; does = Native (codes "native_append"); old_table = None; new_table = None } ∷ []);
        };
        conditions = (None ∷ []);
        codes = ([] ∷ []);
        rules = ((codes "native_append", Both (Same 0) (Rises 1)) ∷ []);
      };
      names = (codes "a" ∷ []);
      statements = (((Ready (Changes_rows (Inserts (record { table = 0; columns = None; source = Values (((Value_of (Constant (values.Int (pos 1)))) ∷ (Value_of (Constant (values.Int (pos 5)))) ∷ []) ∷ []) })))) ∷ (Ready (Changes_rows (Updates (record { table = 0; assignments = (record { column = 1; value = (Value_of (Constant (values.Int (pos 6)))) } ∷ []); condition = None })))) ∷ (Ready (Changes_rows (Updates (record { table = 0; assignments = (record { column = 1; value = (Value_of (Constant (values.Int (pos 4)))) } ∷ []); condition = None })))) ∷ []) ∷ []);
    }

appended_by_native-end : State
unfolding appended_by_native run_from step effect effects_of plan_of error_effects row_step insert_step queued_by queued_by_statement child_check no_action_check restrict_check action_targets new_rows targets
appended_by_native-end = run appended_by_native (replicate 20 0)

appended_by_native-ended : have_all_ended appended_by_native-end ≡ true
unfolding appended_by_native-end run_from step effect effects_of plan_of error_effects row_step insert_step queued_by queued_by_statement child_check no_action_check restrict_check action_targets new_rows targets
appended_by_native-ended = refl

appended_by_native-not_before : have_all_ended (run appended_by_native (replicate 19 0)) ≡ false
unfolding appended_by_native run_from step effect effects_of plan_of error_effects row_step insert_step queued_by queued_by_statement child_check no_action_check restrict_check action_targets new_rows targets
appended_by_native-not_before = refl

appended_by_native-replies : appended_by_native-end.world.replies ≡ (record { session = 0; statement = 1; line = replies.Tag (codes "INSERT 0 1") } ∷ record { session = 0; statement = 2; line = replies.Tag (codes "UPDATE 1") } ∷ record { session = 0; statement = 3; line = replies.Error (record { 0 = codes "P0001" }) (codes "native check \"native_append\" is false") } ∷ record { session = 0; statement = 3; line = replies.Detail (codes "Failing row contains (1, 4).") } ∷ [])
unfolding appended_by_native-end run_from step effect effects_of plan_of error_effects row_step insert_step queued_by queued_by_statement child_check no_action_check restrict_check action_targets new_rows targets digits
appended_by_native-replies = refl

appended_by_native-tables : final_tables appended_by_native appended_by_native-end ≡ ((((values.Int (pos 1)) ∷ (values.Int (pos 6)) ∷ []) ∷ []) ∷ [])
unfolding appended_by_native appended_by_native-end run_from step effect effects_of plan_of error_effects row_step insert_step queued_by queued_by_statement child_check no_action_check restrict_check action_targets new_rows targets
appended_by_native-tables = refl

-- \setup
-- CREATE TABLE p (id integer PRIMARY KEY);CREATE TABLE c (pid integer REFERENCES p );
-- \session a
-- INSERT INTO p VALUES (1); INSERT INTO c VALUES (1); INSERT INTO c VALUES (2);
unfoldable pub missing_parent_traced : Program
missing_parent_traced =
    record {
      schema = record {
        catalog = record {
          tables = (record { name = codes "p"; cols = (record { name = codes "id"; kind = kinds.Integer; default = values.Null } ∷ []); not_null = (0 ∷ []) } ∷ record { name = codes "c"; cols = (record { name = codes "pid"; kind = kinds.Integer; default = values.Null } ∷ []); not_null = [] } ∷ []);
          keys = (record { name = codes "p_pkey"; table = 0; cols = (0 ∷ []) } ∷ []);
          primaries = (0 ∷ []);
          fks = (record { name = codes "c_pid_fkey"; child = 1; child_cols = (0 ∷ []); parent = 0; parent_cols = (0 ∷ []); full = false; on_delete = actions.NoAction; on_update = actions.NoAction; con = 1; set_cols = (0 ∷ []) } ∷ []);
          constraints = (record { name = codes "p_pkey"; table = 0; decl = record { deferrable = false; deferred = false } } ∷ record { name = codes "c_pid_fkey"; table = 1; decl = record { deferrable = false; deferred = false } } ∷ []);
          functions = [];
          triggers = (record { name = codes "RI_ConstraintTrigger_a_0000000001"; table = 0; ops = (ops.Delete ∷ []); cols = ([]); level = each.Row; condition = None; con = (Some 1); does = Parent 0; old_table = None; new_table = None } ∷ record { name = codes "RI_ConstraintTrigger_a_0000000001"; table = 0; ops = (ops.Update ∷ []); cols = ([]); level = each.Row; condition = None; con = (Some 1); does = Parent 0; old_table = None; new_table = None } ∷ record { name = codes "RI_ConstraintTrigger_c_0000000001"; table = 1; ops = (ops.Insert ∷ ops.Update ∷ []); cols = ([]); level = each.Row; condition = None; con = (Some 1); does = Check 0; old_table = None; new_table = None } ∷ []);
        };
        conditions = (None ∷ None ∷ None ∷ []);
        codes = ([] ∷ [] ∷ [] ∷ []);
        rules = [];
      };
      names = (codes "a" ∷ []);
      statements = (((Ready (Changes_rows (Inserts (record { table = 0; columns = None; source = Values (((Value_of (Constant (values.Int (pos 1)))) ∷ []) ∷ []) })))) ∷ (Ready (Changes_rows (Inserts (record { table = 1; columns = None; source = Values (((Value_of (Constant (values.Int (pos 1)))) ∷ []) ∷ []) })))) ∷ (Ready (Changes_rows (Inserts (record { table = 1; columns = None; source = Values (((Value_of (Constant (values.Int (pos 2)))) ∷ []) ∷ []) })))) ∷ []) ∷ []);
    }

missing_parent_traced-end : State
unfolding missing_parent_traced run_from step effect effects_of plan_of error_effects row_step insert_step queued_by queued_by_statement child_check no_action_check restrict_check action_targets new_rows targets
missing_parent_traced-end = run missing_parent_traced (replicate 18 0)

missing_parent_traced-ended : have_all_ended missing_parent_traced-end ≡ true
unfolding missing_parent_traced-end run_from step effect effects_of plan_of error_effects row_step insert_step queued_by queued_by_statement child_check no_action_check restrict_check action_targets new_rows targets
missing_parent_traced-ended = refl

missing_parent_traced-not_before : have_all_ended (run missing_parent_traced (replicate 17 0)) ≡ false
unfolding missing_parent_traced run_from step effect effects_of plan_of error_effects row_step insert_step queued_by queued_by_statement child_check no_action_check restrict_check action_targets new_rows targets
missing_parent_traced-not_before = refl

missing_parent_traced-replies : missing_parent_traced-end.world.replies ≡ (record { session = 0; statement = 1; line = replies.Tag (codes "INSERT 0 1") } ∷ record { session = 0; statement = 2; line = replies.Tag (codes "INSERT 0 1") } ∷ record { session = 0; statement = 3; line = replies.Error (record { 0 = codes "23503" }) (codes "insert or update on table \"c\" violates foreign key constraint \"c_pid_fkey\"") } ∷ record { session = 0; statement = 3; line = replies.Detail (codes "Key (pid)=(2) is not present in table \"p\".") } ∷ [])
unfolding missing_parent_traced-end run_from step effect effects_of plan_of error_effects row_step insert_step queued_by queued_by_statement child_check no_action_check restrict_check action_targets new_rows targets digits
missing_parent_traced-replies = refl

missing_parent_traced-tables : final_tables missing_parent_traced missing_parent_traced-end ≡ ((((values.Int (pos 1)) ∷ []) ∷ []) ∷ (((values.Int (pos 1)) ∷ []) ∷ []) ∷ [])
unfolding missing_parent_traced missing_parent_traced-end run_from step effect effects_of plan_of error_effects row_step insert_step queued_by queued_by_statement child_check no_action_check restrict_check action_targets new_rows targets
missing_parent_traced-tables = refl

missing_parent_traced-trace : missing_parent_traced-end.world.trace ≡ (traces.Begin (codes "a") isolations.ReadCommitted ∷ traces.Open (codes "a") 1 ∷ traces.Change (codes "a") (codes "p") 1 None (Some ((values.Int (pos 1)) ∷ [])) [] ∷ traces.Close (codes "a") 1 ∷ traces.Drain (codes "a") ∷ traces.Commit (codes "a") 1 ∷ traces.Reply (codes "a") 1 ∷ traces.Begin (codes "a") isolations.ReadCommitted ∷ traces.Open (codes "a") 1 ∷ traces.Change (codes "a") (codes "c") 2 None (Some ((values.Int (pos 1)) ∷ [])) (record { no = 1; trigger = codes "RI_ConstraintTrigger_c_0000000001" } ∷ []) ∷ traces.Round (codes "a") ∷ traces.Fire (codes "a") 1 ∷ traces.Done (codes "a") 1 endings.Passed ∷ traces.Close (codes "a") 1 ∷ traces.Drain (codes "a") ∷ traces.Commit (codes "a") 2 ∷ traces.Reply (codes "a") 2 ∷ traces.Begin (codes "a") isolations.ReadCommitted ∷ traces.Open (codes "a") 1 ∷ traces.Change (codes "a") (codes "c") 3 None (Some ((values.Int (pos 2)) ∷ [])) (record { no = 1; trigger = codes "RI_ConstraintTrigger_c_0000000001" } ∷ []) ∷ traces.Round (codes "a") ∷ traces.Fire (codes "a") 1 ∷ traces.Missing (codes "a") ((values.Int (pos 2)) ∷ []) 2 ∷ traces.Fail (codes "a") (record { 0 = codes "23503" }) ∷ traces.Abort (codes "a") ∷ traces.Reply (codes "a") 3 ∷ traces.End (codes "a") ∷ [])
unfolding missing_parent_traced-end run_from step effect effects_of plan_of error_effects row_step insert_step queued_by queued_by_statement child_check no_action_check restrict_check action_targets new_rows targets
missing_parent_traced-trace = refl

-- \setup
-- CREATE TABLE p (id integer PRIMARY KEY);CREATE TABLE c (pid integer REFERENCES p ON DELETE RESTRICT DEFERRABLE INITIALLY DEFERRED);
-- \session a
-- INSERT INTO p VALUES (5); INSERT INTO c VALUES (5); BEGIN; DELETE FROM p WHERE id = 5; INSERT INTO p VALUES (5); COMMIT;
unfoldable pub pair_traced : Program
pair_traced =
    record {
      schema = record {
        catalog = record {
          tables = (record { name = codes "p"; cols = (record { name = codes "id"; kind = kinds.Integer; default = values.Null } ∷ []); not_null = (0 ∷ []) } ∷ record { name = codes "c"; cols = (record { name = codes "pid"; kind = kinds.Integer; default = values.Null } ∷ []); not_null = [] } ∷ []);
          keys = (record { name = codes "p_pkey"; table = 0; cols = (0 ∷ []) } ∷ []);
          primaries = (0 ∷ []);
          fks = (record { name = codes "c_pid_fkey"; child = 1; child_cols = (0 ∷ []); parent = 0; parent_cols = (0 ∷ []); full = false; on_delete = actions.Restrict; on_update = actions.NoAction; con = 1; set_cols = (0 ∷ []) } ∷ []);
          constraints = (record { name = codes "p_pkey"; table = 0; decl = record { deferrable = false; deferred = false } } ∷ record { name = codes "c_pid_fkey"; table = 1; decl = record { deferrable = true; deferred = true } } ∷ []);
          functions = [];
          triggers = (record { name = codes "RI_ConstraintTrigger_a_0000000001"; table = 0; ops = (ops.Delete ∷ []); cols = ([]); level = each.Row; condition = None; con = None; does = Parent 0; old_table = None; new_table = None } ∷ record { name = codes "RI_ConstraintTrigger_a_0000000001"; table = 0; ops = (ops.Update ∷ []); cols = ([]); level = each.Row; condition = None; con = (Some 1); does = Parent 0; old_table = None; new_table = None } ∷ record { name = codes "RI_ConstraintTrigger_c_0000000001"; table = 1; ops = (ops.Insert ∷ ops.Update ∷ []); cols = ([]); level = each.Row; condition = None; con = (Some 1); does = Check 0; old_table = None; new_table = None } ∷ []);
        };
        conditions = (None ∷ None ∷ None ∷ []);
        codes = ([] ∷ [] ∷ [] ∷ []);
        rules = [];
      };
      names = (codes "a" ∷ []);
      statements = (((Ready (Changes_rows (Inserts (record { table = 0; columns = None; source = Values (((Value_of (Constant (values.Int (pos 5)))) ∷ []) ∷ []) })))) ∷ (Ready (Changes_rows (Inserts (record { table = 1; columns = None; source = Values (((Value_of (Constant (values.Int (pos 5)))) ∷ []) ∷ []) })))) ∷ (Ready (Begins isolations.ReadCommitted)) ∷ (Ready (Changes_rows (Deletes (record { table = 0; condition = (Some (Binary (Column 0) (Compare comparisons.Equal) (Constant (values.Int (pos 5))))) })))) ∷ (Ready (Changes_rows (Inserts (record { table = 0; columns = None; source = Values (((Value_of (Constant (values.Int (pos 5)))) ∷ []) ∷ []) })))) ∷ (Ready Commits) ∷ []) ∷ []);
    }

pair_traced-end : State
unfolding pair_traced run_from step effect effects_of plan_of error_effects row_step insert_step queued_by queued_by_statement child_check no_action_check restrict_check action_targets new_rows targets
pair_traced-end = run pair_traced (replicate 21 0)

pair_traced-ended : have_all_ended pair_traced-end ≡ true
unfolding pair_traced-end run_from step effect effects_of plan_of error_effects row_step insert_step queued_by queued_by_statement child_check no_action_check restrict_check action_targets new_rows targets
pair_traced-ended = refl

pair_traced-not_before : have_all_ended (run pair_traced (replicate 20 0)) ≡ false
unfolding pair_traced run_from step effect effects_of plan_of error_effects row_step insert_step queued_by queued_by_statement child_check no_action_check restrict_check action_targets new_rows targets
pair_traced-not_before = refl

pair_traced-replies : pair_traced-end.world.replies ≡ (record { session = 0; statement = 1; line = replies.Tag (codes "INSERT 0 1") } ∷ record { session = 0; statement = 2; line = replies.Tag (codes "INSERT 0 1") } ∷ record { session = 0; statement = 3; line = replies.Tag (codes "BEGIN") } ∷ record { session = 0; statement = 4; line = replies.Error (record { 0 = codes "23503" }) (codes "update or delete on table \"p\" violates foreign key constraint \"c_pid_fkey\" on table \"c\"") } ∷ record { session = 0; statement = 4; line = replies.Detail (codes "Key (id)=(5) is still referenced from table \"c\".") } ∷ record { session = 0; statement = 5; line = replies.Error (record { 0 = codes "25P02" }) (codes "current transaction is aborted, commands ignored until end of transaction block") } ∷ record { session = 0; statement = 6; line = replies.Tag (codes "ROLLBACK") } ∷ [])
unfolding pair_traced-end run_from step effect effects_of plan_of error_effects row_step insert_step queued_by queued_by_statement child_check no_action_check restrict_check action_targets new_rows targets digits
pair_traced-replies = refl

pair_traced-tables : final_tables pair_traced pair_traced-end ≡ ((((values.Int (pos 5)) ∷ []) ∷ []) ∷ (((values.Int (pos 5)) ∷ []) ∷ []) ∷ [])
unfolding pair_traced pair_traced-end run_from step effect effects_of plan_of error_effects row_step insert_step queued_by queued_by_statement child_check no_action_check restrict_check action_targets new_rows targets
pair_traced-tables = refl

pair_traced-trace : pair_traced-end.world.trace ≡ (traces.Begin (codes "a") isolations.ReadCommitted ∷ traces.Open (codes "a") 1 ∷ traces.Change (codes "a") (codes "p") 1 None (Some ((values.Int (pos 5)) ∷ [])) [] ∷ traces.Close (codes "a") 1 ∷ traces.Drain (codes "a") ∷ traces.Commit (codes "a") 1 ∷ traces.Reply (codes "a") 1 ∷ traces.Begin (codes "a") isolations.ReadCommitted ∷ traces.Open (codes "a") 1 ∷ traces.Change (codes "a") (codes "c") 2 None (Some ((values.Int (pos 5)) ∷ [])) (record { no = 1; trigger = codes "RI_ConstraintTrigger_c_0000000001" } ∷ []) ∷ traces.Close (codes "a") 1 ∷ traces.Drain (codes "a") ∷ traces.Round (codes "a") ∷ traces.Fire (codes "a") 1 ∷ traces.Done (codes "a") 1 endings.Passed ∷ traces.Commit (codes "a") 2 ∷ traces.Reply (codes "a") 2 ∷ traces.Begin (codes "a") isolations.ReadCommitted ∷ traces.Reply (codes "a") 3 ∷ traces.Open (codes "a") 1 ∷ traces.Change (codes "a") (codes "p") 1 (Some ((values.Int (pos 5)) ∷ [])) None (record { no = 1; trigger = codes "RI_ConstraintTrigger_a_0000000001" } ∷ []) ∷ traces.Round (codes "a") ∷ traces.Fire (codes "a") 1 ∷ traces.Pair (codes "a") 1 2 ∷ traces.Fail (codes "a") (record { 0 = codes "23503" }) ∷ traces.Abort (codes "a") ∷ traces.Reply (codes "a") 4 ∷ traces.Fail (codes "a") (record { 0 = codes "25P02" }) ∷ traces.Reply (codes "a") 5 ∷ traces.Reply (codes "a") 6 ∷ traces.End (codes "a") ∷ [])
unfolding pair_traced-end run_from step effect effects_of plan_of error_effects row_step insert_step queued_by queued_by_statement child_check no_action_check restrict_check action_targets new_rows targets
pair_traced-trace = refl
