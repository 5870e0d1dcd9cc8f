-- Runs on which a definition that differs in one point would give another answer.
use Rattle.std.proofs.Common.{◌≡◌, true, false, [], ◌∷◌, ◌++◌, Some, None, refl}
use Rattle.std.specs.Prelude.{codes, pos, replicate}
use Rattle.std.specs.Fmt.{digits}
use Rattle.aq_base.specs.Terms.Term.{Constant, Column, New, Binary}
use Rattle.aq_base.specs.Statements.Given.{Value_of}
use Rattle.aq_base.specs.Statements.Source.{Values}
use Rattle.aq_base.specs.Statements.Change_of_rows.{Inserts, Updates, Deletes}
use Rattle.aq_base.specs.Statements.Statement.{Changes_rows, Selects, Sets_constraints, Begins, Commits, Makes_savepoint}
use Rattle.aq_base.specs.Codes.{joined, block_code}
use Rattle.aq_base.specs.Codes.Instruction.{Returns, Changes, Sets}
use Rattle.aq_base.specs.declared.body.Condition.TheVariants as conditions
use Rattle.aq_base.specs.declared.value.Value.TheVariants as values
use Rattle.aq_base.specs.declared.script.Kind.TheVariants as kinds
use Rattle.aq_base.specs.declared.expr.BinaryOperator.TheVariants.{Compare}
use Rattle.aq_base.specs.declared.expr.Comparison.TheVariants as comparisons
use Rattle.aq_base.specs.declared.bound_statement.BoundConstraints.TheVariants.{All as All_of_them}
use Rattle.aq_base.specs.declared.modes.Constraints.TheVariants as constrained
use Rattle.aq_base.specs.declared.modes.ConstraintMode.TheVariants as modes
use Rattle.aq_base.specs.declared.statement.Isolation.TheVariants as isolations
use Rattle.aq_base.specs.declared.constraint.Action.TheVariants as actions
use Rattle.aq_base.specs.declared.catalog.Op.TheVariants as ops
use Rattle.aq_base.specs.declared.catalog.Does.TheVariants.{Check, Parent, Body}
use Rattle.aq_base.specs.declared.trigger.Each.TheVariants as each
use Rattle.aq_base.specs.declared.reply.ReplyLine.TheVariants as replies
use Rattle.aq_base.specs.declared.trace.TraceLine.TheVariants as traces
use Rattle.aq_base.specs.declared.trace.Ending.TheVariants as endings
use Rattle.aq_base.specs.declared.trace.ModeOf.TheVariants as mode_of
use Rattle.aq_outcomes.specs.Rows.{row_step, insert_step}
use Rattle.aq_outcomes.specs.Queued.{queued_by, queued_by_statement}
use Rattle.aq_outcomes.specs.References.{child_check, no_action_check, restrict_check, action_targets}
use Rattle.aq_outcomes.specs.Sources.{new_rows, targets}
use Rattle.aq_run.specs.Programs.{Program}
use Rattle.aq_run.specs.Programs.Prepared.{Ready}
use Rattle.aq_run.specs.States.{State}
use Rattle.aq_run.specs.Effects.{effect}
use Rattle.aq_run.specs.Errors.{error_effects}
use Rattle.aq_run.specs.Steps.{plan_of, effects_of, step}
use Rattle.aq_run.specs.Runs.{run_from, run, have_all_ended}
use Rattle.aq_run.proofs.Tables.{final_tables}

-- A round moves the deferred events before it fires any: the body finds the check that its own statement queued.
-- \setup
-- CREATE TABLE p (id integer PRIMARY KEY); CREATE TABLE c (pid integer REFERENCES p DEFERRABLE INITIALLY DEFERRED);
-- CREATE FUNCTION f() RETURNS trigger LANGUAGE plpgsql AS $$ BEGIN SET CONSTRAINTS ALL IMMEDIATE; RETURN NULL; END $$;
-- CREATE TRIGGER x AFTER INSERT ON c FOR EACH ROW EXECUTE FUNCTION f();
-- \session a
-- BEGIN; INSERT INTO c VALUES (1); COMMIT;
unfoldable pub body_settles_its_level : Program
body_settles_its_level =
    record {
      schema = record {
        catalog = record {
          tables = (record { name = codes "p"; cols = (record { name = codes "id"; kind = kinds.Integer; default = values.Null } ∷ []); not_null = (0 ∷ []) } ∷ record { name = codes "c"; cols = (record { name = codes "pid"; kind = kinds.Integer; default = values.Null } ∷ []); not_null = [] } ∷ []);
          keys = (record { name = codes "p_pkey"; table = 0; cols = (0 ∷ []) } ∷ []);
          primaries = (0 ∷ []);
          fks = (record { name = codes "c_pid_fkey"; child = 1; child_cols = (0 ∷ []); parent = 0; parent_cols = (0 ∷ []); full = false; on_delete = actions.NoAction; on_update = actions.NoAction; con = 1; set_cols = (0 ∷ []) } ∷ []);
          constraints = (record { name = codes "p_pkey"; table = 0; decl = record { deferrable = false; deferred = false } } ∷ record { name = codes "c_pid_fkey"; table = 1; decl = record { deferrable = true; deferred = true } } ∷ []);
          functions = [];
          triggers = (record { name = codes "RI_ConstraintTrigger_a_0000000001"; table = 0; ops = (ops.Delete ∷ []); cols = ([]); level = each.Row; condition = None; con = (Some 1); does = Parent 0; old_table = None; new_table = None } ∷ record { name = codes "RI_ConstraintTrigger_a_0000000001"; table = 0; ops = (ops.Update ∷ []); cols = ([]); level = each.Row; condition = None; con = (Some 1); does = Parent 0; old_table = None; new_table = None } ∷ record { name = codes "RI_ConstraintTrigger_c_0000000001"; table = 1; ops = (ops.Insert ∷ ops.Update ∷ []); cols = ([]); level = each.Row; condition = None; con = (Some 1); does = Check 0; old_table = None; new_table = None } ∷ record { name = codes "x"; table = 1; ops = (ops.Insert ∷ []); cols = ([]); level = each.Row; condition = None; con = None; does = Body (record { statements = []; handlers = [] }); old_table = None; new_table = None } ∷ []);
        };
        conditions = (None ∷ None ∷ None ∷ None ∷ []);
        codes = ([] ∷ [] ∷ [] ∷ (block_code (joined ((Sets (record { constraints = constrained.All; mode = modes.Immediate }) ∷ []) ∷ (Returns ∷ []) ∷ [])) []) ∷ []);
        rules = [];
      };
      names = (codes "a" ∷ []);
      statements = (((Ready (Begins isolations.ReadCommitted)) ∷ (Ready (Changes_rows (Inserts (record { table = 1; columns = None; source = Values (((Value_of (Constant (values.Int (pos 1)))) ∷ []) ∷ []) })))) ∷ (Ready Commits) ∷ []) ∷ []);
    }

body_settles_its_level-end : State
unfolding body_settles_its_level run_from step effect effects_of plan_of error_effects row_step insert_step queued_by queued_by_statement child_check no_action_check restrict_check action_targets new_rows targets
body_settles_its_level-end = run body_settles_its_level (replicate 11 0)

body_settles_its_level-ended : have_all_ended body_settles_its_level-end ≡ true
unfolding body_settles_its_level-end run_from step effect effects_of plan_of error_effects row_step insert_step queued_by queued_by_statement child_check no_action_check restrict_check action_targets new_rows targets
body_settles_its_level-ended = refl

body_settles_its_level-not_before : have_all_ended (run body_settles_its_level (replicate 10 0)) ≡ false
unfolding body_settles_its_level run_from step effect effects_of plan_of error_effects row_step insert_step queued_by queued_by_statement child_check no_action_check restrict_check action_targets new_rows targets
body_settles_its_level-not_before = refl

body_settles_its_level-replies : body_settles_its_level-end.world.replies ≡ (record { session = 0; statement = 1; line = replies.Tag (codes "BEGIN") } ∷ record { session = 0; statement = 2; line = replies.Error (record { 0 = codes "23503" }) (codes "insert or update on table \"c\" violates foreign key constraint \"c_pid_fkey\"") } ∷ record { session = 0; statement = 2; line = replies.Detail (codes "Key (pid)=(1) is not present in table \"p\".") } ∷ record { session = 0; statement = 3; line = replies.Tag (codes "ROLLBACK") } ∷ [])
unfolding body_settles_its_level-end run_from step effect effects_of plan_of error_effects row_step insert_step queued_by queued_by_statement child_check no_action_check restrict_check action_targets new_rows targets digits
body_settles_its_level-replies = refl

body_settles_its_level-tables : final_tables body_settles_its_level body_settles_its_level-end ≡ ([] ∷ [] ∷ [])
unfolding body_settles_its_level body_settles_its_level-end run_from step effect effects_of plan_of error_effects row_step insert_step queued_by queued_by_statement child_check no_action_check restrict_check action_targets new_rows targets
body_settles_its_level-tables = refl

-- An update that keeps the key of a row that this transaction has written queues a check, since the older check is skipped.
-- \setup
-- CREATE TABLE p (id integer PRIMARY KEY); CREATE TABLE c (pid integer REFERENCES p DEFERRABLE INITIALLY DEFERRED);
-- \session a
-- BEGIN; INSERT INTO c VALUES (1); UPDATE c SET pid = 1; COMMIT;
unfoldable pub update_of_an_own_row : Program
update_of_an_own_row =
    record {
      schema = record {
        catalog = record {
          tables = (record { name = codes "p"; cols = (record { name = codes "id"; kind = kinds.Integer; default = values.Null } ∷ []); not_null = (0 ∷ []) } ∷ record { name = codes "c"; cols = (record { name = codes "pid"; kind = kinds.Integer; default = values.Null } ∷ []); not_null = [] } ∷ []);
          keys = (record { name = codes "p_pkey"; table = 0; cols = (0 ∷ []) } ∷ []);
          primaries = (0 ∷ []);
          fks = (record { name = codes "c_pid_fkey"; child = 1; child_cols = (0 ∷ []); parent = 0; parent_cols = (0 ∷ []); full = false; on_delete = actions.NoAction; on_update = actions.NoAction; con = 1; set_cols = (0 ∷ []) } ∷ []);
          constraints = (record { name = codes "p_pkey"; table = 0; decl = record { deferrable = false; deferred = false } } ∷ record { name = codes "c_pid_fkey"; table = 1; decl = record { deferrable = true; deferred = true } } ∷ []);
          functions = [];
          triggers = (record { name = codes "RI_ConstraintTrigger_a_0000000001"; table = 0; ops = (ops.Delete ∷ []); cols = ([]); level = each.Row; condition = None; con = (Some 1); does = Parent 0; old_table = None; new_table = None } ∷ record { name = codes "RI_ConstraintTrigger_a_0000000001"; table = 0; ops = (ops.Update ∷ []); cols = ([]); level = each.Row; condition = None; con = (Some 1); does = Parent 0; old_table = None; new_table = None } ∷ record { name = codes "RI_ConstraintTrigger_c_0000000001"; table = 1; ops = (ops.Insert ∷ ops.Update ∷ []); cols = ([]); level = each.Row; condition = None; con = (Some 1); does = Check 0; old_table = None; new_table = None } ∷ []);
        };
        conditions = (None ∷ None ∷ None ∷ []);
        codes = ([] ∷ [] ∷ [] ∷ []);
        rules = [];
      };
      names = (codes "a" ∷ []);
      statements = (((Ready (Begins isolations.ReadCommitted)) ∷ (Ready (Changes_rows (Inserts (record { table = 1; columns = None; source = Values (((Value_of (Constant (values.Int (pos 1)))) ∷ []) ∷ []) })))) ∷ (Ready (Changes_rows (Updates (record { table = 1; assignments = (record { column = 0; value = (Value_of (Constant (values.Int (pos 1)))) } ∷ []); condition = None })))) ∷ (Ready Commits) ∷ []) ∷ []);
    }

update_of_an_own_row-end : State
unfolding update_of_an_own_row run_from step effect effects_of plan_of error_effects row_step insert_step queued_by queued_by_statement child_check no_action_check restrict_check action_targets new_rows targets
update_of_an_own_row-end = run update_of_an_own_row (replicate 14 0)

update_of_an_own_row-ended : have_all_ended update_of_an_own_row-end ≡ true
unfolding update_of_an_own_row-end run_from step effect effects_of plan_of error_effects row_step insert_step queued_by queued_by_statement child_check no_action_check restrict_check action_targets new_rows targets
update_of_an_own_row-ended = refl

update_of_an_own_row-not_before : have_all_ended (run update_of_an_own_row (replicate 13 0)) ≡ false
unfolding update_of_an_own_row run_from step effect effects_of plan_of error_effects row_step insert_step queued_by queued_by_statement child_check no_action_check restrict_check action_targets new_rows targets
update_of_an_own_row-not_before = refl

update_of_an_own_row-replies : update_of_an_own_row-end.world.replies ≡ (record { session = 0; statement = 1; line = replies.Tag (codes "BEGIN") } ∷ record { session = 0; statement = 2; line = replies.Tag (codes "INSERT 0 1") } ∷ record { session = 0; statement = 3; line = replies.Tag (codes "UPDATE 1") } ∷ record { session = 0; statement = 4; line = replies.Error (record { 0 = codes "23503" }) (codes "insert or update on table \"c\" violates foreign key constraint \"c_pid_fkey\"") } ∷ record { session = 0; statement = 4; line = replies.Detail (codes "Key (pid)=(1) is not present in table \"p\".") } ∷ [])
unfolding update_of_an_own_row-end run_from step effect effects_of plan_of error_effects row_step insert_step queued_by queued_by_statement child_check no_action_check restrict_check action_targets new_rows targets digits
update_of_an_own_row-replies = refl

update_of_an_own_row-tables : final_tables update_of_an_own_row update_of_an_own_row-end ≡ ([] ∷ [] ∷ [])
unfolding update_of_an_own_row update_of_an_own_row-end run_from step effect effects_of plan_of error_effects row_step insert_step queued_by queued_by_statement child_check no_action_check restrict_check action_targets new_rows targets
update_of_an_own_row-tables = refl

-- A check holds its parent to the end of the transaction, not of the statement: b's deletion waits for it.
-- \setup
-- CREATE TABLE p (id integer PRIMARY KEY); CREATE TABLE c (pid integer REFERENCES p );
-- \session a
-- INSERT INTO p VALUES (1); BEGIN; INSERT INTO c VALUES (1); COMMIT;
-- \session b
-- DELETE FROM p;
unfoldable pub parent_held_to_the_end : Program
parent_held_to_the_end =
    record {
      schema = record {
        catalog = record {
          tables = (record { name = codes "p"; cols = (record { name = codes "id"; kind = kinds.Integer; default = values.Null } ∷ []); not_null = (0 ∷ []) } ∷ record { name = codes "c"; cols = (record { name = codes "pid"; kind = kinds.Integer; default = values.Null } ∷ []); not_null = [] } ∷ []);
          keys = (record { name = codes "p_pkey"; table = 0; cols = (0 ∷ []) } ∷ []);
          primaries = (0 ∷ []);
          fks = (record { name = codes "c_pid_fkey"; child = 1; child_cols = (0 ∷ []); parent = 0; parent_cols = (0 ∷ []); full = false; on_delete = actions.NoAction; on_update = actions.NoAction; con = 1; set_cols = (0 ∷ []) } ∷ []);
          constraints = (record { name = codes "p_pkey"; table = 0; decl = record { deferrable = false; deferred = false } } ∷ record { name = codes "c_pid_fkey"; table = 1; decl = record { deferrable = false; deferred = false } } ∷ []);
          functions = [];
          triggers = (record { name = codes "RI_ConstraintTrigger_a_0000000001"; table = 0; ops = (ops.Delete ∷ []); cols = ([]); level = each.Row; condition = None; con = (Some 1); does = Parent 0; old_table = None; new_table = None } ∷ record { name = codes "RI_ConstraintTrigger_a_0000000001"; table = 0; ops = (ops.Update ∷ []); cols = ([]); level = each.Row; condition = None; con = (Some 1); does = Parent 0; old_table = None; new_table = None } ∷ record { name = codes "RI_ConstraintTrigger_c_0000000001"; table = 1; ops = (ops.Insert ∷ ops.Update ∷ []); cols = ([]); level = each.Row; condition = None; con = (Some 1); does = Check 0; old_table = None; new_table = None } ∷ []);
        };
        conditions = (None ∷ None ∷ None ∷ []);
        codes = ([] ∷ [] ∷ [] ∷ []);
        rules = [];
      };
      names = (codes "a" ∷ codes "b" ∷ []);
      statements = (((Ready (Changes_rows (Inserts (record { table = 0; columns = None; source = Values (((Value_of (Constant (values.Int (pos 1)))) ∷ []) ∷ []) })))) ∷ (Ready (Begins isolations.ReadCommitted)) ∷ (Ready (Changes_rows (Inserts (record { table = 1; columns = None; source = Values (((Value_of (Constant (values.Int (pos 1)))) ∷ []) ∷ []) })))) ∷ (Ready Commits) ∷ []) ∷ ((Ready (Changes_rows (Deletes (record { table = 0; condition = None })))) ∷ []) ∷ []);
    }

parent_held_to_the_end-end : State
unfolding parent_held_to_the_end run_from step effect effects_of plan_of error_effects row_step insert_step queued_by queued_by_statement child_check no_action_check restrict_check action_targets new_rows targets
parent_held_to_the_end-end = run parent_held_to_the_end (replicate 12 0 ++ replicate 2 1 ++ replicate 2 0 ++ replicate 5 1 ++ replicate 1 0)

parent_held_to_the_end-ended : have_all_ended parent_held_to_the_end-end ≡ true
unfolding parent_held_to_the_end-end run_from step effect effects_of plan_of error_effects row_step insert_step queued_by queued_by_statement child_check no_action_check restrict_check action_targets new_rows targets
parent_held_to_the_end-ended = refl

parent_held_to_the_end-not_before : have_all_ended (run parent_held_to_the_end (replicate 12 0 ++ replicate 2 1 ++ replicate 2 0 ++ replicate 5 1)) ≡ false
unfolding parent_held_to_the_end run_from step effect effects_of plan_of error_effects row_step insert_step queued_by queued_by_statement child_check no_action_check restrict_check action_targets new_rows targets
parent_held_to_the_end-not_before = refl

parent_held_to_the_end-replies : parent_held_to_the_end-end.world.replies ≡ (record { session = 0; statement = 1; line = replies.Tag (codes "INSERT 0 1") } ∷ record { session = 0; statement = 2; line = replies.Tag (codes "BEGIN") } ∷ record { session = 0; statement = 3; line = replies.Tag (codes "INSERT 0 1") } ∷ record { session = 0; statement = 4; line = replies.Tag (codes "COMMIT") } ∷ record { session = 1; statement = 1; line = replies.Error (record { 0 = codes "23503" }) (codes "update or delete on table \"p\" violates foreign key constraint \"c_pid_fkey\" on table \"c\"") } ∷ record { session = 1; statement = 1; line = replies.Detail (codes "Key (id)=(1) is still referenced from table \"c\".") } ∷ [])
unfolding parent_held_to_the_end-end run_from step effect effects_of plan_of error_effects row_step insert_step queued_by queued_by_statement child_check no_action_check restrict_check action_targets new_rows targets digits
parent_held_to_the_end-replies = refl

parent_held_to_the_end-tables : final_tables parent_held_to_the_end parent_held_to_the_end-end ≡ ((((values.Int (pos 1)) ∷ []) ∷ []) ∷ (((values.Int (pos 1)) ∷ []) ∷ []) ∷ [])
unfolding parent_held_to_the_end parent_held_to_the_end-end run_from step effect effects_of plan_of error_effects row_step insert_step queued_by queued_by_statement child_check no_action_check restrict_check action_targets new_rows targets
parent_held_to_the_end-tables = refl

-- An event that SET CONSTRAINTS has fired does not fire again at the commit.
-- \setup
-- CREATE TABLE p (id integer PRIMARY KEY); CREATE TABLE c (pid integer REFERENCES p DEFERRABLE INITIALLY DEFERRED);
-- \session a
-- INSERT INTO p VALUES (1); BEGIN; INSERT INTO c VALUES (1); SET CONSTRAINTS ALL IMMEDIATE; COMMIT;
unfoldable pub settled_once : Program
settled_once =
    record {
      schema = record {
        catalog = record {
          tables = (record { name = codes "p"; cols = (record { name = codes "id"; kind = kinds.Integer; default = values.Null } ∷ []); not_null = (0 ∷ []) } ∷ record { name = codes "c"; cols = (record { name = codes "pid"; kind = kinds.Integer; default = values.Null } ∷ []); not_null = [] } ∷ []);
          keys = (record { name = codes "p_pkey"; table = 0; cols = (0 ∷ []) } ∷ []);
          primaries = (0 ∷ []);
          fks = (record { name = codes "c_pid_fkey"; child = 1; child_cols = (0 ∷ []); parent = 0; parent_cols = (0 ∷ []); full = false; on_delete = actions.NoAction; on_update = actions.NoAction; con = 1; set_cols = (0 ∷ []) } ∷ []);
          constraints = (record { name = codes "p_pkey"; table = 0; decl = record { deferrable = false; deferred = false } } ∷ record { name = codes "c_pid_fkey"; table = 1; decl = record { deferrable = true; deferred = true } } ∷ []);
          functions = [];
          triggers = (record { name = codes "RI_ConstraintTrigger_a_0000000001"; table = 0; ops = (ops.Delete ∷ []); cols = ([]); level = each.Row; condition = None; con = (Some 1); does = Parent 0; old_table = None; new_table = None } ∷ record { name = codes "RI_ConstraintTrigger_a_0000000001"; table = 0; ops = (ops.Update ∷ []); cols = ([]); level = each.Row; condition = None; con = (Some 1); does = Parent 0; old_table = None; new_table = None } ∷ record { name = codes "RI_ConstraintTrigger_c_0000000001"; table = 1; ops = (ops.Insert ∷ ops.Update ∷ []); cols = ([]); level = each.Row; condition = None; con = (Some 1); does = Check 0; old_table = None; new_table = None } ∷ []);
        };
        conditions = (None ∷ None ∷ None ∷ []);
        codes = ([] ∷ [] ∷ [] ∷ []);
        rules = [];
      };
      names = (codes "a" ∷ []);
      statements = (((Ready (Changes_rows (Inserts (record { table = 0; columns = None; source = Values (((Value_of (Constant (values.Int (pos 1)))) ∷ []) ∷ []) })))) ∷ (Ready (Begins isolations.ReadCommitted)) ∷ (Ready (Changes_rows (Inserts (record { table = 1; columns = None; source = Values (((Value_of (Constant (values.Int (pos 1)))) ∷ []) ∷ []) })))) ∷ (Ready (Sets_constraints (record { constraints = All_of_them; mode = modes.Immediate }))) ∷ (Ready Commits) ∷ []) ∷ []);
    }

settled_once-end : State
unfolding settled_once run_from step effect effects_of plan_of error_effects row_step insert_step queued_by queued_by_statement child_check no_action_check restrict_check action_targets new_rows targets
settled_once-end = run settled_once (replicate 17 0)

settled_once-ended : have_all_ended settled_once-end ≡ true
unfolding settled_once-end run_from step effect effects_of plan_of error_effects row_step insert_step queued_by queued_by_statement child_check no_action_check restrict_check action_targets new_rows targets
settled_once-ended = refl

settled_once-not_before : have_all_ended (run settled_once (replicate 16 0)) ≡ false
unfolding settled_once run_from step effect effects_of plan_of error_effects row_step insert_step queued_by queued_by_statement child_check no_action_check restrict_check action_targets new_rows targets
settled_once-not_before = refl

settled_once-replies : settled_once-end.world.replies ≡ (record { session = 0; statement = 1; line = replies.Tag (codes "INSERT 0 1") } ∷ record { session = 0; statement = 2; line = replies.Tag (codes "BEGIN") } ∷ record { session = 0; statement = 3; line = replies.Tag (codes "INSERT 0 1") } ∷ record { session = 0; statement = 4; line = replies.Tag (codes "SET CONSTRAINTS") } ∷ record { session = 0; statement = 5; line = replies.Tag (codes "COMMIT") } ∷ [])
unfolding settled_once-end run_from step effect effects_of plan_of error_effects row_step insert_step queued_by queued_by_statement child_check no_action_check restrict_check action_targets new_rows targets digits
settled_once-replies = refl

settled_once-tables : final_tables settled_once settled_once-end ≡ ((((values.Int (pos 1)) ∷ []) ∷ []) ∷ (((values.Int (pos 1)) ∷ []) ∷ []) ∷ [])
unfolding settled_once settled_once-end run_from step effect effects_of plan_of error_effects row_step insert_step queued_by queued_by_statement child_check no_action_check restrict_check action_targets new_rows targets
settled_once-tables = refl

settled_once-trace : settled_once-end.world.trace ≡ (traces.Begin (codes "a") isolations.ReadCommitted ∷ traces.Open (codes "a") 1 ∷ traces.Change (codes "a") (codes "p") 1 None (Some ((values.Int (pos 1)) ∷ [])) [] ∷ traces.Close (codes "a") 1 ∷ traces.Drain (codes "a") ∷ traces.Commit (codes "a") 1 ∷ traces.Reply (codes "a") 1 ∷ traces.Begin (codes "a") isolations.ReadCommitted ∷ traces.Reply (codes "a") 2 ∷ traces.Open (codes "a") 1 ∷ traces.Change (codes "a") (codes "c") 2 None (Some ((values.Int (pos 1)) ∷ [])) (record { no = 1; trigger = codes "RI_ConstraintTrigger_c_0000000001" } ∷ []) ∷ traces.Close (codes "a") 1 ∷ traces.Reply (codes "a") 3 ∷ traces.Mode (codes "a") mode_of.All modes.Immediate ∷ traces.Round (codes "a") ∷ traces.Fire (codes "a") 1 ∷ traces.Done (codes "a") 1 endings.Passed ∷ traces.Reply (codes "a") 4 ∷ traces.Drain (codes "a") ∷ traces.Commit (codes "a") 2 ∷ traces.Reply (codes "a") 5 ∷ traces.End (codes "a") ∷ [])
unfolding settled_once-end run_from step effect effects_of plan_of error_effects row_step insert_step queued_by queued_by_statement child_check no_action_check restrict_check action_targets new_rows targets
settled_once-trace = refl

-- NO ACTION that passes on another parent row with the old key holds that row: its deletion waits, and then finds the child.
-- \setup
-- CREATE TABLE p (a integer PRIMARY KEY, b integer); CREATE TABLE q (x integer);
-- ALTER TABLE q ADD CONSTRAINT f0 FOREIGN KEY (x) REFERENCES p (a) DEFERRABLE INITIALLY DEFERRED;
-- \session z
-- INSERT INTO p VALUES (1, 1);
-- \session a
-- BEGIN; UPDATE p SET a = 2 WHERE a = 1; INSERT INTO q VALUES (2); SET CONSTRAINTS ALL IMMEDIATE;
-- SET CONSTRAINTS ALL DEFERRED; UPDATE p SET a = 3 WHERE a = 2; SET CONSTRAINTS ALL IMMEDIATE; COMMIT;
-- \session b
-- INSERT INTO p VALUES (2, 2); DELETE FROM p WHERE a = 2;
unfoldable pub other_parent_held : Program
other_parent_held =
    record {
      schema = record {
        catalog = record {
          tables = (record { name = codes "p"; cols = (record { name = codes "a"; kind = kinds.Integer; default = values.Null } ∷ record { name = codes "b"; kind = kinds.Integer; default = values.Null } ∷ []); not_null = (0 ∷ []) } ∷ record { name = codes "q"; cols = (record { name = codes "x"; kind = kinds.Integer; default = values.Null } ∷ []); not_null = [] } ∷ []);
          keys = (record { name = codes "p_pkey"; table = 0; cols = (0 ∷ []) } ∷ []);
          primaries = (0 ∷ []);
          fks = (record { name = codes "f0"; child = 1; child_cols = (0 ∷ []); parent = 0; parent_cols = (0 ∷ []); full = false; on_delete = actions.NoAction; on_update = actions.NoAction; con = 1; set_cols = (0 ∷ []) } ∷ []);
          constraints = (record { name = codes "p_pkey"; table = 0; decl = record { deferrable = false; deferred = false } } ∷ record { name = codes "f0"; table = 1; decl = record { deferrable = true; deferred = true } } ∷ []);
          functions = [];
          triggers = (record { name = codes "RI_ConstraintTrigger_a_0000000001"; table = 0; ops = (ops.Delete ∷ []); cols = ([]); level = each.Row; condition = None; con = (Some 1); does = Parent 0; old_table = None; new_table = None } ∷ record { name = codes "RI_ConstraintTrigger_a_0000000001"; table = 0; ops = (ops.Update ∷ []); cols = ([]); level = each.Row; condition = None; con = (Some 1); does = Parent 0; old_table = None; new_table = None } ∷ record { name = codes "RI_ConstraintTrigger_c_0000000001"; table = 1; ops = (ops.Insert ∷ ops.Update ∷ []); cols = ([]); level = each.Row; condition = None; con = (Some 1); does = Check 0; old_table = None; new_table = None } ∷ []);
        };
        conditions = (None ∷ None ∷ None ∷ []);
        codes = ([] ∷ [] ∷ [] ∷ []);
        rules = [];
      };
      names = (codes "z" ∷ codes "a" ∷ codes "b" ∷ []);
      statements = (((Ready (Changes_rows (Inserts (record { table = 0; columns = None; source = Values (((Value_of (Constant (values.Int (pos 1)))) ∷ (Value_of (Constant (values.Int (pos 1)))) ∷ []) ∷ []) })))) ∷ []) ∷ ((Ready (Begins isolations.ReadCommitted)) ∷ (Ready (Changes_rows (Updates (record { table = 0; assignments = (record { column = 0; value = (Value_of (Constant (values.Int (pos 2)))) } ∷ []); condition = (Some (Binary (Column 0) (Compare comparisons.Equal) (Constant (values.Int (pos 1))))) })))) ∷ (Ready (Changes_rows (Inserts (record { table = 1; columns = None; source = Values (((Value_of (Constant (values.Int (pos 2)))) ∷ []) ∷ []) })))) ∷ (Ready (Sets_constraints (record { constraints = All_of_them; mode = modes.Immediate }))) ∷ (Ready (Sets_constraints (record { constraints = All_of_them; mode = modes.Deferred }))) ∷ (Ready (Changes_rows (Updates (record { table = 0; assignments = (record { column = 0; value = (Value_of (Constant (values.Int (pos 3)))) } ∷ []); condition = (Some (Binary (Column 0) (Compare comparisons.Equal) (Constant (values.Int (pos 2))))) })))) ∷ (Ready (Sets_constraints (record { constraints = All_of_them; mode = modes.Immediate }))) ∷ (Ready Commits) ∷ []) ∷ ((Ready (Changes_rows (Inserts (record { table = 0; columns = None; source = Values (((Value_of (Constant (values.Int (pos 2)))) ∷ (Value_of (Constant (values.Int (pos 2)))) ∷ []) ∷ []) })))) ∷ (Ready (Changes_rows (Deletes (record { table = 0; condition = (Some (Binary (Column 0) (Compare comparisons.Equal) (Constant (values.Int (pos 2))))) })))) ∷ []) ∷ []);
    }

other_parent_held-end : State
unfolding other_parent_held run_from step effect effects_of plan_of error_effects row_step insert_step queued_by queued_by_statement child_check no_action_check restrict_check action_targets new_rows targets
other_parent_held-end = run other_parent_held (replicate 6 0 ++ replicate 19 1 ++ replicate 5 2 ++ replicate 4 1 ++ replicate 2 2 ++ replicate 3 1 ++ replicate 6 2)

other_parent_held-ended : have_all_ended other_parent_held-end ≡ true
unfolding other_parent_held-end run_from step effect effects_of plan_of error_effects row_step insert_step queued_by queued_by_statement child_check no_action_check restrict_check action_targets new_rows targets
other_parent_held-ended = refl

other_parent_held-not_before : have_all_ended (run other_parent_held (replicate 6 0 ++ replicate 19 1 ++ replicate 5 2 ++ replicate 4 1 ++ replicate 2 2 ++ replicate 3 1 ++ replicate 5 2)) ≡ false
unfolding other_parent_held run_from step effect effects_of plan_of error_effects row_step insert_step queued_by queued_by_statement child_check no_action_check restrict_check action_targets new_rows targets
other_parent_held-not_before = refl

other_parent_held-replies : other_parent_held-end.world.replies ≡ (record { session = 0; statement = 1; line = replies.Tag (codes "INSERT 0 1") } ∷ record { session = 1; statement = 1; line = replies.Tag (codes "BEGIN") } ∷ record { session = 1; statement = 2; line = replies.Tag (codes "UPDATE 1") } ∷ record { session = 1; statement = 3; line = replies.Tag (codes "INSERT 0 1") } ∷ record { session = 1; statement = 4; line = replies.Tag (codes "SET CONSTRAINTS") } ∷ record { session = 1; statement = 5; line = replies.Tag (codes "SET CONSTRAINTS") } ∷ record { session = 1; statement = 6; line = replies.Tag (codes "UPDATE 1") } ∷ record { session = 2; statement = 1; line = replies.Tag (codes "INSERT 0 1") } ∷ record { session = 1; statement = 7; line = replies.Tag (codes "SET CONSTRAINTS") } ∷ record { session = 1; statement = 8; line = replies.Tag (codes "COMMIT") } ∷ record { session = 2; statement = 2; line = replies.Error (record { 0 = codes "23503" }) (codes "update or delete on table \"p\" violates foreign key constraint \"f0\" on table \"q\"") } ∷ record { session = 2; statement = 2; line = replies.Detail (codes "Key (a)=(2) is still referenced from table \"q\".") } ∷ [])
unfolding other_parent_held-end run_from step effect effects_of plan_of error_effects row_step insert_step queued_by queued_by_statement child_check no_action_check restrict_check action_targets new_rows targets digits
other_parent_held-replies = refl

other_parent_held-tables : final_tables other_parent_held other_parent_held-end ≡ ((((values.Int (pos 3)) ∷ (values.Int (pos 1)) ∷ []) ∷ ((values.Int (pos 2)) ∷ (values.Int (pos 2)) ∷ []) ∷ []) ∷ (((values.Int (pos 2)) ∷ []) ∷ []) ∷ [])
unfolding other_parent_held other_parent_held-end run_from step effect effects_of plan_of error_effects row_step insert_step queued_by queued_by_statement child_check no_action_check restrict_check action_targets new_rows targets
other_parent_held-tables = refl

-- 64 savepoints and blocks are open: the next block is refused before it is open, and the block around it catches that.
-- \setup
-- CREATE TABLE q (id integer PRIMARY KEY);CREATE TABLE t (n integer); CREATE TABLE u (n integer PRIMARY KEY, q integer REFERENCES q DEFERRABLE); CREATE TABLE log (s text, n integer);CREATE FUNCTION f() RETURNS trigger LANGUAGE plpgsql AS $$ BEGIN BEGIN INSERT INTO u VALUES (NEW.n); EXCEPTION WHEN unique_violation THEN RETURN NULL; END; INSERT INTO log VALUES ('fine', NEW.n); RETURN NULL; EXCEPTION WHEN OTHERS THEN INSERT INTO log VALUES ('caught', NEW.n); RETURN NULL; END $$;CREATE TRIGGER x AFTER INSERT ON t FOR EACH ROW EXECUTE FUNCTION f();
-- \session a
-- BEGIN; SAVEPOINT s; SAVEPOINT s; SAVEPOINT s; SAVEPOINT s; SAVEPOINT s; SAVEPOINT s; SAVEPOINT s; SAVEPOINT s; SAVEPOINT s; SAVEPOINT s; SAVEPOINT s; SAVEPOINT s; SAVEPOINT s; SAVEPOINT s; SAVEPOINT s; SAVEPOINT s; SAVEPOINT s; SAVEPOINT s; SAVEPOINT s; SAVEPOINT s; SAVEPOINT s; SAVEPOINT s; SAVEPOINT s; SAVEPOINT s; SAVEPOINT s; SAVEPOINT s; SAVEPOINT s; SAVEPOINT s; SAVEPOINT s; SAVEPOINT s; SAVEPOINT s; SAVEPOINT s; SAVEPOINT s; SAVEPOINT s; SAVEPOINT s; SAVEPOINT s; SAVEPOINT s; SAVEPOINT s; SAVEPOINT s; SAVEPOINT s; SAVEPOINT s; SAVEPOINT s; SAVEPOINT s; SAVEPOINT s; SAVEPOINT s; SAVEPOINT s; SAVEPOINT s; SAVEPOINT s; SAVEPOINT s; SAVEPOINT s; SAVEPOINT s; SAVEPOINT s; SAVEPOINT s; SAVEPOINT s; SAVEPOINT s; SAVEPOINT s; SAVEPOINT s; SAVEPOINT s; SAVEPOINT s; SAVEPOINT s; SAVEPOINT s; SAVEPOINT s; SAVEPOINT s; INSERT INTO t VALUES (1); SELECT * FROM log; COMMIT;
unfoldable pub block_is_the_65th : Program
block_is_the_65th =
    record {
      schema = record {
        catalog = record {
          tables = (record { name = codes "q"; cols = (record { name = codes "id"; kind = kinds.Integer; default = values.Null } ∷ []); not_null = (0 ∷ []) } ∷ record { name = codes "t"; cols = (record { name = codes "n"; kind = kinds.Integer; default = values.Null } ∷ []); not_null = [] } ∷ record { name = codes "u"; cols = (record { name = codes "n"; kind = kinds.Integer; default = values.Null } ∷ record { name = codes "q"; kind = kinds.Integer; default = values.Null } ∷ []); not_null = (0 ∷ []) } ∷ record { name = codes "log"; cols = (record { name = codes "s"; kind = kinds.Text; default = values.Null } ∷ record { name = codes "n"; kind = kinds.Integer; default = values.Null } ∷ []); not_null = [] } ∷ []);
          keys = (record { name = codes "q_pkey"; table = 0; cols = (0 ∷ []) } ∷ record { name = codes "u_pkey"; table = 2; cols = (0 ∷ []) } ∷ []);
          primaries = (0 ∷ 1 ∷ []);
          fks = (record { name = codes "u_q_fkey"; child = 2; child_cols = (1 ∷ []); parent = 0; parent_cols = (0 ∷ []); full = false; on_delete = actions.NoAction; on_update = actions.NoAction; con = 2; set_cols = (1 ∷ []) } ∷ []);
          constraints = (record { name = codes "q_pkey"; table = 0; decl = record { deferrable = false; deferred = false } } ∷ record { name = codes "u_pkey"; table = 2; decl = record { deferrable = false; deferred = false } } ∷ record { name = codes "u_q_fkey"; table = 2; decl = record { deferrable = true; deferred = false } } ∷ []);
          functions = [];
          triggers = (record { name = codes "RI_ConstraintTrigger_a_0000000001"; table = 0; ops = (ops.Delete ∷ []); cols = ([]); level = each.Row; condition = None; con = (Some 2); does = Parent 0; old_table = None; new_table = None } ∷ record { name = codes "RI_ConstraintTrigger_a_0000000001"; table = 0; ops = (ops.Update ∷ []); cols = ([]); level = each.Row; condition = None; con = (Some 2); does = Parent 0; old_table = None; new_table = None } ∷ record { name = codes "RI_ConstraintTrigger_c_0000000001"; table = 2; ops = (ops.Insert ∷ ops.Update ∷ []); cols = ([]); level = each.Row; condition = None; con = (Some 2); does = Check 0; old_table = None; new_table = None } ∷ record { name = codes "x"; table = 1; ops = (ops.Insert ∷ []); cols = ([]); level = each.Row; condition = None; con = None; does = Body (record { statements = []; handlers = [] }); old_table = None; new_table = None } ∷ []);
        };
        conditions = (None ∷ None ∷ None ∷ None ∷ []);
        codes = ([] ∷ [] ∷ [] ∷ (block_code (joined ((block_code (joined ((Changes (Inserts (record { table = 2; columns = None; source = Values (((Value_of (New 0)) ∷ []) ∷ []) })) ∷ []) ∷ [])) (((conditions.UniqueViolation ∷ []), (joined ((Returns ∷ []) ∷ []))) ∷ [])) ∷ (Changes (Inserts (record { table = 3; columns = None; source = Values (((Value_of (Constant (values.Text (codes "fine")))) ∷ (Value_of (New 0)) ∷ []) ∷ []) })) ∷ []) ∷ (Returns ∷ []) ∷ [])) (((conditions.Others ∷ []), (joined ((Changes (Inserts (record { table = 3; columns = None; source = Values (((Value_of (Constant (values.Text (codes "caught")))) ∷ (Value_of (New 0)) ∷ []) ∷ []) })) ∷ []) ∷ (Returns ∷ []) ∷ []))) ∷ [])) ∷ []);
        rules = [];
      };
      names = (codes "a" ∷ []);
      statements = (((Ready (Begins isolations.ReadCommitted)) ∷ (Ready (Makes_savepoint (codes "s"))) ∷ (Ready (Makes_savepoint (codes "s"))) ∷ (Ready (Makes_savepoint (codes "s"))) ∷ (Ready (Makes_savepoint (codes "s"))) ∷ (Ready (Makes_savepoint (codes "s"))) ∷ (Ready (Makes_savepoint (codes "s"))) ∷ (Ready (Makes_savepoint (codes "s"))) ∷ (Ready (Makes_savepoint (codes "s"))) ∷ (Ready (Makes_savepoint (codes "s"))) ∷ (Ready (Makes_savepoint (codes "s"))) ∷ (Ready (Makes_savepoint (codes "s"))) ∷ (Ready (Makes_savepoint (codes "s"))) ∷ (Ready (Makes_savepoint (codes "s"))) ∷ (Ready (Makes_savepoint (codes "s"))) ∷ (Ready (Makes_savepoint (codes "s"))) ∷ (Ready (Makes_savepoint (codes "s"))) ∷ (Ready (Makes_savepoint (codes "s"))) ∷ (Ready (Makes_savepoint (codes "s"))) ∷ (Ready (Makes_savepoint (codes "s"))) ∷ (Ready (Makes_savepoint (codes "s"))) ∷ (Ready (Makes_savepoint (codes "s"))) ∷ (Ready (Makes_savepoint (codes "s"))) ∷ (Ready (Makes_savepoint (codes "s"))) ∷ (Ready (Makes_savepoint (codes "s"))) ∷ (Ready (Makes_savepoint (codes "s"))) ∷ (Ready (Makes_savepoint (codes "s"))) ∷ (Ready (Makes_savepoint (codes "s"))) ∷ (Ready (Makes_savepoint (codes "s"))) ∷ (Ready (Makes_savepoint (codes "s"))) ∷ (Ready (Makes_savepoint (codes "s"))) ∷ (Ready (Makes_savepoint (codes "s"))) ∷ (Ready (Makes_savepoint (codes "s"))) ∷ (Ready (Makes_savepoint (codes "s"))) ∷ (Ready (Makes_savepoint (codes "s"))) ∷ (Ready (Makes_savepoint (codes "s"))) ∷ (Ready (Makes_savepoint (codes "s"))) ∷ (Ready (Makes_savepoint (codes "s"))) ∷ (Ready (Makes_savepoint (codes "s"))) ∷ (Ready (Makes_savepoint (codes "s"))) ∷ (Ready (Makes_savepoint (codes "s"))) ∷ (Ready (Makes_savepoint (codes "s"))) ∷ (Ready (Makes_savepoint (codes "s"))) ∷ (Ready (Makes_savepoint (codes "s"))) ∷ (Ready (Makes_savepoint (codes "s"))) ∷ (Ready (Makes_savepoint (codes "s"))) ∷ (Ready (Makes_savepoint (codes "s"))) ∷ (Ready (Makes_savepoint (codes "s"))) ∷ (Ready (Makes_savepoint (codes "s"))) ∷ (Ready (Makes_savepoint (codes "s"))) ∷ (Ready (Makes_savepoint (codes "s"))) ∷ (Ready (Makes_savepoint (codes "s"))) ∷ (Ready (Makes_savepoint (codes "s"))) ∷ (Ready (Makes_savepoint (codes "s"))) ∷ (Ready (Makes_savepoint (codes "s"))) ∷ (Ready (Makes_savepoint (codes "s"))) ∷ (Ready (Makes_savepoint (codes "s"))) ∷ (Ready (Makes_savepoint (codes "s"))) ∷ (Ready (Makes_savepoint (codes "s"))) ∷ (Ready (Makes_savepoint (codes "s"))) ∷ (Ready (Makes_savepoint (codes "s"))) ∷ (Ready (Makes_savepoint (codes "s"))) ∷ (Ready (Makes_savepoint (codes "s"))) ∷ (Ready (Makes_savepoint (codes "s"))) ∷ (Ready (Changes_rows (Inserts (record { table = 1; columns = None; source = Values (((Value_of (Constant (values.Int (pos 1)))) ∷ []) ∷ []) })))) ∷ (Ready (Selects (record { columns = None; table = 3; condition = None; lock = None }))) ∷ (Ready Commits) ∷ []) ∷ []);
    }

block_is_the_65th-end : State
unfolding block_is_the_65th run_from step effect effects_of plan_of error_effects row_step insert_step queued_by queued_by_statement child_check no_action_check restrict_check action_targets new_rows targets
block_is_the_65th-end = run block_is_the_65th (replicate 81 0)

block_is_the_65th-ended : have_all_ended block_is_the_65th-end ≡ true
unfolding block_is_the_65th-end run_from step effect effects_of plan_of error_effects row_step insert_step queued_by queued_by_statement child_check no_action_check restrict_check action_targets new_rows targets
block_is_the_65th-ended = refl

block_is_the_65th-not_before : have_all_ended (run block_is_the_65th (replicate 80 0)) ≡ false
unfolding block_is_the_65th run_from step effect effects_of plan_of error_effects row_step insert_step queued_by queued_by_statement child_check no_action_check restrict_check action_targets new_rows targets
block_is_the_65th-not_before = refl

block_is_the_65th-replies : block_is_the_65th-end.world.replies ≡ (record { session = 0; statement = 1; line = replies.Tag (codes "BEGIN") } ∷ record { session = 0; statement = 2; line = replies.Tag (codes "SAVEPOINT") } ∷ record { session = 0; statement = 3; line = replies.Tag (codes "SAVEPOINT") } ∷ record { session = 0; statement = 4; line = replies.Tag (codes "SAVEPOINT") } ∷ record { session = 0; statement = 5; line = replies.Tag (codes "SAVEPOINT") } ∷ record { session = 0; statement = 6; line = replies.Tag (codes "SAVEPOINT") } ∷ record { session = 0; statement = 7; line = replies.Tag (codes "SAVEPOINT") } ∷ record { session = 0; statement = 8; line = replies.Tag (codes "SAVEPOINT") } ∷ record { session = 0; statement = 9; line = replies.Tag (codes "SAVEPOINT") } ∷ record { session = 0; statement = 10; line = replies.Tag (codes "SAVEPOINT") } ∷ record { session = 0; statement = 11; line = replies.Tag (codes "SAVEPOINT") } ∷ record { session = 0; statement = 12; line = replies.Tag (codes "SAVEPOINT") } ∷ record { session = 0; statement = 13; line = replies.Tag (codes "SAVEPOINT") } ∷ record { session = 0; statement = 14; line = replies.Tag (codes "SAVEPOINT") } ∷ record { session = 0; statement = 15; line = replies.Tag (codes "SAVEPOINT") } ∷ record { session = 0; statement = 16; line = replies.Tag (codes "SAVEPOINT") } ∷ record { session = 0; statement = 17; line = replies.Tag (codes "SAVEPOINT") } ∷ record { session = 0; statement = 18; line = replies.Tag (codes "SAVEPOINT") } ∷ record { session = 0; statement = 19; line = replies.Tag (codes "SAVEPOINT") } ∷ record { session = 0; statement = 20; line = replies.Tag (codes "SAVEPOINT") } ∷ record { session = 0; statement = 21; line = replies.Tag (codes "SAVEPOINT") } ∷ record { session = 0; statement = 22; line = replies.Tag (codes "SAVEPOINT") } ∷ record { session = 0; statement = 23; line = replies.Tag (codes "SAVEPOINT") } ∷ record { session = 0; statement = 24; line = replies.Tag (codes "SAVEPOINT") } ∷ record { session = 0; statement = 25; line = replies.Tag (codes "SAVEPOINT") } ∷ record { session = 0; statement = 26; line = replies.Tag (codes "SAVEPOINT") } ∷ record { session = 0; statement = 27; line = replies.Tag (codes "SAVEPOINT") } ∷ record { session = 0; statement = 28; line = replies.Tag (codes "SAVEPOINT") } ∷ record { session = 0; statement = 29; line = replies.Tag (codes "SAVEPOINT") } ∷ record { session = 0; statement = 30; line = replies.Tag (codes "SAVEPOINT") } ∷ record { session = 0; statement = 31; line = replies.Tag (codes "SAVEPOINT") } ∷ record { session = 0; statement = 32; line = replies.Tag (codes "SAVEPOINT") } ∷ record { session = 0; statement = 33; line = replies.Tag (codes "SAVEPOINT") } ∷ record { session = 0; statement = 34; line = replies.Tag (codes "SAVEPOINT") } ∷ record { session = 0; statement = 35; line = replies.Tag (codes "SAVEPOINT") } ∷ record { session = 0; statement = 36; line = replies.Tag (codes "SAVEPOINT") } ∷ record { session = 0; statement = 37; line = replies.Tag (codes "SAVEPOINT") } ∷ record { session = 0; statement = 38; line = replies.Tag (codes "SAVEPOINT") } ∷ record { session = 0; statement = 39; line = replies.Tag (codes "SAVEPOINT") } ∷ record { session = 0; statement = 40; line = replies.Tag (codes "SAVEPOINT") } ∷ record { session = 0; statement = 41; line = replies.Tag (codes "SAVEPOINT") } ∷ record { session = 0; statement = 42; line = replies.Tag (codes "SAVEPOINT") } ∷ record { session = 0; statement = 43; line = replies.Tag (codes "SAVEPOINT") } ∷ record { session = 0; statement = 44; line = replies.Tag (codes "SAVEPOINT") } ∷ record { session = 0; statement = 45; line = replies.Tag (codes "SAVEPOINT") } ∷ record { session = 0; statement = 46; line = replies.Tag (codes "SAVEPOINT") } ∷ record { session = 0; statement = 47; line = replies.Tag (codes "SAVEPOINT") } ∷ record { session = 0; statement = 48; line = replies.Tag (codes "SAVEPOINT") } ∷ record { session = 0; statement = 49; line = replies.Tag (codes "SAVEPOINT") } ∷ record { session = 0; statement = 50; line = replies.Tag (codes "SAVEPOINT") } ∷ record { session = 0; statement = 51; line = replies.Tag (codes "SAVEPOINT") } ∷ record { session = 0; statement = 52; line = replies.Tag (codes "SAVEPOINT") } ∷ record { session = 0; statement = 53; line = replies.Tag (codes "SAVEPOINT") } ∷ record { session = 0; statement = 54; line = replies.Tag (codes "SAVEPOINT") } ∷ record { session = 0; statement = 55; line = replies.Tag (codes "SAVEPOINT") } ∷ record { session = 0; statement = 56; line = replies.Tag (codes "SAVEPOINT") } ∷ record { session = 0; statement = 57; line = replies.Tag (codes "SAVEPOINT") } ∷ record { session = 0; statement = 58; line = replies.Tag (codes "SAVEPOINT") } ∷ record { session = 0; statement = 59; line = replies.Tag (codes "SAVEPOINT") } ∷ record { session = 0; statement = 60; line = replies.Tag (codes "SAVEPOINT") } ∷ record { session = 0; statement = 61; line = replies.Tag (codes "SAVEPOINT") } ∷ record { session = 0; statement = 62; line = replies.Tag (codes "SAVEPOINT") } ∷ record { session = 0; statement = 63; line = replies.Tag (codes "SAVEPOINT") } ∷ record { session = 0; statement = 64; line = replies.Tag (codes "SAVEPOINT") } ∷ record { session = 0; statement = 65; line = replies.Tag (codes "INSERT 0 1") } ∷ record { session = 0; statement = 66; line = replies.Row ((values.Text (codes "caught")) ∷ (values.Int (pos 1)) ∷ []) } ∷ record { session = 0; statement = 66; line = replies.Tag (codes "SELECT 1") } ∷ record { session = 0; statement = 67; line = replies.Tag (codes "COMMIT") } ∷ [])
unfolding block_is_the_65th-end run_from step effect effects_of plan_of error_effects row_step insert_step queued_by queued_by_statement child_check no_action_check restrict_check action_targets new_rows targets digits
block_is_the_65th-replies = refl

block_is_the_65th-tables : final_tables block_is_the_65th block_is_the_65th-end ≡ ([] ∷ (((values.Int (pos 1)) ∷ []) ∷ []) ∷ [] ∷ (((values.Text (codes "caught")) ∷ (values.Int (pos 1)) ∷ []) ∷ []) ∷ [])
unfolding block_is_the_65th block_is_the_65th-end run_from step effect effects_of plan_of error_effects row_step insert_step queued_by queued_by_statement child_check no_action_check restrict_check action_targets new_rows targets
block_is_the_65th-tables = refl

-- A cascade keeps the parent's new key as the child's column does, or is refused.
-- \setup
-- CREATE TABLE p (id bigint PRIMARY KEY); CREATE TABLE c (pid integer REFERENCES p ON UPDATE CASCADE);
-- \session a
-- INSERT INTO p VALUES (1); INSERT INTO c VALUES (1); UPDATE p SET id = 2147483648; UPDATE p SET id = 2147483647;
unfoldable pub cascade_out_of_range : Program
cascade_out_of_range =
    record {
      schema = record {
        catalog = record {
          tables = (record { name = codes "p"; cols = (record { name = codes "id"; kind = kinds.Bigint; default = values.Null } ∷ []); not_null = (0 ∷ []) } ∷ record { name = codes "c"; cols = (record { name = codes "pid"; kind = kinds.Integer; default = values.Null } ∷ []); not_null = [] } ∷ []);
          keys = (record { name = codes "p_pkey"; table = 0; cols = (0 ∷ []) } ∷ []);
          primaries = (0 ∷ []);
          fks = (record { name = codes "c_pid_fkey"; child = 1; child_cols = (0 ∷ []); parent = 0; parent_cols = (0 ∷ []); full = false; on_delete = actions.NoAction; on_update = actions.Cascade; con = 1; set_cols = (0 ∷ []) } ∷ []);
          constraints = (record { name = codes "p_pkey"; table = 0; decl = record { deferrable = false; deferred = false } } ∷ record { name = codes "c_pid_fkey"; table = 1; decl = record { deferrable = false; deferred = false } } ∷ []);
          functions = [];
          triggers = (record { name = codes "RI_ConstraintTrigger_a_0000000001"; table = 0; ops = (ops.Delete ∷ []); cols = ([]); level = each.Row; condition = None; con = (Some 1); does = Parent 0; old_table = None; new_table = None } ∷ record { name = codes "RI_ConstraintTrigger_a_0000000001"; table = 0; ops = (ops.Update ∷ []); cols = ([]); level = each.Row; condition = None; con = None; does = Parent 0; old_table = None; new_table = None } ∷ record { name = codes "RI_ConstraintTrigger_c_0000000001"; table = 1; ops = (ops.Insert ∷ ops.Update ∷ []); cols = ([]); level = each.Row; condition = None; con = (Some 1); does = Check 0; old_table = None; new_table = None } ∷ []);
        };
        conditions = (None ∷ None ∷ None ∷ []);
        codes = ([] ∷ [] ∷ [] ∷ []);
        rules = [];
      };
      names = (codes "a" ∷ []);
      statements = (((Ready (Changes_rows (Inserts (record { table = 0; columns = None; source = Values (((Value_of (Constant (values.Int (pos 1)))) ∷ []) ∷ []) })))) ∷ (Ready (Changes_rows (Inserts (record { table = 1; columns = None; source = Values (((Value_of (Constant (values.Int (pos 1)))) ∷ []) ∷ []) })))) ∷ (Ready (Changes_rows (Updates (record { table = 0; assignments = (record { column = 0; value = (Value_of (Constant (values.Int (pos 2147483648)))) } ∷ []); condition = None })))) ∷ (Ready (Changes_rows (Updates (record { table = 0; assignments = (record { column = 0; value = (Value_of (Constant (values.Int (pos 2147483647)))) } ∷ []); condition = None })))) ∷ []) ∷ []);
    }

cascade_out_of_range-end : State
unfolding cascade_out_of_range run_from step effect effects_of plan_of error_effects row_step insert_step queued_by queued_by_statement child_check no_action_check restrict_check action_targets new_rows targets
cascade_out_of_range-end = run cascade_out_of_range (replicate 30 0)

cascade_out_of_range-ended : have_all_ended cascade_out_of_range-end ≡ true
unfolding cascade_out_of_range-end run_from step effect effects_of plan_of error_effects row_step insert_step queued_by queued_by_statement child_check no_action_check restrict_check action_targets new_rows targets
cascade_out_of_range-ended = refl

cascade_out_of_range-not_before : have_all_ended (run cascade_out_of_range (replicate 29 0)) ≡ false
unfolding cascade_out_of_range run_from step effect effects_of plan_of error_effects row_step insert_step queued_by queued_by_statement child_check no_action_check restrict_check action_targets new_rows targets
cascade_out_of_range-not_before = refl

cascade_out_of_range-replies : cascade_out_of_range-end.world.replies ≡ (record { session = 0; statement = 1; line = replies.Tag (codes "INSERT 0 1") } ∷ record { session = 0; statement = 2; line = replies.Tag (codes "INSERT 0 1") } ∷ record { session = 0; statement = 3; line = replies.Error (record { 0 = codes "22003" }) (codes "integer out of range") } ∷ record { session = 0; statement = 4; line = replies.Tag (codes "UPDATE 1") } ∷ [])
unfolding cascade_out_of_range-end run_from step effect effects_of plan_of error_effects row_step insert_step queued_by queued_by_statement child_check no_action_check restrict_check action_targets new_rows targets digits
cascade_out_of_range-replies = refl

cascade_out_of_range-tables : final_tables cascade_out_of_range cascade_out_of_range-end ≡ ((((values.Int (pos 2147483647)) ∷ []) ∷ []) ∷ (((values.Int (pos 2147483647)) ∷ []) ∷ []) ∷ [])
unfolding cascade_out_of_range cascade_out_of_range-end run_from step effect effects_of plan_of error_effects row_step insert_step queued_by queued_by_statement child_check no_action_check restrict_check action_targets new_rows targets
cascade_out_of_range-tables = refl

cascade_out_of_range-trace : cascade_out_of_range-end.world.trace ≡ (traces.Begin (codes "a") isolations.ReadCommitted ∷ traces.Open (codes "a") 1 ∷ traces.Change (codes "a") (codes "p") 1 None (Some ((values.Int (pos 1)) ∷ [])) [] ∷ traces.Close (codes "a") 1 ∷ traces.Drain (codes "a") ∷ traces.Commit (codes "a") 1 ∷ traces.Reply (codes "a") 1 ∷ traces.Begin (codes "a") isolations.ReadCommitted ∷ traces.Open (codes "a") 1 ∷ traces.Change (codes "a") (codes "c") 2 None (Some ((values.Int (pos 1)) ∷ [])) (record { no = 1; trigger = codes "RI_ConstraintTrigger_c_0000000001" } ∷ []) ∷ traces.Round (codes "a") ∷ traces.Fire (codes "a") 1 ∷ traces.Done (codes "a") 1 endings.Passed ∷ traces.Close (codes "a") 1 ∷ traces.Drain (codes "a") ∷ traces.Commit (codes "a") 2 ∷ traces.Reply (codes "a") 2 ∷ traces.Begin (codes "a") isolations.ReadCommitted ∷ traces.Open (codes "a") 1 ∷ traces.Change (codes "a") (codes "p") 1 (Some ((values.Int (pos 1)) ∷ [])) (Some ((values.Int (pos 2147483648)) ∷ [])) (record { no = 1; trigger = codes "RI_ConstraintTrigger_a_0000000001" } ∷ []) ∷ traces.Round (codes "a") ∷ traces.Fire (codes "a") 1 ∷ traces.Fail (codes "a") (record { 0 = codes "22003" }) ∷ traces.Abort (codes "a") ∷ traces.Reply (codes "a") 3 ∷ traces.Begin (codes "a") isolations.ReadCommitted ∷ traces.Open (codes "a") 1 ∷ traces.Change (codes "a") (codes "p") 1 (Some ((values.Int (pos 1)) ∷ [])) (Some ((values.Int (pos 2147483647)) ∷ [])) (record { no = 1; trigger = codes "RI_ConstraintTrigger_a_0000000001" } ∷ []) ∷ traces.Round (codes "a") ∷ traces.Fire (codes "a") 1 ∷ traces.Change (codes "a") (codes "c") 2 (Some ((values.Int (pos 1)) ∷ [])) (Some ((values.Int (pos 2147483647)) ∷ [])) (record { no = 2; trigger = codes "RI_ConstraintTrigger_c_0000000001" } ∷ []) ∷ traces.Done (codes "a") 1 (endings.Acted 1) ∷ traces.Round (codes "a") ∷ traces.Fire (codes "a") 2 ∷ traces.Done (codes "a") 2 endings.Passed ∷ traces.Close (codes "a") 1 ∷ traces.Drain (codes "a") ∷ traces.Commit (codes "a") 3 ∷ traces.Reply (codes "a") 4 ∷ traces.End (codes "a") ∷ [])
unfolding cascade_out_of_range-end run_from step effect effects_of plan_of error_effects row_step insert_step queued_by queued_by_statement child_check no_action_check restrict_check action_targets new_rows targets
cascade_out_of_range-trace = refl

-- The end of an action drops a statement event that the round has taken already, and goes on to check the old key.
-- \setup
-- CREATE TABLE p (a integer PRIMARY KEY, b integer DEFAULT 1 REFERENCES p ON UPDATE SET DEFAULT);
-- CREATE FUNCTION g() RETURNS trigger LANGUAGE plpgsql AS $$ BEGIN RETURN NULL; END $$;
-- CREATE TRIGGER s AFTER UPDATE ON p FOR EACH STATEMENT EXECUTE FUNCTION g();
-- \session a
-- INSERT INTO p VALUES (1, 1); UPDATE p SET a = 2;
unfoldable pub default_that_replaces : Program
default_that_replaces =
    record {
      schema = record {
        catalog = record {
          tables = (record { name = codes "p"; cols = (record { name = codes "a"; kind = kinds.Integer; default = values.Null } ∷ record { name = codes "b"; kind = kinds.Integer; default = (values.Int (pos 1)) } ∷ []); not_null = (0 ∷ []) } ∷ []);
          keys = (record { name = codes "p_pkey"; table = 0; cols = (0 ∷ []) } ∷ []);
          primaries = (0 ∷ []);
          fks = (record { name = codes "p_b_fkey"; child = 0; child_cols = (1 ∷ []); parent = 0; parent_cols = (0 ∷ []); full = false; on_delete = actions.NoAction; on_update = actions.SetDefault; con = 1; set_cols = (1 ∷ []) } ∷ []);
          constraints = (record { name = codes "p_pkey"; table = 0; decl = record { deferrable = false; deferred = false } } ∷ record { name = codes "p_b_fkey"; table = 0; decl = record { deferrable = false; deferred = false } } ∷ []);
          functions = [];
          triggers = (record { name = codes "RI_ConstraintTrigger_a_0000000001"; table = 0; ops = (ops.Delete ∷ []); cols = ([]); level = each.Row; condition = None; con = (Some 1); does = Parent 0; old_table = None; new_table = None } ∷ record { name = codes "RI_ConstraintTrigger_a_0000000001"; table = 0; ops = (ops.Update ∷ []); cols = ([]); level = each.Row; condition = None; con = None; does = Parent 0; old_table = None; new_table = None } ∷ record { name = codes "RI_ConstraintTrigger_c_0000000001"; table = 0; ops = (ops.Insert ∷ ops.Update ∷ []); cols = ([]); level = each.Row; condition = None; con = (Some 1); does = Check 0; old_table = None; new_table = None } ∷ record { name = codes "s"; table = 0; ops = (ops.Update ∷ []); cols = ([]); level = each.Statement; condition = None; con = None; does = Body (record { statements = []; handlers = [] }); old_table = None; new_table = None } ∷ []);
        };
        conditions = (None ∷ None ∷ None ∷ None ∷ []);
        codes = ([] ∷ [] ∷ [] ∷ (block_code (joined ((Returns ∷ []) ∷ [])) []) ∷ []);
        rules = [];
      };
      names = (codes "a" ∷ []);
      statements = (((Ready (Changes_rows (Inserts (record { table = 0; columns = None; source = Values (((Value_of (Constant (values.Int (pos 1)))) ∷ (Value_of (Constant (values.Int (pos 1)))) ∷ []) ∷ []) })))) ∷ (Ready (Changes_rows (Updates (record { table = 0; assignments = (record { column = 0; value = (Value_of (Constant (values.Int (pos 2)))) } ∷ []); condition = None })))) ∷ []) ∷ []);
    }

default_that_replaces-end : State
unfolding default_that_replaces run_from step effect effects_of plan_of error_effects row_step insert_step queued_by queued_by_statement child_check no_action_check restrict_check action_targets new_rows targets
default_that_replaces-end = run default_that_replaces (replicate 16 0)

default_that_replaces-ended : have_all_ended default_that_replaces-end ≡ true
unfolding default_that_replaces-end run_from step effect effects_of plan_of error_effects row_step insert_step queued_by queued_by_statement child_check no_action_check restrict_check action_targets new_rows targets
default_that_replaces-ended = refl

default_that_replaces-not_before : have_all_ended (run default_that_replaces (replicate 15 0)) ≡ false
unfolding default_that_replaces run_from step effect effects_of plan_of error_effects row_step insert_step queued_by queued_by_statement child_check no_action_check restrict_check action_targets new_rows targets
default_that_replaces-not_before = refl

default_that_replaces-replies : default_that_replaces-end.world.replies ≡ (record { session = 0; statement = 1; line = replies.Tag (codes "INSERT 0 1") } ∷ record { session = 0; statement = 2; line = replies.Error (record { 0 = codes "23503" }) (codes "update or delete on table \"p\" violates foreign key constraint \"p_b_fkey\" on table \"p\"") } ∷ record { session = 0; statement = 2; line = replies.Detail (codes "Key (a)=(1) is still referenced from table \"p\".") } ∷ [])
unfolding default_that_replaces-end run_from step effect effects_of plan_of error_effects row_step insert_step queued_by queued_by_statement child_check no_action_check restrict_check action_targets new_rows targets digits
default_that_replaces-replies = refl

default_that_replaces-tables : final_tables default_that_replaces default_that_replaces-end ≡ ((((values.Int (pos 1)) ∷ (values.Int (pos 1)) ∷ []) ∷ []) ∷ [])
unfolding default_that_replaces default_that_replaces-end run_from step effect effects_of plan_of error_effects row_step insert_step queued_by queued_by_statement child_check no_action_check restrict_check action_targets new_rows targets
default_that_replaces-tables = refl

default_that_replaces-trace : default_that_replaces-end.world.trace ≡ (traces.Begin (codes "a") isolations.ReadCommitted ∷ traces.Open (codes "a") 1 ∷ traces.Change (codes "a") (codes "p") 1 None (Some ((values.Int (pos 1)) ∷ (values.Int (pos 1)) ∷ [])) (record { no = 1; trigger = codes "RI_ConstraintTrigger_c_0000000001" } ∷ []) ∷ traces.Round (codes "a") ∷ traces.Fire (codes "a") 1 ∷ traces.Done (codes "a") 1 endings.Passed ∷ traces.Close (codes "a") 1 ∷ traces.Drain (codes "a") ∷ traces.Commit (codes "a") 1 ∷ traces.Reply (codes "a") 1 ∷ traces.Begin (codes "a") isolations.ReadCommitted ∷ traces.Open (codes "a") 1 ∷ traces.Change (codes "a") (codes "p") 1 (Some ((values.Int (pos 1)) ∷ (values.Int (pos 1)) ∷ [])) (Some ((values.Int (pos 2)) ∷ (values.Int (pos 1)) ∷ [])) (record { no = 1; trigger = codes "RI_ConstraintTrigger_a_0000000001" } ∷ []) ∷ traces.Queue (codes "a") 2 (codes "s") ∷ traces.Round (codes "a") ∷ traces.Fire (codes "a") 1 ∷ traces.Change (codes "a") (codes "p") 1 (Some ((values.Int (pos 2)) ∷ (values.Int (pos 1)) ∷ [])) (Some ((values.Int (pos 2)) ∷ (values.Int (pos 1)) ∷ [])) (record { no = 3; trigger = codes "RI_ConstraintTrigger_c_0000000001" } ∷ []) ∷ traces.Dropped (codes "a") 2 ∷ traces.Queue (codes "a") 4 (codes "s") ∷ traces.Pair (codes "a") 1 1 ∷ traces.Fail (codes "a") (record { 0 = codes "23503" }) ∷ traces.Abort (codes "a") ∷ traces.Reply (codes "a") 2 ∷ traces.End (codes "a") ∷ [])
unfolding default_that_replaces-end run_from step effect effects_of plan_of error_effects row_step insert_step queued_by queued_by_statement child_check no_action_check restrict_check action_targets new_rows targets
default_that_replaces-trace = refl
