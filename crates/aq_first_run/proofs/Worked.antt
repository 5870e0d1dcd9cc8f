-- Worked examples, computed on the definitions.
use Rattle.std.proofs.Common.{◌≡◌, ℕ, true, false, List, [], ◌∷◌, ◌++◌, Some, None, refl, map}
use Rattle.std.specs.Prelude.{codes, pos, replicate}
use Rattle.std.specs.Fmt.{digits}
use Rattle.aq_base.specs.Values.{Row}
use Rattle.aq_base.specs.Names.{Text}
use Rattle.aq_first_base.specs.Setup.{program_of}
use Rattle.aq_first_base.specs.Scripts.{fits_first_language}
use Rattle.aq_base.specs.declared.value.Value.TheVariants.{Null, Int}
use Rattle.aq_base.specs.declared.catalog.Decl.{Decl}
use Rattle.aq_base.specs.declared.script.Kind.TheVariants.{Integer}
use Rattle.aq_first_base.specs.declared.simple.SimpleConstraint.TheVariants.{PrimaryKey, References}
use Rattle.aq_first_base.specs.declared.simple.SimpleStatement.{SimpleStatement}
use Rattle.aq_first_base.specs.declared.simple.SimpleStatement.TheVariants.{CreateTable, Insert, Delete, Begin, Commit, Rollback}
use Rattle.aq_first_base.specs.declared.simple.SimplePlaced.{SimplePlaced}
use Rattle.aq_first_base.specs.declared.simple.SimpleScript.{SimpleScript}
use Rattle.aq_first_run.specs.Effects.{effect}
use Rattle.aq_first_run.specs.Steps.{plan_of, effects_of, step}
use Rattle.aq_first_run.specs.Runs.{run_from, run, have_all_ended}
use Rattle.aq_first_run.specs.Texts.{text}
use Rattle.aq_texts.specs.Rows.{line}

-- a constraint that is checked at the end of the statement, and one that waits for COMMIT
abbrev at_once : Decl
at_once = record { deferrable = false; deferred = false }

abbrev at_commit : Decl
at_commit = record { deferrable = true; deferred = true }

-- CREATE TABLE p (id integer PRIMARY KEY); CREATE TABLE c (pid integer REFERENCES p);
abbrev parent_and_child : List SimplePlaced
parent_and_child =
    record { line = 1; statement = CreateTable (codes "p") (record { name = codes "id"; kind = Integer; constraint = Some PrimaryKey } ∷ []) }
    ∷ record { line = 1; statement = CreateTable (codes "c") (record { name = codes "pid"; kind = Integer; constraint = Some (References (codes "p") at_once) } ∷ []) } ∷ []

abbrev ints : List ℕ → Row
ints ns = map (λ n. Int (pos n)) ns

abbrev insert : Text → List (List ℕ) → SimplePlaced
insert table rows = record { line = 1; statement = Insert table (map ints rows) }

abbrev one_session : List SimplePlaced → List SimplePlaced → SimpleScript
one_session setup statements = record { setup = setup; sessions = record { name = codes "a"; statements = statements } ∷ []; schedule = None }

-- a parent, its child, and a child that has no parent
abbrev missing_parent : SimpleScript
missing_parent = one_session parent_and_child (insert (codes "p") ((1 ∷ []) ∷ []) ∷ insert (codes "c") ((1 ∷ []) ∷ []) ∷ insert (codes "c") ((2 ∷ []) ∷ []) ∷ [])

missing_parent-fits : fits_first_language missing_parent ≡ true
missing_parent-fits = refl

missing_parent-ends : have_all_ended (run (program_of missing_parent) (replicate 18 0)) ≡ true
unfolding run_from step effect effects_of plan_of
missing_parent-ends = refl

missing_parent-not_before : have_all_ended (run (program_of missing_parent) (replicate 17 0)) ≡ false
unfolding run_from step effect effects_of plan_of
missing_parent-not_before = refl

missing_parent-text : text (program_of missing_parent) (replicate 18 0)
    ≡ line (codes "a.1: INSERT 0 1") ++ line (codes "a.2: INSERT 0 1")
    ++ line (codes "a.3: ERROR 23503 insert or update on table \"c\" violates foreign key constraint \"c_pid_fkey\"")
    ++ line (codes "a.3: DETAIL Key (pid)=(2) is not present in table \"p\".")
    ++ line (codes "table p (id)") ++ line (codes "(1)") ++ line (codes "table c (pid)") ++ line (codes "(1)") ++ line (codes "schedule a*18")
unfolding run_from step effect effects_of plan_of digits
missing_parent-text = refl

abbrev step_by_step : SimpleScript → List ℕ → Text
step_by_step script schedule = text (program_of script) schedule

-- nothing at all
nothing : SimpleScript
nothing = record { setup = []; sessions = []; schedule = None }

nothing-text : step_by_step nothing [] ≡ line (codes "schedule")
unfolding nothing run_from
nothing-text = refl

-- a statement that repeats a key keeps none of its rows, and the rows after it are as if it hadn't been
abbrev repeated_key : SimpleScript
repeated_key = one_session parent_and_child (insert (codes "p") ((1 ∷ []) ∷ (2 ∷ []) ∷ (1 ∷ []) ∷ (3 ∷ []) ∷ []) ∷ insert (codes "p") ((3 ∷ []) ∷ []) ∷ [])

repeated_key-text : step_by_step repeated_key (replicate 10 0)
    ≡ line (codes "a.1: ERROR 23505 duplicate key value violates unique constraint \"p_pkey\"")
    ++ line (codes "a.1: DETAIL Key (id)=(1) already exists.") ++ line (codes "a.2: INSERT 0 1")
    ++ line (codes "table p (id)") ++ line (codes "(3)") ++ line (codes "table c (pid)") ++ line (codes "schedule a*10")
unfolding run_from step effect effects_of plan_of digits
repeated_key-text = refl

-- a key that is taken by a committed row
abbrev taken_key : SimpleScript
taken_key = one_session parent_and_child (insert (codes "p") ((7 ∷ []) ∷ []) ∷ insert (codes "p") ((7 ∷ []) ∷ []) ∷ [])

taken_key-text : step_by_step taken_key (replicate 8 0)
    ≡ line (codes "a.1: INSERT 0 1") ++ line (codes "a.2: ERROR 23505 duplicate key value violates unique constraint \"p_pkey\"")
    ++ line (codes "a.2: DETAIL Key (id)=(7) already exists.")
    ++ line (codes "table p (id)") ++ line (codes "(7)") ++ line (codes "table c (pid)") ++ line (codes "schedule a*8")
unfolding run_from step effect effects_of plan_of digits
taken_key-text = refl

-- two foreign keys of one row: both checks fire, the second finds no parent, and all rows of the statement go
abbrev two_parents : SimpleScript
two_parents =
    one_session
    (record { line = 1; statement = CreateTable (codes "p") (record { name = codes "id"; kind = Integer; constraint = Some PrimaryKey } ∷ []) }
    ∷ record { line = 1; statement = CreateTable (codes "q") (record { name = codes "v"; kind = Integer; constraint = None } ∷ record { name = codes "k"; kind = Integer; constraint = Some PrimaryKey } ∷ []) }
    ∷ record { line = 1; statement = CreateTable (codes "c") (record { name = codes "a"; kind = Integer; constraint = Some (References (codes "p") at_once) } ∷ record { name = codes "b"; kind = Integer; constraint = Some (References (codes "q") at_once) } ∷ []) } ∷ [])
    (insert (codes "p") ((1 ∷ []) ∷ []) ∷ insert (codes "q") ((5 ∷ 2 ∷ []) ∷ []) ∷ insert (codes "c") ((1 ∷ 2 ∷ []) ∷ (1 ∷ 5 ∷ []) ∷ []) ∷ insert (codes "c") ((1 ∷ 2 ∷ []) ∷ []) ∷ [])

two_parents-text : step_by_step two_parents (replicate 28 0)
    ≡ line (codes "a.1: INSERT 0 1") ++ line (codes "a.2: INSERT 0 1")
    ++ line (codes "a.3: ERROR 23503 insert or update on table \"c\" violates foreign key constraint \"c_b_fkey\"")
    ++ line (codes "a.3: DETAIL Key (b)=(5) is not present in table \"q\".") ++ line (codes "a.4: INSERT 0 1")
    ++ line (codes "table p (id)") ++ line (codes "(1)") ++ line (codes "table q (v, k)") ++ line (codes "(5, 2)")
    ++ line (codes "table c (a, b)") ++ line (codes "(1, 2)") ++ line (codes "schedule a*28")
unfolding run_from step effect effects_of plan_of digits
two_parents-text = refl

-- the numbers of steps are those after which all have ended, and no fewer
two_parents-ends : have_all_ended (run (program_of two_parents) (replicate 28 0)) ≡ true
unfolding run_from step effect effects_of plan_of
two_parents-ends = refl

two_parents-not_before : have_all_ended (run (program_of two_parents) (replicate 27 0)) ≡ false
unfolding run_from step effect effects_of plan_of
two_parents-not_before = refl

repeated_key-ends : have_all_ended (run (program_of repeated_key) (replicate 10 0)) ≡ true
unfolding run_from step effect effects_of plan_of
repeated_key-ends = refl

repeated_key-not_before : have_all_ended (run (program_of repeated_key) (replicate 9 0)) ≡ false
unfolding run_from step effect effects_of plan_of
repeated_key-not_before = refl

-- ---- blocks, deferred checks, deletes and nulls

abbrev plain : SimpleStatement → SimplePlaced
plain statement = record { line = 1; statement = statement }

abbrev deferred_child : List SimplePlaced
deferred_child =
    plain (CreateTable (codes "p") (record { name = codes "id"; kind = Integer; constraint = Some PrimaryKey } ∷ []))
    ∷ plain (CreateTable (codes "c") (record { name = codes "pid"; kind = Integer; constraint = Some (References (codes "p") at_commit) } ∷ [])) ∷ []

-- a table that refers to itself
abbrev tree : SimpleScript
tree =
    one_session
    (plain (CreateTable (codes "node") (record { name = codes "id"; kind = Integer; constraint = Some PrimaryKey } ∷ record { name = codes "up"; kind = Integer; constraint = Some (References (codes "node") at_once) } ∷ [])) ∷ [])
    (plain (Insert (codes "node") ((Int (pos 1) ∷ Null ∷ []) ∷ (Int (pos 2) ∷ Int (pos 1) ∷ []) ∷ [])) ∷ plain (Delete (codes "node")) ∷ [])

tree-fits : fits_first_language tree ≡ true
tree-fits = refl

tree-text : step_by_step tree (replicate 19 0)
    ≡ line (codes "a.1: INSERT 0 2") ++ line (codes "a.2: DELETE 2") ++ line (codes "table node (id, up)") ++ line (codes "schedule a*19")
unfolding run_from step effect effects_of plan_of digits
tree-text = refl

tree-not_before : have_all_ended (run (program_of tree) (replicate 18 0)) ≡ false
unfolding run_from step effect effects_of plan_of
tree-not_before = refl

-- a deferred check fires at COMMIT, and its error is COMMIT's reply
abbrev late_parent : SimpleScript
late_parent =
    one_session deferred_child
    (plain Begin ∷ insert (codes "c") ((1 ∷ []) ∷ []) ∷ insert (codes "p") ((1 ∷ []) ∷ []) ∷ plain Commit
    ∷ plain Begin ∷ insert (codes "c") ((9 ∷ []) ∷ []) ∷ plain Commit ∷ [])

late_parent-text : step_by_step late_parent (replicate 22 0)
    ≡ line (codes "a.1: BEGIN") ++ line (codes "a.2: INSERT 0 1") ++ line (codes "a.3: INSERT 0 1") ++ line (codes "a.4: COMMIT")
    ++ line (codes "a.5: BEGIN") ++ line (codes "a.6: INSERT 0 1")
    ++ line (codes "a.7: ERROR 23503 insert or update on table \"c\" violates foreign key constraint \"c_pid_fkey\"")
    ++ line (codes "a.7: DETAIL Key (pid)=(9) is not present in table \"p\".")
    ++ line (codes "table p (id)") ++ line (codes "(1)") ++ line (codes "table c (pid)") ++ line (codes "(1)") ++ line (codes "schedule a*22")
unfolding run_from step effect effects_of plan_of digits
late_parent-text = refl

late_parent-not_before : have_all_ended (run (program_of late_parent) (replicate 21 0)) ≡ false
unfolding run_from step effect effects_of plan_of
late_parent-not_before = refl

-- the check of a row that was deleted since is skipped
abbrev deleted_child : SimpleScript
deleted_child = one_session deferred_child (plain Begin ∷ insert (codes "c") ((7 ∷ []) ∷ []) ∷ plain (Delete (codes "c")) ∷ plain Commit ∷ [])

deleted_child-text : step_by_step deleted_child (replicate 14 0)
    ≡ line (codes "a.1: BEGIN") ++ line (codes "a.2: INSERT 0 1") ++ line (codes "a.3: DELETE 1") ++ line (codes "a.4: COMMIT")
    ++ line (codes "table p (id)") ++ line (codes "table c (pid)") ++ line (codes "schedule a*14")
unfolding run_from step effect effects_of plan_of digits
deleted_child-text = refl

deleted_child-not_before : have_all_ended (run (program_of deleted_child) (replicate 13 0)) ≡ false
unfolding run_from step effect effects_of plan_of
deleted_child-not_before = refl

-- the states of a block
abbrev block_states : SimpleScript
block_states =
    one_session (plain (CreateTable (codes "p") (record { name = codes "id"; kind = Integer; constraint = Some PrimaryKey } ∷ [])) ∷ [])
    (plain Commit ∷ plain Begin ∷ plain Begin ∷ insert (codes "p") ((1 ∷ []) ∷ []) ∷ insert (codes "p") ((1 ∷ []) ∷ []) ∷ plain (Delete (codes "p"))
    ∷ plain Rollback ∷ plain Rollback ∷ [])

block_states-text : step_by_step block_states (replicate 13 0)
    ≡ line (codes "a.1: WARNING 25P01 there is no transaction in progress") ++ line (codes "a.1: COMMIT") ++ line (codes "a.2: BEGIN")
    ++ line (codes "a.3: WARNING 25001 there is already a transaction in progress") ++ line (codes "a.3: BEGIN") ++ line (codes "a.4: INSERT 0 1")
    ++ line (codes "a.5: ERROR 23505 duplicate key value violates unique constraint \"p_pkey\"")
    ++ line (codes "a.5: DETAIL Key (id)=(1) already exists.")
    ++ line (codes "a.6: ERROR 25P02 current transaction is aborted, commands ignored until end of transaction block")
    ++ line (codes "a.7: ROLLBACK") ++ line (codes "a.8: WARNING 25P01 there is no transaction in progress") ++ line (codes "a.8: ROLLBACK")
    ++ line (codes "table p (id)") ++ line (codes "schedule a*13")
unfolding run_from step effect effects_of plan_of digits
block_states-text = refl

-- a parent that still has a child can't be deleted, and a null in a primary key is refused
abbrev kept_parent : SimpleScript
kept_parent =
    one_session parent_and_child
    (insert (codes "p") ((1 ∷ []) ∷ []) ∷ insert (codes "c") ((1 ∷ []) ∷ []) ∷ plain (Delete (codes "p")) ∷ plain (Insert (codes "p") ((Null ∷ []) ∷ [])) ∷ [])

kept_parent-text : step_by_step kept_parent (replicate 20 0)
    ≡ line (codes "a.1: INSERT 0 1") ++ line (codes "a.2: INSERT 0 1")
    ++ line (codes "a.3: ERROR 23503 update or delete on table \"p\" violates foreign key constraint \"c_pid_fkey\" on table \"c\"")
    ++ line (codes "a.3: DETAIL Key (id)=(1) is still referenced from table \"c\".")
    ++ line (codes "a.4: ERROR 23502 null value in column \"id\" of relation \"p\" violates not-null constraint")
    ++ line (codes "a.4: DETAIL Failing row contains (null).")
    ++ line (codes "table p (id)") ++ line (codes "(1)") ++ line (codes "table c (pid)") ++ line (codes "(1)") ++ line (codes "schedule a*20")
unfolding run_from step effect effects_of plan_of digits
kept_parent-text = refl

kept_parent-ends : have_all_ended (run (program_of kept_parent) (replicate 20 0)) ≡ true
unfolding run_from step effect effects_of plan_of
kept_parent-ends = refl
