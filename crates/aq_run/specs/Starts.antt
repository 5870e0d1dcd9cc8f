-- A session's next statement starts, or there is none left (PostgreSQL source, postgres.c, exec_simple_query; xact.c).
use Rattle.std.specs.Prelude.{ℕ, Bool, true, false, List, [], ◌∷◌, ◌++◌, length, map, Option, Some, None, Result, Ok, Err, if◌then◌else◌, nat_le, codes}
use Rattle.aq_base.specs.Values.{Row}
use Rattle.aq_base.specs.Names.{Text, same_text}
use Rattle.aq_base.specs.Maps.{at}
use Rattle.aq_base.specs.Databases.{Database, Stored}
use Rattle.aq_base.specs.Limits.{saved_limit}
use Rattle.aq_base.specs.Transitions.{Transition}
use Rattle.aq_base.specs.Works.{Saved}
use Rattle.aq_base.specs.Works.Kind.{Level, Constraints, Drain}
use Rattle.aq_base.specs.Works.Mark.{Named, Block}
use Rattle.aq_base.specs.Statements.{Statement, Change_of_rows, Select}
use Rattle.aq_base.specs.Statements.Statement.{Changes_rows, Selects, Sets_constraints, Begins as Begins_block, Starts_transaction, Commits, Rolls_back, Makes_savepoint, Releases_savepoint, Rolls_back_to}
use Rattle.aq_base.specs.Statements.Change_of_rows.{Inserts, Updates, Deletes}
use Rattle.aq_base.specs.declared.fault.SqlFault.{SqlFault}
use Rattle.aq_base.specs.declared.script.Kind.{Kind as Value_kind}
use Rattle.aq_base.specs.declared.data.LockMode.{LockMode}
use Rattle.aq_base.specs.declared.modes.ConstraintMode.{ConstraintMode}
use Rattle.aq_base.specs.declared.modes.ConstraintMode.TheVariants.{Deferred, Immediate}
use Rattle.aq_base.specs.declared.statement.Isolation.{Isolation}
use Rattle.aq_base.specs.declared.statement.Isolation.TheVariants.{ReadCommitted, RepeatableRead}
use Rattle.aq_base.specs.declared.bound_statement.BoundConstraints.{BoundConstraints}
use Rattle.aq_base.specs.declared.bound_statement.BoundConstraints.TheVariants.{All, Named as Those_named}
use Rattle.aq_base.specs.declared.bound_statement.BoundSet.{BoundSet}
use Rattle.aq_expr.specs.Evaluation.{Surroundings, nothing_around}
use Rattle.aq_outcomes.specs.Schemas.{Schema, columns}
use Rattle.aq_outcomes.specs.Sources.{new_rows, targets, shown}
use Rattle.aq_outcomes.specs.Faults.{out_of_range, failed_block, only_in_block, no_savepoint, too_many_saved}
use Rattle.aq_run.specs.Programs.{Prepared, Form}
use Rattle.aq_run.specs.Programs.Prepared.{Ready, Refused}
use Rattle.aq_run.specs.Programs.Form.{On_rows, On_constraints}
use Rattle.aq_run.specs.States.{Target, Block_state, Transaction, Session, around}
use Rattle.aq_run.specs.States.Target.{New_row, Old_row}
use Rattle.aq_run.specs.States.Place.{In_session}
use Rattle.aq_run.specs.States.Task.{Changing, Locking, Settling, Committing}
use Rattle.aq_run.specs.States.Block_state.{Idle, Open, Failed}
use Rattle.aq_run.specs.Effects.{Effect}
use Rattle.aq_run.specs.Effects.Effect.{Takes_statement, Begins, Fixes_snapshot, Starts, Opens, Sets_mode, Saves, Releases, Returns, Aborts, Replies, Becomes, Ends}
use Rattle.aq_run.specs.Replies.{tag, shown_rows, in_progress_warning, no_block_warning, constraints_warning}
use Rattle.aq_run.specs.Faults.{warned}
use Rattle.aq_run.specs.Plans.{Plan, refused}
use Rattle.aq_run.specs.Plans.Plan.{Does_all, Fails}

-- ---- transaction control

abbrev pub begin_plan : Block_state → Text → Isolation → Plan
begin_plan Idle answer isolation = Does_all (Takes_statement ∷ Begins isolation ∷ Becomes Open ∷ Replies (tag answer) ∷ [])
begin_plan Open answer isolation = Does_all (Takes_statement ∷ Replies (in_progress_warning ∷ tag answer) ∷ [])
begin_plan Failed answer isolation = refused (Takes_statement ∷ []) failed_block

-- COMMIT in an open block is followed by the drain; a failed block is rolled back
abbrev pub commit_plan : Block_state → Plan
commit_plan Idle = Does_all (Takes_statement ∷ Replies (no_block_warning ∷ tag (codes "COMMIT")) ∷ [])
commit_plan Open = Does_all (Takes_statement ∷ Becomes Idle ∷ Opens Drain (Committing None) ∷ [])
commit_plan Failed = Does_all (Takes_statement ∷ Aborts ∷ Becomes Idle ∷ Replies (tag (codes "ROLLBACK")) ∷ [])

abbrev pub rollback_plan : Block_state → Plan
rollback_plan Idle = Does_all (Takes_statement ∷ Replies (no_block_warning ∷ tag (codes "ROLLBACK")) ∷ [])
rollback_plan Open = Does_all (Takes_statement ∷ Aborts ∷ Becomes Idle ∷ Replies (tag (codes "ROLLBACK")) ∷ [])
rollback_plan Failed = Does_all (Takes_statement ∷ Aborts ∷ Becomes Idle ∷ Replies (tag (codes "ROLLBACK")) ∷ [])

-- ---- savepoints

abbrev pub saved_of : Option Transaction → List Saved
saved_of None = []
saved_of (Some t) = t.saved

abbrev pub is_named : Text → Saved → Bool
is_named name saved = elim (saved.mark) [ Named other ↦ same_text other name | Block number height ↦ false ]

-- how many saved copies stand before the latest one with the name
abbrev pub place_of : Text → List Saved → Option ℕ
place_of name [] = None
place_of name (saved ∷ others) = if is_named name saved then Some (length others) else place_of name others

-- no more than so many copies stand together
abbrev pub unless_full : Bool → List Effect → Plan → Plan
unless_full true before plan = refused before too_many_saved
unless_full false before plan = plan

abbrev pub savepoint_plan : Block_state → Text → List Saved → Plan
savepoint_plan Idle name saved = refused (Takes_statement ∷ []) (only_in_block (codes "SAVEPOINT"))
savepoint_plan Open name saved =
    unless_full (nat_le saved_limit (length saved)) (Takes_statement ∷ [])
    (Does_all (Takes_statement ∷ Saves (Named name) ∷ Replies (tag (codes "SAVEPOINT")) ∷ []))
savepoint_plan Failed name saved = refused (Takes_statement ∷ []) failed_block

abbrev pub on_release : Text → Option ℕ → Plan
on_release name None = refused (Takes_statement ∷ []) (no_savepoint name)
on_release name (Some standing) = Does_all (Takes_statement ∷ Releases standing ∷ Replies (tag (codes "RELEASE")) ∷ [])

abbrev pub release_plan : Block_state → Text → List Saved → Plan
release_plan Idle name saved = refused (Takes_statement ∷ []) (only_in_block (codes "RELEASE SAVEPOINT"))
release_plan Open name saved = on_release name (place_of name saved)
release_plan Failed name saved = refused (Takes_statement ∷ []) failed_block

-- no error is caught here
abbrev pub on_return : Text → Option ℕ → Plan
on_return name None = refused (Takes_statement ∷ []) (no_savepoint name)
on_return name (Some standing) =
    Does_all (Takes_statement ∷ Returns standing (record { 0 = [] }) [] ∷ Becomes Open ∷ Replies (tag (codes "ROLLBACK")) ∷ [])

abbrev pub return_plan : Block_state → Text → List Saved → Plan
return_plan Idle name saved = refused (Takes_statement ∷ []) (only_in_block (codes "ROLLBACK TO SAVEPOINT"))
return_plan Open name saved = on_return name (place_of name saved)
return_plan Failed name saved = on_return name (place_of name saved)

-- ---- SET CONSTRAINTS

abbrev pub is_deferring : ConstraintMode → Bool
is_deferring Deferred = true
is_deferring Immediate = false

-- name by name
abbrev pub mode_effects : BoundConstraints → Bool → List Effect
mode_effects All deferred = Sets_mode None deferred ∷ []
mode_effects (Those_named names) deferred = map (λ cons. Sets_mode (Some cons) deferred) names

-- DEFERRED is done with that; IMMEDIATE is followed by its rounds
abbrev pub after_modes : Bool → List Effect
after_modes true = Replies (tag (codes "SET CONSTRAINTS")) ∷ []
after_modes false = Opens Constraints (Settling In_session) ∷ []

abbrev pub set_plan : Block_state → BoundSet → Plan
set_plan Idle s = Does_all (Takes_statement ∷ Replies (constraints_warning ∷ tag (codes "SET CONSTRAINTS")) ∷ [])
set_plan Open s = Does_all (Takes_statement ∷ (mode_effects s.constraints (is_deferring s.mode) ++ after_modes (is_deferring s.mode)))
set_plan Failed s = refused (Takes_statement ∷ []) failed_block

-- ---- statements on rows

-- a Repeatable Read transaction reads at the number that is last at its first statement on rows, also where that is refused
abbrev pub snapshot_for : Isolation → Option ℕ → List Effect
snapshot_for ReadCommitted snapshot = []
snapshot_for RepeatableRead None = Fixes_snapshot ∷ []
snapshot_for RepeatableRead (Some number) = []

abbrev pub snapshot_effects : Option Transaction → List Effect
snapshot_effects None = []
snapshot_effects (Some t) = snapshot_for t.isolation t.snapshot

-- what comes before the statement's own doing. Outside a block a statement that changes or locks rows has a transaction of its own.
abbrev pub before_change : Block_state → Option Transaction → List Effect
before_change Idle t = Takes_statement ∷ Begins ReadCommitted ∷ []
before_change Open t = Takes_statement ∷ snapshot_effects t
before_change Failed t = Takes_statement ∷ []

abbrev pub before_reading : Block_state → Option Transaction → List Effect
before_reading Idle t = Takes_statement ∷ []
before_reading Open t = Takes_statement ∷ snapshot_effects t
before_reading Failed t = Takes_statement ∷ []

abbrev pub targets_or_fault : List Effect → (List Target → List Effect) → Result (List Target) Value_kind → Plan
targets_or_fault before effects (Err kind) = refused before (out_of_range kind)
targets_or_fault before effects (Ok found) = Does_all (before ++ effects found)

abbrev pub each_as : {A : Type 0} → (A → Target) → Result (List A) Value_kind → Result (List Target) Value_kind
each_as target (Err kind) = Err kind
each_as target (Ok found) = Ok (map target found)

-- the targets of a statement that changes rows, by what its transaction sees
abbrev pub change_targets : Schema → Surroundings → Database → Option Transition → Change_of_rows → Result (List Target) Value_kind
change_targets schema around view set (Inserts s) = each_as New_row (new_rows around (columns schema s.table) view set s)
change_targets schema around view set (Updates s) = each_as Old_row (targets around s.table s.condition view)
change_targets schema around view set (Deletes s) = each_as Old_row (targets around s.table s.condition view)

abbrev pub change_plan : Schema → Block_state → Option Transaction → Database → Change_of_rows → Plan
change_plan schema Failed t view change = refused (Takes_statement ∷ []) failed_block
change_plan schema block t view change =
    targets_or_fault (before_change block t) (λ found. Opens Level (Changing In_session found 0) ∷ []) (change_targets schema nothing_around view None change)

-- ---- SELECT

abbrev pub shown_at : Option (List ℕ) → Option Stored → Row
shown_at cols None = []
shown_at cols (Some stored) = shown cols stored.values

abbrev pub selected : Select → Database → List ℕ → List Row
selected s view found = map (λ row. shown_at s.columns (at row view)) found

abbrev pub select_or_fault : List Effect → (List ℕ → List Effect) → Result (List ℕ) Value_kind → Plan
select_or_fault before effects (Err kind) = refused before (out_of_range kind)
select_or_fault before effects (Ok found) = Does_all (before ++ effects found)

-- without a lock it is done in this step
abbrev pub reading_plan : Block_state → Option Transaction → Database → Select → Option LockMode → Plan
reading_plan block t view s None =
    select_or_fault (before_reading block t) (λ found. Replies (shown_rows (selected s view found)) ∷ []) (targets nothing_around s.table s.condition view)
reading_plan block t view s (Some mode) =
    select_or_fault (before_change block t) (λ found. Starts (Locking found []) ∷ []) (targets nothing_around s.table s.condition view)

abbrev pub select_plan : Block_state → Option Transaction → Database → Select → Plan
select_plan Failed t view s = refused (Takes_statement ∷ []) failed_block
select_plan block t view s = reading_plan block t view s s.lock

-- ---- statements whose names are unknown: the block is judged first

abbrev pub refused_plan : Block_state → Option Transaction → Form → SqlFault → Plan
refused_plan Failed t form fault = refused (Takes_statement ∷ []) failed_block
refused_plan block t On_rows fault = refused (before_reading block t) fault
refused_plan Idle t On_constraints fault = Fails (Takes_statement ∷ []) (warned (constraints_warning ∷ []) fault)
refused_plan Open t On_constraints fault = refused (Takes_statement ∷ []) fault

-- ---- start and close

abbrev pub statement_plan : Schema → Session → Database → Statement → Plan
statement_plan schema me view (Changes_rows change) = change_plan schema me.block me.transaction view change
statement_plan schema me view (Selects s) = select_plan me.block me.transaction view s
statement_plan schema me view (Sets_constraints s) = set_plan me.block s
statement_plan schema me view (Begins_block isolation) = begin_plan me.block (codes "BEGIN") isolation
statement_plan schema me view (Starts_transaction isolation) = begin_plan me.block (codes "START TRANSACTION") isolation
statement_plan schema me view Commits = commit_plan me.block
statement_plan schema me view Rolls_back = rollback_plan me.block
statement_plan schema me view (Makes_savepoint name) = savepoint_plan me.block name (saved_of me.transaction)
statement_plan schema me view (Releases_savepoint name) = release_plan me.block name (saved_of me.transaction)
statement_plan schema me view (Rolls_back_to name) = return_plan me.block name (saved_of me.transaction)

-- With no statement left an open transaction is rolled back, and the session ends.
abbrev pub start_plan : Schema → Session → Database → Option Prepared → Plan
start_plan schema me view None = Does_all (Aborts ∷ Ends ∷ [])
start_plan schema me view (Some (Ready statement)) = statement_plan schema me view statement
start_plan schema me view (Some (Refused form fault)) = refused_plan me.block me.transaction form fault
