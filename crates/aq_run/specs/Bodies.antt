-- One step of a body (PostgreSQL manual, chapter "PL/pgSQL"; PostgreSQL source, pl_exec.c).
use Rattle.std.specs.Prelude.{ℕ, ◌+◌, ◌-◌, Bool, true, false, not, List, [], ◌∷◌, ◌++◌, length, map, filter, Option, Some, None, Result, if◌then◌else◌, nat_le, slice_get, zero, suc}
use Rattle.std.specs.List.{list_any}
use Rattle.aq_base.specs.Names.{Text}
use Rattle.aq_base.specs.Limits.{saved_limit, level_limit}
use Rattle.aq_base.specs.Databases.{Database}
use Rattle.aq_base.specs.Events.{Event, numbers_of}
use Rattle.aq_base.specs.Transitions.{set_at}
use Rattle.aq_base.specs.Works.{Work, Saved, level_of}
use Rattle.aq_base.specs.Works.Kind.{Level, Constraints as Settings}
use Rattle.aq_base.specs.Works.Mark.{Named, Block}
use Rattle.aq_base.specs.Rounds.{round_of}
use Rattle.aq_base.specs.Statements.{Change_of_rows}
use Rattle.aq_base.specs.Terms.{Term}
use Rattle.aq_base.specs.Frames.{Frame, Next, Ahead, next_of, entered}
use Rattle.aq_base.specs.Frames.Next.{To_change, To_set, To_enter, To_raise, To_return, To_end, To_fault}
use Rattle.aq_base.specs.declared.script.Kind.{Kind as Value_kind}
use Rattle.aq_base.specs.declared.fault.SqlFault.{SqlFault}
use Rattle.aq_base.specs.declared.modes.Constraints.{Constraints}
use Rattle.aq_base.specs.declared.modes.Constraints.TheVariants.{All, Named as Those_named}
use Rattle.aq_base.specs.declared.trace.Ending.TheVariants as endings
use Rattle.aq_expr.specs.Evaluation.{Surroundings}
use Rattle.aq_catalog.specs.Catalogs.{constraints_named}
use Rattle.aq_outcomes.specs.Schemas.{Schema, code_at}
use Rattle.aq_outcomes.specs.Queued.{condition_holds}
use Rattle.aq_outcomes.specs.Faults.{out_of_range, raised, no_return, no_constraint, not_deferrable, too_many_levels}
use Rattle.aq_run.specs.States.{Transaction}
use Rattle.aq_run.specs.States.Place.{In_body}
use Rattle.aq_run.specs.States.Task.{Changing, Settling, Running}
use Rattle.aq_run.specs.Effects.{Effect}
use Rattle.aq_run.specs.Effects.Effect.{Turns, Opens, Finishes, Sets_mode, Saves, Releases}
use Rattle.aq_run.specs.Starts.{is_deferring, unless_full, change_targets, targets_or_fault}
use Rattle.aq_run.specs.Plans.{Plan, refused}
use Rattle.aq_run.specs.Plans.Plan.{Does_all}

-- what the expressions of a body are evaluated on
abbrev pub around_event : Event → Surroundings
around_event event = record { row = None; old = event.old; new = event.new; op = Some event.op }

-- ---- blocks

abbrev pub is_block : Saved → Bool
is_block saved = elim (saved.mark) [ Named name ↦ false | Block number height ↦ true ]

-- how many blocks of the transaction are open
abbrev pub open_blocks : List Saved → ℕ
open_blocks saved = length (filter is_block saved)

-- so many blocks are left
abbrev pub leaving : ℕ → List Saved → List Effect
leaving zero saved = []
leaving (suc left) saved = Releases (length saved - suc left) ∷ []

-- what comes before a body's next doing: the blocks that it has left, and its place behind that
abbrev pub going_on : Event → Frame → ℕ → List Saved → List Effect
going_on event frame left saved = leaving left saved ++ Turns (Running event frame) ∷ []

-- ---- SET CONSTRAINTS: its names are looked up when it runs

abbrev pub is_fixed : Schema → ℕ → Bool
is_fixed schema con = elim (slice_get schema.catalog.constraints con) [ None ↦ false | Some found ↦ not found.decl.deferrable ]

abbrev pub name_fault : Schema → Bool → Text → List ℕ → Option SqlFault
name_fault schema deferred name [] = Some (no_constraint name)
name_fault schema false name (con ∷ others) = None
name_fault schema true name (con ∷ others) = if list_any (is_fixed schema) (con ∷ others) then Some (not_deferrable name) else None

abbrev pub first_of : Option SqlFault → Option SqlFault → Option SqlFault
first_of None other = other
first_of (Some fault) other = Some fault

abbrev pub names_fault : Schema → Bool → List Text → Option SqlFault
names_fault schema deferred [] = None
names_fault schema deferred (name ∷ others) =
    first_of (name_fault schema deferred name (constraints_named schema.catalog name)) (names_fault schema deferred others)

abbrev pub set_fault : Schema → Bool → Constraints → Option SqlFault
set_fault schema deferred All = None
set_fault schema deferred (Those_named names) = names_fault schema deferred names

abbrev pub set_effects : Schema → Bool → Constraints → List Effect
set_effects schema deferred All = Sets_mode None deferred ∷ []
set_effects schema deferred (Those_named names) = map (λ name. Sets_mode (Some (constraints_named schema.catalog name)) deferred) names

abbrev pub after_modes : Bool → List Effect
after_modes true = []
after_modes false = Opens Settings (Settling In_body) ∷ []

abbrev pub set_plan : Schema → List Effect → Bool → Constraints → Option SqlFault → Plan
set_plan schema before deferred names (Some fault) = refused before fault
set_plan schema before deferred names None = Does_all (before ++ (set_effects schema deferred names ++ after_modes deferred))

-- ---- a statement that changes rows opens a level and fixes its targets

abbrev pub unless_deep : Bool → List Effect → Plan → Plan
unless_deep true before plan = refused before too_many_levels
unless_deep false before plan = plan

abbrev pub change_plan : Schema → Database → Work → Event → List Effect → Change_of_rows → Plan
change_plan schema view work event before change =
    unless_deep (nat_le level_limit (level_of work)) before
    (targets_or_fault before (λ found. Opens Level (Changing In_body found 0) ∷ []) (change_targets schema (around_event event) view (set_at event.set work.sets) change))

-- ---- a block with handlers begins

abbrev pub enter_plan : Event → Frame → List Effect → ℕ → ℕ → List Saved → Plan
enter_plan event frame before height left saved =
    unless_full (nat_le saved_limit (length saved - left)) before
    (Does_all (before ++ Saves (Block ((open_blocks saved - left) + 1) height) ∷ Turns (Running event (entered frame)) ∷ []))

-- ---- the step

-- RETURN leaves all open blocks of the body
abbrev pub return_plan : ℕ → ℕ → List Saved → Plan
return_plan number blocks saved = Does_all (leaving blocks saved ++ Finishes number endings.Ran ∷ [])

abbrev pub first_number : List ℕ → ℕ
first_number [] = 0
first_number (number ∷ others) = number

-- the body has come to its next doing, behind so many blocks that it has left
abbrev pub next_plan : Schema → Database → Transaction → Event → ℕ → Frame → Frame → List Effect → ℕ → Next → Plan
next_plan schema view t event height from frame before left (To_change change) = change_plan schema view t.work event before change
next_plan schema view t event height from frame before left (To_set set) =
    set_plan schema before (is_deferring set.mode) set.constraints (set_fault schema (is_deferring set.mode) set.constraints)
next_plan schema view t event height from frame before left To_enter = enter_plan event frame before height left t.saved
next_plan schema view t event height from frame before left (To_raise text) = refused before (raised text)
next_plan schema view t event height from frame before left To_return =
    return_plan (first_number (numbers_of (round_of t.work.opened))) (length from.blocks) t.saved
next_plan schema view t event height from frame before left To_end = refused before no_return
next_plan schema view t event height from frame before left (To_fault kind) = refused before (out_of_range kind)

-- how many blocks the body has left on its way
abbrev pub blocks_left : Frame → Frame → ℕ
blocks_left from frame = length from.blocks - length frame.blocks

abbrev pub on_ahead : Schema → Database → Transaction → Event → ℕ → Frame → Ahead → Plan
on_ahead schema view t event height from ahead =
    next_plan schema view t event height from ahead.frame (going_on event ahead.frame (blocks_left from ahead.frame) t.saved) (blocks_left from ahead.frame) ahead.next

abbrev pub truth_in : Event → Term → Result Bool Value_kind
truth_in event condition = condition_holds (around_event event) (Some condition)

abbrev pub body_plan : Schema → Database → Transaction → Event → ℕ → Frame → Plan
body_plan schema view t event height frame =
    on_ahead schema view t event height frame (next_of (truth_in event) (code_at schema event.trigger) frame)
