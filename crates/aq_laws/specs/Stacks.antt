-- What is in progress in a session fits what its transaction has opened and saved.
use Rattle.std.specs.Prelude.{◌≡◌, ◌<◌, ℕ, zero, suc, Bool, true, false, List, [], ◌∷◌, length, drop, Option, Some, None, is_some, slice_get}
use Rattle.aq_base.specs.Events.{Event, is_of_statement}
use Rattle.aq_base.specs.Works.{Opened, Mark, Saved}
use Rattle.aq_base.specs.Works.Kind.{Level, Constraints, Drain}
use Rattle.aq_base.specs.Works.Mark.{Named, Block}
use Rattle.aq_base.specs.Rounds.{round_of}
use Rattle.aq_base.specs.Statements.Statement.{Selects}
use Rattle.aq_base.specs.declared.catalog.Does.TheVariants.{Parent}
use Rattle.aq_base.specs.declared.catalog.Trigger.{Trigger}
use Rattle.aq_base.specs.declared.trigger.Each.TheVariants as each
use Rattle.aq_catalog.specs.Catalogs.{Catalog}
use Rattle.aq_outcomes.specs.Schemas.{Schema}
use Rattle.aq_run.specs.Programs.{Program, Prepared, statement_at}
use Rattle.aq_run.specs.Programs.Prepared.{Ready}
use Rattle.aq_run.specs.States.{Place, Task, Block_state, Transaction, Session, session_at}
use Rattle.aq_run.specs.States.Place.{In_session, In_body}
use Rattle.aq_run.specs.States.Task.{Changing, Locking, Rounds, Settling, Committing, Acting, Rechecking, Running}
use Rattle.aq_run.specs.States.Block_state.{Idle, Open, Failed}
use Rattle.aq_run.specs.Steps.{current, at_work}
use Rattle.aq_run.specs.Runs.{Schedule, run}

-- what a catalog must have for it: an action of a foreign key is queued for a row, never for a statement
abbrev pub ActionsAreForRows : Catalog → Type 0
ActionsAreForRows cat = (n f : ℕ) (trigger : Trigger) → slice_get cat.triggers n ≡ Some trigger → trigger.does ≡ Parent f → trigger.level ≡ each.Row

-- ---- tasks, the innermost first

-- a statement of the session stands over nothing, one of a body over the body
abbrev pub Stands_over : Place → List Task → Type 0
Stands_over In_session [] = Unit {0}
Stands_over In_session (task ∷ below) = ⊥
Stands_over In_body (Running event frame ∷ below) = Unit {0}
Stands_over In_body _ = ⊥

-- rounds are in progress, of a level, of a SET CONSTRAINTS or of the drain
abbrev pub Fires_rounds : List Task → Type 0
Fires_rounds (Rounds place done ∷ below) = Unit {0}
Fires_rounds (Settling place ∷ below) = Unit {0}
Fires_rounds (Committing changed ∷ below) = Unit {0}
Fires_rounds _ = ⊥

abbrev pub First_is_of_row : List Event → Type 0
First_is_of_row [] = ⊥
First_is_of_row (event ∷ round) = is_of_statement event ≡ false

abbrev pub First_is : Event → List Event → Type 0
First_is event [] = ⊥
First_is event (first ∷ round) = first ≡ event

-- ---- saved copies, the latest first

-- of a block of a body: how many tasks were in progress
abbrev pub height_in : Mark → Option ℕ
height_in (Named name) = None
height_in (Block number height) = Some height

-- so many copies are those of the open blocks of a body, which had opened nothing since
abbrev pub Blocks_fit : ℕ → ℕ → List Opened → List Saved → Type 0
Blocks_fit zero height opened saved = Unit {0}
Blocks_fit (suc n) height opened [] = ⊥
Blocks_fit (suc n) height opened (copy ∷ others) =
    (height_in copy.mark ≡ Some height) × ((copy.work.opened ≡ opened) × Blocks_fit n height opened others)

-- the others are those of savepoints, made while nothing was in progress
abbrev pub Savepoints_fit : List Saved → Type 0
Savepoints_fit [] = Unit {0}
Savepoints_fit (copy ∷ others) = (height_in copy.mark ≡ None) × ((copy.work.opened ≡ []) × Savepoints_fit others)

-- ---- all of it

abbrev pub is_locking : Option Prepared → Bool
is_locking (Some (Ready (Selects s))) = is_some s.lock
is_locking _ = false

-- Each statement that changes rows has its level, from its targets to its last round; each SET CONSTRAINTS and the drain their rounds. The
-- event of a check, an action or a body in progress is the first of the round on top below it.
abbrev pub Tasks_fit : Schema → Option Prepared → Block_state → List Task → List Opened → List Saved → Type 0
Tasks_fit schema statement block [] opened saved = (opened ≡ []) × Savepoints_fit saved
Tasks_fit schema statement block (Changing place left done ∷ below) [] saved = ⊥
Tasks_fit schema statement block (Changing place left done ∷ below) (top ∷ rest) saved =
    (top.kind ≡ Level) × (Stands_over place below × ((is_some (at_work schema statement place below).change ≡ true) × Tasks_fit schema statement block below rest saved))
Tasks_fit schema statement block (Locking left shown ∷ below) opened saved =
    (below ≡ []) × ((is_locking statement ≡ true) × ((opened ≡ []) × Savepoints_fit saved))
Tasks_fit schema statement block (Rounds place done ∷ below) [] saved = ⊥
Tasks_fit schema statement block (Rounds place done ∷ below) (top ∷ rest) saved =
    (top.kind ≡ Level) × (Stands_over place below × Tasks_fit schema statement block below rest saved)
Tasks_fit schema statement block (Settling place ∷ below) [] saved = ⊥
Tasks_fit schema statement block (Settling place ∷ below) (top ∷ rest) saved =
    (top.kind ≡ Constraints) × (Stands_over place below × Tasks_fit schema statement block below rest saved)
Tasks_fit schema statement block (Committing changed ∷ below) [] saved = ⊥
Tasks_fit schema statement block (Committing changed ∷ below) (top ∷ rest) saved =
    (top.kind ≡ Drain) × ((below ≡ []) × ((rest ≡ []) × ((saved ≡ []) × (block ≡ Idle))))
Tasks_fit schema statement block (Acting left done ∷ below) opened saved =
    First_is_of_row (round_of opened) × (Fires_rounds below × Tasks_fit schema statement block below opened saved)
Tasks_fit schema statement block (Rechecking done ∷ below) opened saved =
    First_is_of_row (round_of opened) × (Fires_rounds below × Tasks_fit schema statement block below opened saved)
Tasks_fit schema statement block (Running event frame ∷ below) opened saved =
    First_is event (round_of opened)
    × (Fires_rounds below × (Blocks_fit (length frame.blocks) (suc (length below)) opened saved × Tasks_fit schema statement block below opened (drop (length frame.blocks) saved)))

-- without a transaction nothing is in progress
abbrev pub Transaction_fits : Schema → Option Prepared → Block_state → Option Transaction → List Task → Type 0
Transaction_fits schema statement block None tasks = tasks ≡ []
Transaction_fits schema statement block (Some t) tasks = Tasks_fit schema statement block tasks t.work.opened t.saved

-- an open block has its transaction; in a failed one nothing is in progress
abbrev pub Block_fits : Block_state → Option Transaction → List Task → Type 0
Block_fits Idle t tasks = Unit {0}
Block_fits Open t tasks = is_some t ≡ true
Block_fits Failed t tasks = tasks ≡ []

-- a session that has ended has neither tasks nor a transaction, and no statement is left
abbrev pub End_fits : Bool → Option Prepared → Option Transaction → List Task → Type 0
End_fits false statement t tasks = Unit {0}
End_fits true statement t tasks = (tasks ≡ []) × ((t ≡ None) × (statement ≡ None))

pub record SessionFits (program : Program) (s : ℕ) (me : Session) : Type 0 where
  pub tasks : Transaction_fits program.schema (current program s me.next) me.block me.transaction me.tasks
  pub block : me.ended ≡ false → Block_fits me.block me.transaction me.tasks
  pub end : End_fits me.ended (statement_at program s me.next) me.transaction me.tasks

-- at each moment of each run, with what is in progress in each session
abbrev pub StacksFit : Type 0
StacksFit =
    (program : Program) → ActionsAreForRows program.schema.catalog → (schedule : Schedule) (s : ℕ) → s < length program.names → SessionFits program s (session_at (run program schedule) s)
