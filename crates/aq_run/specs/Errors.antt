-- What an error does: a block of a body in progress catches it, or it is the statement's reply, and the latest savepoint's copy is put back
-- or the transaction is dropped (PostgreSQL source, xact.c, AbortCurrentTransaction; pl_exec.c, exec_stmt_block).
use Rattle.std.specs.Prelude.{ℕ, ◌+◌, ◌-◌, List, [], ◌∷◌, ◌++◌, length, Option, Some, None, Bool, true, false}
use Rattle.aq_base.specs.Names.{Text}
use Rattle.aq_base.specs.Works.{Saved}
use Rattle.aq_base.specs.Works.Mark.{Named, Block}
use Rattle.aq_base.specs.Events.{Event}
use Rattle.aq_base.specs.Frames.{Frame, caught_in}
use Rattle.aq_base.specs.declared.fault.Code.{Code}
use Rattle.aq_outcomes.specs.Schemas.{Schema, code_at}
use Rattle.aq_run.specs.States.{Task, Block_state, Session}
use Rattle.aq_run.specs.States.Task.{Running}
use Rattle.aq_run.specs.States.Block_state.{Idle, Open, Failed}
use Rattle.aq_run.specs.Faults.{Fault, Finding}
use Rattle.aq_run.specs.Effects.{Effect}
use Rattle.aq_run.specs.Effects.Effect.{Returns, Aborts, Tells, Fails_with, Replies, Becomes}
use Rattle.aq_run.specs.Starts.{saved_of}
use Rattle.aq_run.specs.Replies.{error_lines}

-- ---- a block that catches it

pub record Catcher : Type 0 where
  -- how many saved copies go, the block's own included
  pub dropped : ℕ
  -- the tasks, cut to the body, which goes on at the handler
  pub tasks : List Task

abbrev pub frame_of : Event → Frame → List Task → ℕ → Frame → Catcher
frame_of event before below above caught =
    record { dropped = above + (length before.blocks - length caught.blocks); tasks = Running event caught ∷ below }

-- the bodies in progress, the innermost first, with the open blocks of those above
abbrev pub catcher_from : Schema → Text → ℕ → List Task → Option Catcher
catcher_from schema error above [] = None
catcher_from schema error above (Running event frame ∷ below) =
    elim (caught_in (code_at schema event.trigger) error frame.blocks) [
      | Some caught ↦ Some (frame_of event frame below above caught)
      | None ↦ catcher_from schema error (above + length frame.blocks) below
    ]
catcher_from schema error above (task ∷ below) = catcher_from schema error above below

abbrev pub where_caught : Bool → Option Catcher → Option Catcher
where_caught true catcher = catcher
where_caught false catcher = None

abbrev pub catcher_of : Schema → Fault → List Task → Option Catcher
catcher_of schema fault tasks = where_caught fault.can_be_caught (catcher_from schema fault.told.code.0 0 tasks)

-- ---- no block catches it

-- how many saved copies stand before the latest named one
abbrev pub latest_named : List Saved → Option ℕ
latest_named [] = None
latest_named (saved ∷ others) = elim (saved.mark) [ Named name ↦ Some (length others) | Block number height ↦ latest_named others ]

-- an open block has failed
abbrev pub after_error : Block_state → Block_state
after_error Idle = Idle
after_error Open = Failed
after_error Failed = Failed

abbrev pub put_back : Code → Option ℕ → Effect
put_back code None = Aborts
put_back code (Some standing) = Returns standing code []

-- in a failed block nothing is left to put back
abbrev pub undoing : Block_state → Code → List Saved → List Effect
undoing Failed code saved = []
undoing _ code saved = put_back code (latest_named saved) ∷ []

abbrev pub finding_effects : Option Finding → List Effect
finding_effects None = []
finding_effects (Some finding) = Tells finding ∷ []

abbrev pub on_catcher : Session → Fault → Option Catcher → List Effect
on_catcher me fault (Some catcher) = Returns (length (saved_of me.transaction) - catcher.dropped) fault.told.code catcher.tasks ∷ []
on_catcher me fault None =
    Fails_with fault.told.code ∷ (undoing me.block fault.told.code (saved_of me.transaction) ++ Becomes (after_error me.block) ∷ Replies (fault.warnings ++ error_lines fault.told) ∷ [])

-- the session stands as the effects before the fault have left it
unfoldable pub error_effects : Schema → Session → Fault → List Effect
error_effects schema me fault = finding_effects fault.finding ++ on_catcher me fault (catcher_of schema fault me.tasks)
