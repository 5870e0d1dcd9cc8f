-- A body in progress: the place of its next instruction, and the blocks that are open (PostgreSQL manual, chapter "PL/pgSQL", section
-- "Trapping Errors").
use Rattle.std.specs.Prelude.{ℕ, ◌+◌, ◌-◌, Bool, true, zero, suc, List, [], ◌∷◌, drop, Option, Some, None, Result, Ok, Err, if◌then◌else◌, find, option_map, slice_get, codes}
use Rattle.std.specs.List.{list_any}
use Rattle.aq_base.specs.Names.{Text, same_text}
use Rattle.aq_base.specs.Terms.{Term}
use Rattle.aq_base.specs.Statements.{Change_of_rows}
use Rattle.aq_base.specs.Codes.{Code, Instruction, Handles}
use Rattle.aq_base.specs.Codes.Instruction.{Unless, Passes_over, Enters, Leaves, Raises, Returns, Changes, Sets}
use Rattle.aq_base.specs.declared.script.Kind.{Kind}
use Rattle.aq_base.specs.declared.body.Condition.{Condition}
use Rattle.aq_base.specs.declared.body.Condition.TheVariants as conditions
use Rattle.aq_base.specs.declared.modes.SetConstraints.{SetConstraints}

pub record Frame : Type 0 where
  pub place : ℕ
  -- the places of the instructions with which the open blocks began, the innermost first
  pub blocks : List ℕ

abbrev pub first_frame : Frame
first_frame = record { place = 0; blocks = [] }

-- what a body comes to next
pub data Next : Type 0 where
  To_change : (change : Change_of_rows) → Next
  To_set : (set : SetConstraints) → Next
  -- a block with handlers, which isn't open yet
  To_enter : Next
  To_raise : (text : Text) → Next
  To_return : Next
  -- the end, without RETURN
  To_end : Next
  -- a condition has no value: a number is out of the range of the kind
  To_fault : (kind : Kind) → Next

-- what it comes to, and the body as it is behind that
pub record Ahead : Type 0 where
  pub next : Next
  pub frame : Frame

abbrev pub ahead : Next → ℕ → List ℕ → Ahead
ahead next place blocks = record { next = next; frame = record { place = place; blocks = blocks } }

-- so many instructions are passed over where the condition isn't true
abbrev pub passed_over : Bool → ℕ → ℕ
passed_over truth passed = if truth then 0 else passed

-- from a place on: conditions, jumps and ends of blocks are gone through
abbrev pub ahead_from : (Term → Result Bool Kind) → Code → (passed : ℕ) → (place : ℕ) → List ℕ → Ahead
ahead_from truth [] passed place blocks = ahead To_end place blocks
ahead_from truth (instruction ∷ code) (suc passed) place blocks = ahead_from truth code passed (place + 1) blocks
ahead_from truth (Unless condition passed ∷ code) zero place blocks =
    elim (truth condition) [
      | Ok holds ↦ ahead_from truth code (passed_over holds passed) (place + 1) blocks
      | Err kind ↦ ahead (To_fault kind) place blocks
    ]
ahead_from truth (Passes_over passed ∷ code) zero place blocks = ahead_from truth code passed (place + 1) blocks
ahead_from truth (Enters handlers ∷ code) zero place blocks = ahead To_enter (place + 1) blocks
ahead_from truth (Leaves ∷ code) zero place blocks = ahead_from truth code 0 (place + 1) (drop 1 blocks)
ahead_from truth (Raises text ∷ code) zero place blocks = ahead (To_raise text) (place + 1) blocks
ahead_from truth (Returns ∷ code) zero place blocks = ahead To_return (place + 1) blocks
ahead_from truth (Changes change ∷ code) zero place blocks = ahead (To_change change) (place + 1) blocks
ahead_from truth (Sets set ∷ code) zero place blocks = ahead (To_set set) (place + 1) blocks

abbrev pub next_of : (Term → Result Bool Kind) → Code → Frame → Ahead
next_of truth code frame = ahead_from truth (drop frame.place code) 0 frame.place frame.blocks

-- the block with handlers whose first instruction the body has just passed is open
abbrev pub entered : Frame → Frame
entered frame = record frame { blocks = (frame.place - 1) ∷ frame.blocks }

-- the change of rows that stands just before a place
abbrev pub change_in : Option Instruction → Option Change_of_rows
change_in (Some (Changes change)) = Some change
change_in _ = None

abbrev pub change_before : Code → ℕ → Option Change_of_rows
change_before code place = change_in (slice_get code (place - 1))

-- ---- which block catches an error

abbrev pub catches_code : Text → Condition → Bool
catches_code code conditions.Others = true
catches_code code (conditions.SqlState state) = same_text code state.0
catches_code code conditions.UniqueViolation = same_text code (codes "23505")
catches_code code conditions.ForeignKeyViolation = same_text code (codes "23503")
catches_code code conditions.NotNullViolation = same_text code (codes "23502")
catches_code code conditions.RaiseException = same_text code (codes "P0001")
catches_code code conditions.SerializationFailure = same_text code (codes "40001")
catches_code code conditions.DeadlockDetected = same_text code (codes "40P01")

abbrev pub handles_code : Text → Handles → Bool
handles_code code handler = list_any (catches_code code) handler.0

abbrev pub handlers_in : Option Instruction → List Handles
handlers_in (Some (Enters handlers)) = handlers
handlers_in _ = []

-- how far behind the block's first instruction the first handler begins that catches the error
abbrev pub handler_for : Text → Option Instruction → Option ℕ
handler_for code instruction = option_map (λ handler. handler.1) (find (handles_code code) (handlers_in instruction))

-- the body at the first handler that catches the error, of the innermost open block that has one; that block and those in it are left
abbrev pub caught_in : Code → Text → List ℕ → Option Frame
caught_in code error [] = None
caught_in code error (block ∷ outer) =
    elim (handler_for error (slice_get code block)) [
      | Some distance ↦ Some (record { place = block + distance; blocks = outer })
      | None ↦ caught_in code error outer
    ]
