-- The replies of a session are those of its statements in their order.
use Rattle.std.specs.Prelude.{◌≡◌, ℕ, ◌+◌, zero, suc, ◌<◌, List, [], ◌∷◌, length, slice_get, unwrap_or}
use Rattle.std.specs.List.{flat_map}
use Rattle.aq_base.specs.Names.{Text, same_text}
use Rattle.aq_base.specs.declared.trace.TraceLine.{TraceLine}
use Rattle.aq_base.specs.declared.trace.TraceLine.TheVariants.{Reply}
use Rattle.aq_run.specs.Programs.{Program, session_name}
use Rattle.aq_run.specs.Runs.{Schedule, IsSchedule, IsComplete, run}
use Rattle.std.specs.Prelude.{if◌then◌else◌}

abbrev pub reply_of : Text → TraceLine → List ℕ
reply_of name (Reply session statement) = if same_text session name then statement ∷ [] else []
reply_of name line = []

-- the statements of a session that have their reply, in the order of the trace
abbrev pub replied : Text → List TraceLine → List ℕ
replied name trace = flat_map (reply_of name) trace

-- 1, 2 and so on, so many numbers
abbrev pub numbered_from : ℕ → ℕ → List ℕ
numbered_from first zero = []
numbered_from first (suc n) = first ∷ numbered_from (first + 1) n

abbrev pub statement_count : Program → ℕ → ℕ
statement_count program s = length (unwrap_or (slice_get program.statements s) [])

-- Where all have ended, each session has its replies, statement by statement; the names of the sessions differ.
abbrev pub RepliesAreInOrder : Type 0
RepliesAreInOrder =
    (program : Program) → ((i j : ℕ) → i < length program.names → j < length program.names → session_name program i ≡ session_name program j → i ≡ j) →
    length program.statements ≡ length program.names → (schedule : Schedule) → IsSchedule program schedule → IsComplete program schedule →
    (s : ℕ) → s < length program.names →
    replied (session_name program s) (run program schedule).world.trace ≡ numbered_from 1 (statement_count program s)
