-- The transactions of a trace that were committed. The lines of several sessions stand in one trace; each belongs to the running transaction of
-- its own session, if there is one.
use Rattle.std.specs.Prelude.{Bool, List, [], ◌∷◌, ◌++◌, Option, Some, None, option_map, if◌then◌else◌}
use Rattle.aq_base.specs.Names.{Text, same_text}
use Rattle.aq_base.specs.declared.trace.TraceLine.{TraceLine}
use Rattle.aq_base.specs.declared.trace.TraceLine.TheVariants.{Begin, Commit, Abort}
use Rattle.aq_texts.specs.Traces.{trace_session}
use Rattle.aq_lines.specs.Surviving.{Kept, no_lines, told}

-- the running transaction of a session behind one more line of it
abbrev pub running_behind : TraceLine → Option Kept → Option Kept
running_behind (Begin session isolation) running = Some (told (Begin session isolation) no_lines)
running_behind (Commit session database) running = None
running_behind (Abort session) running = None
running_behind line running = option_map (told line) running

-- the running transactions, by the names of their sessions
abbrev pub Running_transactions : Type 0
Running_transactions = List (Text × Option Kept)

abbrev pub running_of : Text → Running_transactions → Option Kept
running_of name [] = None
running_of name (entry ∷ others) = if same_text entry.0 name then entry.1 else running_of name others

abbrev pub with_running : Text → Option Kept → Running_transactions → Running_transactions
with_running name running [] = (name, running) ∷ []
with_running name running (entry ∷ others) = if same_text entry.0 name then (name, running) ∷ others else entry ∷ with_running name running others

-- one more line of the trace
abbrev pub read : TraceLine → Running_transactions → Running_transactions
read line running = with_running (trace_session line) (running_behind line (running_of (trace_session line) running)) running

abbrev pub read_all : List TraceLine → Running_transactions → Running_transactions
read_all [] running = running
read_all (line ∷ lines) running = read_all lines (read line running)

-- a commit ends its session's transaction, which has told these lines
abbrev pub committed_lines : TraceLine → Option Kept → List (List TraceLine)
committed_lines line None = []
committed_lines line (Some kept) = (told line kept).lines ∷ []

abbrev pub committed_by : TraceLine → Option Kept → List (List TraceLine)
committed_by (Commit session database) running = committed_lines (Commit session database) running
committed_by line running = []

abbrev pub committed_behind : Running_transactions → List TraceLine → List (List TraceLine)
committed_behind running [] = []
committed_behind running (line ∷ lines) = committed_by line (running_of (trace_session line) running) ++ committed_behind (read line running) lines

-- the surviving lines of each transaction that was committed, in the order of the commits
abbrev pub committed_transactions : List TraceLine → List (List TraceLine)
committed_transactions trace = committed_behind [] trace
