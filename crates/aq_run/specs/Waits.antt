-- Which sessions wait for which, who may step, and the cycle that a wait would close (PostgreSQL source, deadlock.c).
use Rattle.std.specs.Prelude.{ℕ, Bool, true, false, not, ◌&&◌, List, [], ◌∷◌, length, map, Option, Some, None, nat_lt}
use Rattle.std.specs.List.{enumerate_from}
use Rattle.aq_base.specs.Blockers.{Ask}
use Rattle.aq_base.specs.Cycles.{cycle_through}
use Rattle.aq_outcomes.specs.Parties.{ask_blockers}
use Rattle.aq_run.specs.Programs.{Program}
use Rattle.aq_run.specs.States.{State, session_at, around}

abbrev pub blockers : Program → State → ℕ → Ask → List ℕ
blockers program st s ask = ask_blockers program.schema.catalog (around st) s ask

abbrev pub blockers_of : Program → State → ℕ → Option Ask → List ℕ
blockers_of program st s None = []
blockers_of program st s (Some ask) = blockers program st s ask

-- those for whom the session waits
abbrev pub waits_for : Program → State → ℕ → List ℕ
waits_for program st s = blockers_of program st s (session_at st s).waits

abbrev pub is_empty : List ℕ → Bool
is_empty [] = true
is_empty (n ∷ others) = false

-- a session may step where it hasn't ended and nobody stands in the way of what it waits for
abbrev pub is_enabled : Program → State → ℕ → Bool
is_enabled program st s =
    nat_lt s (length st.sessions) && (not (session_at st s).ended && is_empty (waits_for program st s))

abbrev pub numbers : State → List ℕ
numbers st = map (λ entry. entry.0) (enumerate_from 0 st.sessions)

-- the cycle that the session would close by waiting for these
abbrev pub closes : Program → State → ℕ → List ℕ → Option (List ℕ)
closes program st s from = cycle_through (waits_for program st) (numbers st) s from
