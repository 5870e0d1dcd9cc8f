-- The graph of waits as the code has it: for each session the set of those for whom it waits.
use Rattle.std.specs.Prelude.{◌≡◌, ℕ, ◌<◌, List, map, take, slice_index_or}
use Rattle.aq_base.specs.Cycles.{reaching}
use Rattle.aq_xids.specs.Sets.{all_sessions, members}
use Rattle.aq_xids.specs.declared.SessNo.{SessNo}
use Rattle.aq_xids.specs.declared.SessSet.{SessSet}
use Rattle.aq_waits.specs.declared.cycle.Cycle.{Cycle}

abbrev pub set_at : List SessSet → ℕ → ℕ
set_at edges session = (slice_index_or edges session (record { 0 = 0 })).0

-- those for whom a session waits, the lowest first
abbrev pub waits_for : List SessSet → ℕ → List ℕ
waits_for edges session = members (set_at edges session)

abbrev pub firsts : ℕ → List SessNo → List ℕ
firsts n items = take n (map (λ s. s.0) items)

-- the sessions of a cycle, in order
abbrev pub sessions_of : Cycle → List ℕ
sessions_of cycle = firsts cycle.len cycle.items

-- for each number of waits below a bound the set of those from which so many waits, or fewer, lead to the goal
abbrev pub AreLayers : List SessSet → ℕ → List SessSet → ℕ → Type 0
AreLayers edges goal layers bound = (n : ℕ) → n < bound → members (set_at layers n) ≡ reaching (waits_for edges) all_sessions goal n
