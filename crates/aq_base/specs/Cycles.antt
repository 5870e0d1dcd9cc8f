-- The shortest cycle through a session of a graph of waits, of several the first in the order of their sessions
-- (PostgreSQL source, deadlock.c, which finds one cycle and not a shortest one).
use Rattle.std.specs.Prelude.{ℕ, Bool, ◌||◌, ◌==◌, zero, suc, List, [], ◌∷◌, filter, find, Option, Some, None, is_some}
use Rattle.std.specs.List.{list_any}

abbrev pub is_in : List ℕ → ℕ → Bool
is_in ns n = list_any (λ m. m == n) ns

-- the sessions from which so many waits, or fewer, lead to a session
abbrev pub reaching : (ℕ → List ℕ) → List ℕ → ℕ → ℕ → List ℕ
reaching next all goal zero = goal ∷ []
reaching next all goal (suc n) =
    let fewer = reaching next all goal n in filter (λ k. (k == goal) || list_any (is_in fewer) (next k)) all

-- the first of the sessions that is among some
abbrev pub first_among : List ℕ → List ℕ → Option ℕ
first_among ns some = find (is_in some) ns

-- a shortest way from one of the sessions to the goal, of that many waits, always by the first session that goes on
abbrev pub way : (ℕ → List ℕ) → List ℕ → ℕ → ℕ → List ℕ → List ℕ
way next all goal zero from = []
way next all goal (suc n) from =
    elim (first_among from (reaching next all goal (suc n))) [ None ↦ [] | Some k ↦ k ∷ way next all goal n (next k) ]

abbrev pub is_way : (ℕ → List ℕ) → List ℕ → ℕ → List ℕ → ℕ → Bool
is_way next all goal from n = is_some (first_among from (reaching next all goal n))

-- the least number of waits by which one of the sessions leads to the goal
abbrev pub shortest : (ℕ → List ℕ) → List ℕ → ℕ → List ℕ → Option ℕ
shortest next all goal from = find (is_way next all goal from) all

abbrev pub cycle_by : (ℕ → List ℕ) → List ℕ → ℕ → List ℕ → Option ℕ → Option (List ℕ)
cycle_by next all goal from None = None
cycle_by next all goal from (Some n) = Some (goal ∷ way next all goal n from)

-- the cycle that the session would close by waiting for these
abbrev pub cycle_through : (ℕ → List ℕ) → List ℕ → ℕ → List ℕ → Option (List ℕ)
cycle_through next all goal from = cycle_by next all goal from (shortest next all goal from)
