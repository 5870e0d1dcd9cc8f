-- A schedule as it is printed.
use Rattle.std.specs.Prelude.{ℕ, ◌+◌, ◌==◌, List, [], ◌∷◌, ◌++◌, unwrap_or, slice_get, codes, flat_map, if◌then◌else◌}
use Rattle.std.specs.Fmt.{decimal}
use Rattle.aq_base.specs.Names.{Text}
use Rattle.aq_texts.specs.Rows.{line}

abbrev pub name_at : List Text → ℕ → Text
name_at names s = unwrap_or (slice_get names s) []

-- a step more before a list of longest runs of steps of one session
abbrev pub with_step : ℕ → List (ℕ × ℕ) → List (ℕ × ℕ)
with_step s [] = (s, 1) ∷ []
with_step s (first ∷ others) = if s == first.0 then (first.0, first.1 + 1) ∷ others else (s, 1) ∷ first ∷ others

-- the longest runs of steps of one session, each with its length
abbrev pub runs_of : List ℕ → List (ℕ × ℕ)
runs_of [] = []
runs_of (s ∷ schedule) = with_step s (runs_of schedule)

abbrev pub run_item : List Text → ℕ × ℕ → Text
run_item names item = codes " " ++ name_at names item.0 ++ codes "*" ++ decimal item.1

abbrev pub schedule_line : List Text → List ℕ → Text
schedule_line names schedule = line (codes "schedule" ++ flat_map (run_item names) (runs_of schedule))
