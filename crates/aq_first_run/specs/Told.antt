-- What the last line of a run's text tells.
use Rattle.std.specs.Prelude.{◌≡◌, ℕ, ◌^◌, ◌<◌, Bool, true, not, ◌==◌, List, [], ◌∷◌, ◌++◌, length, nat_lt, codes}
use Rattle.std.specs.List.{list_all, flat_map}
use Rattle.aq_base.specs.Names.{Text, is_name, all_differ}
use Rattle.aq_first_run.specs.Runs.{Schedule}
use Rattle.aq_texts.specs.Rows.{line}
use Rattle.aq_texts.specs.Schedules.{runs_of, run_item}

-- the byte isn't in the text
abbrev pub is_free_of : ℕ → Text → Bool
is_free_of byte text = list_all (λ other. not (other == byte)) text

-- the text is empty or ends with LF
abbrev pub is_lines : Text → Bool
is_lines [] = true
is_lines (byte ∷ []) = byte == 10
is_lines (byte ∷ next ∷ text) = is_lines (next ∷ text)

-- the text ends with a line, which begins at the text's front or after an LF
pub record EndsWithLine (text last : Text) : Type 0 where
  pub front : Text
  pub begins : is_lines front ≡ true
  pub whole : text ≡ front ++ line last
  pub one_line : is_free_of 10 last ≡ true

-- the last line of the text is `schedule` and the longest runs of the schedule's steps
abbrev pub TellsSchedule : List Text → Text → Schedule → Type 0
TellsSchedule names text schedule = EndsWithLine text (codes "schedule" ++ flat_map (run_item names) (runs_of schedule))

-- each session of the schedule has a name
abbrev pub are_named : List Text → Schedule → Bool
are_named names schedule = list_all (λ s. nat_lt s (length names)) schedule

-- The sessions have names, and no run is too long for its number of steps to be written in full: `decimal` has room for 64 digits.
pub record CanBeTold (names : List Text) (schedule : Schedule) : Type 0 where
  pub named : are_named names schedule ≡ true
  pub short : length schedule < 10 ^ 64

-- With names that differ, the last line of a text tells no two schedules.
abbrev pub ScheduleIsTold : Type 0
ScheduleIsTold =
    (names : List Text) → list_all is_name names ≡ true → all_differ names ≡ true → (text : Text) (v w : Schedule) →
    CanBeTold names v → CanBeTold names w → TellsSchedule names text v → TellsSchedule names text w → v ≡ w
