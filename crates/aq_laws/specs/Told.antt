-- What the last line of a run's text tells.
use Rattle.std.specs.Prelude.{◌≡◌, ℕ, ◌^◌, ◌<◌, Bool, true, not, ◌==◌, List, [], ◌∷◌, ◌++◌, length, nat_lt, codes}
use Rattle.std.specs.List.{list_all, flat_map}
use Rattle.aq_base.specs.Names.{Text, is_name, all_differ}
use Rattle.aq_run.specs.Programs.{Program}
use Rattle.aq_run.specs.Runs.{Schedule, IsSchedule}
use Rattle.aq_run.specs.Texts.{text}
use Rattle.aq_texts.specs.Rows.{line}
use Rattle.aq_texts.specs.Schedules.{runs_of, run_item}

-- the byte isn't in the text
abbrev pub is_free_of : ℕ → Text → Bool
is_free_of byte text = list_all (λ other. not (other == byte)) text

-- the text is empty or ends with LF
abbrev pub is_lines : Text → Bool
is_lines [] = true
is_lines (byte ∷ []) = byte == 10
is_lines (byte ∷ next ∷ text) = is_lines (next ∷ text)

-- the text ends with a line, which begins at the text's front or after an LF
pub record EndsWithLine (text last : Text) : Type 0 where
  pub front : Text
  pub begins : is_lines front ≡ true
  pub whole : text ≡ front ++ line last
  pub one_line : is_free_of 10 last ≡ true

-- the last line of the text is `schedule` and the longest runs of the schedule's steps
abbrev pub TellsSchedule : List Text → Text → Schedule → Type 0
TellsSchedule names text schedule = EndsWithLine text (codes "schedule" ++ flat_map (run_item names) (runs_of schedule))

-- each session of the schedule has a name
abbrev pub are_named : List Text → Schedule → Bool
are_named names schedule = list_all (λ s. nat_lt s (length names)) schedule

-- The sessions have names, and no run is too long for its number of steps to be written in full: `decimal` has room for 64 digits.
pub record CanBeTold (names : List Text) (schedule : Schedule) : Type 0 where
  pub named : are_named names schedule ≡ true
  pub short : length schedule < 10 ^ 64

-- With names that differ, the last line of a text tells no two schedules.
abbrev pub ScheduleIsTold : Type 0
ScheduleIsTold =
    (names : List Text) → list_all is_name names ≡ true → all_differ names ≡ true → (text : Text) (v w : Schedule) →
    CanBeTold names v → CanBeTold names w → TellsSchedule names text v → TellsSchedule names text w → v ≡ w

-- The text of a run tells the run's schedule, and no other, with and without its trace, however many sessions there are.
pub record TellsItsSchedule (program : Program) (schedule : Schedule) (text : Text) : Type 0 where
  pub tells : TellsSchedule program.names text schedule
  pub only : (other : Schedule) → CanBeTold program.names other → TellsSchedule program.names text other → other ≡ schedule

abbrev pub TextTellsSchedule : Type 0
TextTellsSchedule =
    (program : Program) → list_all is_name program.names ≡ true → all_differ program.names ≡ true → (schedule : Schedule) → IsSchedule program schedule →
    length schedule < 10 ^ 64 → (traced : Bool) → TellsItsSchedule program schedule (text program schedule traced)
