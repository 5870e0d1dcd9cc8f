-- The line in which a run tells its schedule, read as a schedule section.
use Rattle.std.specs.Prelude.{◌≡◌, ℕ, suc, ◌<◌, ◌^◌, true, List, [], ◌∷◌, length, flat_map, replicate, Some, nat_lt, if◌then◌else◌}
use Rattle.std.specs.List.{list_all}
use Rattle.aq_base.specs.Names.{Text, same_text, is_name, all_differ}
use Rattle.aq_base.specs.declared.script.Item.{Item}
use Rattle.aq_base.specs.declared.script.Script.{Script}
use Rattle.aq_script.specs.Reading.{Reads}
use Rattle.aq_texts.specs.Schedules.{schedule_line}

-- the number of the first session with the name
abbrev pub number_of : List Text → Text → ℕ
number_of [] name = 0
number_of (first ∷ others) name = if same_text first name then 0 else suc (number_of others name)

-- the steps for which the items of a schedule stand
abbrev pub steps_of : List Text → List Item → List ℕ
steps_of names items = flat_map (λ item. replicate item.count (number_of names item.name)) items

abbrev pub schedule_alone : List Item → Script
schedule_alone items = record { setup = []; sessions = []; schedule = Some items }

-- With a `\` before it the line is a schedule section, and its items stand for the schedule.
abbrev pub ScheduleReadsBack : Type 0
ScheduleReadsBack =
    (names : List Text) (schedule : List ℕ) → list_all is_name names ≡ true → all_differ names ≡ true → list_all (λ s. nat_lt s (length names)) schedule ≡ true
    → length schedule < 2 ^ 63 → (items : List Item) × Reads (92 ∷ schedule_line names schedule) (schedule_alone items) × (steps_of names items ≡ schedule)
