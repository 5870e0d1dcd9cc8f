-- What the last line of some texts tells, computed on the definitions.
use Rattle.std.proofs.Common.{◌≡◌, ◌*◌, ◌^◌, false, List, [], ◌∷◌, refl, codes, decimal}
use Rattle.std.specs.Fmt.{digits}
use Rattle.aq_base.specs.Names.{Text}
use Rattle.aq_texts.specs.Rows.{line}
use Rattle.aq_first_run.specs.Told.{is_lines, are_named, TellsSchedule}

abbrev two_names : List Text
two_names = codes "a" ∷ codes "b" ∷ []

only_line : TellsSchedule two_names (codes "schedule a*2 b*1 a*1\n") (0 ∷ 0 ∷ 1 ∷ 0 ∷ [])
unfolding digits
only_line = record { front = []; begins = refl; whole = refl; one_line = refl }

line_behind_another : TellsSchedule two_names (codes "a.1: INSERT 0 1\nschedule b*12\n") (1 ∷ 1 ∷ 1 ∷ 1 ∷ 1 ∷ 1 ∷ 1 ∷ 1 ∷ 1 ∷ 1 ∷ 1 ∷ 1 ∷ [])
unfolding digits
line_behind_another = record { front = line (codes "a.1: INSERT 0 1"); begins = refl; whole = refl; one_line = refl }

no_step : TellsSchedule two_names (codes "schedule\n") []
no_step = record { front = []; begins = refl; whole = refl; one_line = refl }

-- where two sessions have one name, one line tells two schedules
abbrev same_names : List Text
same_names = codes "a" ∷ codes "a" ∷ []

first_of_one_name : TellsSchedule same_names (codes "schedule a*1\n") (0 ∷ [])
unfolding digits
first_of_one_name = record { front = []; begins = refl; whole = refl; one_line = refl }

second_of_one_name : TellsSchedule same_names (codes "schedule a*1\n") (1 ∷ [])
unfolding digits
second_of_one_name = record { front = []; begins = refl; whole = refl; one_line = refl }

part_of_a_line : is_lines (codes "a.1") ≡ false
part_of_a_line = refl

without_name : are_named two_names (0 ∷ 2 ∷ []) ≡ false
without_name = refl

-- above 64 digits the first ones aren't written
too_long : decimal (10 ^ 64) ≡ decimal (2 * 10 ^ 64)
unfolding digits
too_long = refl
