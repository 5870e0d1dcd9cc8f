-- How the log of what was replaced stands for the settings that were saved.
use Rattle.std.specs.Prelude.{ℕ, Bool, List, [], ◌∷◌, Option, None, Some}
use Rattle.std.specs.Ordering.{nat_cmp}
use Rattle.std.specs.Map.{remove_entry, set_value}
use Rattle.std.specs.BTreeMap.{is_at, insert_entry}
use Rattle.aq_base.specs.ConstraintModes.{Modes}
use Rattle.aq_modes.specs.declared.log.Present.{Present}
use Rattle.aq_modes.specs.declared.log.Before.{Before}
use Rattle.aq_modes.specs.declared.log.Entry.{Entry}
use Rattle.aq_modes.specs.declared.log.Entry.TheVariants.{Mark, All, Each}

abbrev pub modes_of : Present → Modes
modes_of present = record { all = present.all; own = present.own.entries }

abbrev pub own_with : List ℕ → Bool → List (ℕ × Bool) → List (ℕ × Bool)
own_with [] deferred own = own
own_with (con ∷ cons) deferred own = own_with cons deferred (insert_entry nat_cmp own con deferred)

abbrev pub as_before : ℕ → Option Bool → List (ℕ × Bool) → List (ℕ × Bool)
as_before con None own = remove_entry (is_at (nat_cmp con)) own
as_before con (Some setting) own = set_value (is_at (nat_cmp con)) own setting

abbrev pub put_back : Before → List (ℕ × Bool) → List (ℕ × Bool)
put_back before own = as_before before.con before.setting own

-- the last one first
abbrev pub put_back_all : List Before → List (ℕ × Bool) → List (ℕ × Bool)
put_back_all [] own = own
put_back_all (before ∷ later) own = put_back before (put_back_all later own)

-- the settings before a change
abbrev pub undone : Entry → Modes → Modes
undone Mark modes = modes
undone (All replaced) modes = modes_of replaced
undone (Each before) modes = record modes { own = put_back_all before.items modes.own }

-- the settings before all the changes of a log, the oldest first
abbrev pub before_all : List Entry → Modes → Modes
before_all [] modes = modes
before_all (entry ∷ later) modes = undone entry (before_all later modes)

-- the settings at each mark, the oldest first
abbrev pub saved_from : List Entry → Modes → List Modes
saved_from [] modes = []
saved_from (Mark ∷ later) modes = before_all later modes ∷ saved_from later modes
saved_from (All replaced ∷ later) modes = saved_from later modes
saved_from (Each before ∷ later) modes = saved_from later modes
