-- Stacks of lists, the first opened first.
use Rattle.std.specs.Prelude.{ℕ, ◌-◌, List, [], ◌∷◌, ◌++◌, length, Option, slice_get}
use Rattle.aq_base.specs.Events.{Event}
use Rattle.aq_base.specs.declared.catalog.Op.{Op}
use Rattle.aq_events.specs.Entries.{waiting_entry, cancelled_from, count_cancelled}
use Rattle.aq_events.specs.declared.entries.Entry.{Entry}

abbrev pub top_of : List (List Entry) → Option (List Entry)
top_of levels = slice_get levels (length levels - 1)

-- the stack with a change of its last list
abbrev pub on_top : (List Entry → List Entry) → List (List Entry) → List (List Entry)
on_top f [] = []
on_top f (list ∷ []) = f list ∷ []
on_top f (list ∷ next ∷ levels) = list ∷ on_top f (next ∷ levels)

abbrev pub with_statement_event : Event → List (List Entry) → List (List Entry)
with_statement_event event levels = on_top (λ list. list ++ waiting_entry event ∷ []) levels

abbrev pub cancelled_on_top : ℕ → Op → ℕ → List (List Entry) → List (List Entry)
cancelled_on_top table op number levels = on_top (cancelled_from 0 table op number) levels

abbrev pub count_on_top : ℕ → Op → ℕ → List (List Entry) → ℕ
count_on_top table op number [] = 0
count_on_top table op number (list ∷ []) = count_cancelled table op number list
count_on_top table op number (list ∷ next ∷ levels) = count_on_top table op number (next ∷ levels)
