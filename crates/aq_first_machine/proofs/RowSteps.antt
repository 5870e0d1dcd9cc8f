-- The steps of the rows of a statement, as they are carried out.
use Rattle.std.proofs.Common.{◌≡◌, ℕ, ◌+◌, ◌<◌, length, drop, get_or, arith, List, [], ◌∷◌, ◌++◌, Option, Some, None, option_map, refl, sym, ap, ◌∙◌}
use Rattle.std.proofs.lemmas.Option.{none-some, same_Some}
use Rattle.aq_base.specs.Values.{Row}
use Rattle.aq_base.specs.Maps.{at, with_at}
use Rattle.aq_first_base.specs.Catalogs.{Catalog}
use Rattle.aq_first_base.specs.Databases.{Stored}
use Rattle.aq_first_outcomes.specs.Faults.{Fault as Found_fault}
use Rattle.aq_first_outcomes.specs.Rows.{insert_fault, insert_events, delete_events}
use Rattle.aq_first_run.specs.States.{World, Session, Target, Operation, latest_view, last_database}
use Rattle.aq_first_base.specs.Writes.{Writes}
use Rattle.aq_first_machine.specs.Orders.{IsOrdered}
use Rattle.aq_first_machine.proofs.Orders.{IsOrdered-delete}
use Rattle.aq_first_run.specs.States.Operation.{Inserting, Deleting}
use Rattle.aq_first_run.specs.States.Target.{New_row, Old_row}
use Rattle.aq_first_run.specs.States.Task.{Rows, Rounds}
use Rattle.aq_first_run.specs.Effects.{effect}
use Rattle.aq_first_run.specs.Steps.{answer_of}
use Rattle.aq_first_run.specs.Steps.Plan.{Fails}
use Rattle.aq_first_machine.specs.Shown.{Held, in_level}
use Rattle.aq_first_machine.specs.Runnings.{progress_plan}
use Rattle.aq_first_machine.specs.Advances.{written, GoesFurther}

-- a row with the next numbers is inserted
abbrev pub with_new_row : Catalog → World → ℕ → Row → Held → Held
with_new_row cat world table values held = record held {
  writes = with_at (world.rows + 1) (record { table = table; image = Some values; number = world.writes + 1 }) held.writes;
  queued = held.queued ++ insert_events cat table (world.rows + 1) (world.writes + 1) values;
}

-- a row is deleted
abbrev pub without_old_row : Catalog → World → ℕ → ℕ → Row → Held → Held
without_old_row cat world table row values held = record held {
  writes = with_at row (record { table = table; image = None; number = world.writes + 1 }) held.writes;
  queued = held.queued ++ delete_events cat table row (world.writes + 1) values;
}

pub rows-end : (cat : Catalog) (world : World) (held : Held) (operation : Operation) (done : ℕ)
    → GoesFurther cat world (in_level held (Rows operation [] done)) world (in_level held (Rounds (answer_of operation done)))
unfolding effect
rows-end cat world held operation done = λ s me. refl

pub insert-refused : (cat : Catalog) (world : World) (held : Held) (table done : ℕ) (values : Row) (later : List Target) (fault : Found_fault)
    → insert_fault cat (latest_view world (written held.writes)) table values ≡ Some fault
    → (me : Session) → progress_plan cat world (in_level held (Rows (Inserting table) (New_row values ∷ later) done)) me ≡ Fails [] fault
insert-refused cat world held table done values later fault found me = rw found refl

pub insert-goes : (cat : Catalog) (world : World) (held : Held) (table done : ℕ) (values : Row) (later : List Target)
    → insert_fault cat (latest_view world (written held.writes)) table values ≡ None
    → GoesFurther cat world (in_level held (Rows (Inserting table) (New_row values ∷ later) done)) (record world { rows = world.rows + 1; writes = world.writes + 1 })
    (in_level (with_new_row cat world table values held) (Rows (Inserting table) later (done + 1)))
unfolding effect
insert-goes cat world held table done values later none = λ s me. rw none refl

delete-stored : (cat : Catalog) (world : World) (held : Held) (table row done : ℕ) (stored : Stored) (later : List Target)
    → at row (latest_view world (written held.writes)) ≡ Some stored
    → GoesFurther cat world (in_level held (Rows (Deleting table) (Old_row row ∷ later) done)) (record world { writes = world.writes + 1 })
    (in_level (without_old_row cat world table row stored.values held) (Rows (Deleting table) later (done + 1)))
unfolding effect
delete-stored cat world held table row done stored later found = λ s me. rw found refl

-- a row that stands is deleted
pub delete-goes : (cat : Catalog) (world : World) (held : Held) (table row done : ℕ) (values : Row) (later : List Target)
    → option_map (λ (stored : Stored). stored.values) (at row (latest_view world (written held.writes))) ≡ Some values
    → GoesFurther cat world (in_level held (Rows (Deleting table) (Old_row row ∷ later) done)) (record world { writes = world.writes + 1 })
    (in_level (without_old_row cat world table row values held) (Rows (Deleting table) later (done + 1)))
delete-goes cat world held table row done values later found = by_found (at row (latest_view world (written held.writes))) refl
  where
    Goes : Type 0
    Goes = GoesFurther cat world (in_level held (Rows (Deleting table) (Old_row row ∷ later) done)) (record world { writes = world.writes + 1 })
        (in_level (without_old_row cat world table row values held) (Rows (Deleting table) later (done + 1)))

    by_found : (stored : Option Stored) → at row (latest_view world (written held.writes)) ≡ stored → Goes
    by_found None is = absurd (none-some values (sym (ap (option_map (λ (stored : Stored). stored.values)) is) ∙ found))
    by_found (Some stored) is =
        let same : stored.values ≡ values = same_Some stored.values values (sym (ap (option_map (λ (stored : Stored). stored.values)) is) ∙ found) in
        rw (← same) (delete-stored cat world held table row done stored later is)

-- a row that is gone is passed over
pub delete-passes : (cat : Catalog) (world : World) (held : Held) (table row done : ℕ) (later : List Target)
    → option_map (λ (stored : Stored). stored.values) (at row (latest_view world (written held.writes))) ≡ None
    → GoesFurther cat world (in_level held (Rows (Deleting table) (Old_row row ∷ later) done)) world (in_level held (Rows (Deleting table) later done))
unfolding effect
delete-passes cat world held table row done later gone = by_found (at row (latest_view world (written held.writes))) refl
  where
    by_found : (stored : Option Stored) → at row (latest_view world (written held.writes)) ≡ stored
        → GoesFurther cat world (in_level held (Rows (Deleting table) (Old_row row ∷ later) done)) world (in_level held (Rows (Deleting table) later done))
    by_found None is = λ s me. rw is refl
    by_found (Some stored) is = absurd (none-some stored.values (sym gone ∙ ap (option_map (λ (stored : Stored). stored.values)) is))

-- a list that has a first element is that element and the rest
pub first-and_rest : {X : Type 0} (xs rest : List X) (x : X) → 0 < length xs → x ≡ get_or xs 0 x → rest ≡ drop 1 xs → xs ≡ x ∷ rest
first-and_rest [] rest x some is after = absurd (omega arith)
first-and_rest (y ∷ xs) rest x some is after = rw (is, after) refl

-- the order of the rows when a row that stands is deleted
pub order-delete : (world : World) (writes : Writes) (row table number : ℕ) (values : Row) → IsOrdered (last_database world) writes world.rows
    → option_map (λ (stored : Stored). stored.values) (at row (latest_view world (written writes))) ≡ Some values
    → IsOrdered (last_database world) (with_at row (record { table = table; image = None; number = number }) writes) world.rows
order-delete world writes row table number values ordered found = by_found (at row (latest_view world (written writes))) refl
  where
    by_found : (stored : Option Stored) → at row (latest_view world (written writes)) ≡ stored → IsOrdered (last_database world) (with_at row (record { table = table; image = None; number = number }) writes) world.rows
    by_found None is = absurd (none-some values (sym (ap (option_map (λ (stored : Stored). stored.values)) is) ∙ found))
    by_found (Some stored) is = IsOrdered-delete (length world.history) (last_database world) writes world.rows row table number stored ordered is
