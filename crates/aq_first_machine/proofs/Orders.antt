-- What a transaction does keeps the order of the rows.
use Rattle.std.proofs.Common.{◌≡◌, ℕ, ◌+◌, ◌≤◌, ◌⊎◌, inl, inr, ⊎_elim, List, [], ◌∷◌, ◌++◌, Option, Some, None, refl, sym, ap, subst, ◌∙◌, arith, is_some}
use Rattle.std.proofs.lemmas.Bool.{cases_eq, false≢true}
use Rattle.std.proofs.lemmas.Option.{none-some, same_Some}
use Rattle.aq_base.specs.Values.{Row}
use Rattle.aq_base.specs.Maps.{at, with_at}
use Rattle.aq_first_base.specs.Databases.{Database, Stored}
use Rattle.aq_first_base.specs.Writes.{Write, Writes, overlay}
use Rattle.aq_base.proofs.Maps.{at-with_at_same, at-with_at_other, KeysRise-with_at}
use Rattle.aq_first_base.proofs.Databases.{newest, KeysRise-overlay, at-overlay}
use Rattle.aq_first_run.specs.States.{last_of}
use Rattle.aq_first_machine.specs.Orders.{IsOrdered}
use Rattle.aq_first_machine.proofs.Histories.{last_of-push}

pub IsOrdered-start : (rows : ℕ) → IsOrdered [] [] rows
IsOrdered-start rows =
    record {
      rows_rise = tt;
      writes_rise = tt;
      rows_drawn = λ n stored is. absurd (none-some stored is);
      writes_drawn = λ n write is. absurd (none-some write is);
      new_above = λ n write is new m stored there. absurd (none-some write is);
    }

-- the writes are dropped, or there are none yet
pub IsOrdered-abort : (db : Database) (writes : Writes) (rows : ℕ) → IsOrdered db writes rows → IsOrdered db [] rows
IsOrdered-abort db writes rows ordered =
    record {
      rows_rise = ordered.rows_rise;
      writes_rise = tt;
      rows_drawn = ordered.rows_drawn;
      writes_drawn = λ n write is. absurd (none-some write is);
      new_above = λ n write is new m stored there. absurd (none-some write is);
    }

-- what stands in the writes with one more is that one, or stood there
written_cases : (row n : ℕ) (write : Write) (writes : Writes) (w : Write) → at n (with_at row write writes) ≡ Some w → ((n ≡ row) × (write ≡ w)) ⊎ (at n writes ≡ Some w)
written_cases row n write writes w is =
    ⊎_elim (λ same. inl (same, same_Some write w (sym (at-with_at_same row write writes) ∙ ap (λ k. at k (with_at row write writes)) (sym same) ∙ is)))
    (λ other. inr (sym (at-with_at_other n row write writes other) ∙ is)) (cases_eq n row)

-- a new row, with the next number
pub IsOrdered-insert : (db : Database) (writes : Writes) (rows table number : ℕ) (values : Row) → IsOrdered db writes rows
    → IsOrdered db (with_at (rows + 1) (record { table = table; image = Some values; number = number }) writes) (rows + 1)
IsOrdered-insert db writes rows table number values ordered =
    let write : Write = record { table = table; image = Some values; number = number } in
    record {
      rows_rise = ordered.rows_rise;
      writes_rise = KeysRise-with_at (rows + 1) write writes ordered.writes_rise;
      rows_drawn = λ n stored is. let within = ordered.rows_drawn n stored is in omega (arith, within);
      writes_drawn = λ n w is.
          ⊎_elim (λ same. omega (arith, same.0)) (λ old. let within = ordered.writes_drawn n w old in omega (arith, within)) (written_cases (rows + 1) n write writes w is);
      new_above = λ n w is new m stored there.
          ⊎_elim (λ same. let within = ordered.rows_drawn m stored there in omega (arith, within, same.0)) (λ old. ordered.new_above n w old new m stored there) (written_cases (rows + 1) n write writes w is);
    }

-- a row that the transaction sees has a number that was drawn
drawn : (commit row : ℕ) (write : Option Write) (had : Option Stored) (stored : Stored) → newest commit write had ≡ Some stored → ((w : Write) × (write ≡ Some w)) ⊎ (had ≡ Some stored)
drawn commit row None had stored is = inr is
drawn commit row (Some w) had stored is = inl (w, refl)

pub row_seen_drawn : (commit row rows : ℕ) (db : Database) (writes : Writes) (stored : Stored) → IsOrdered db writes rows → at row (overlay commit writes db) ≡ Some stored → row ≤ rows
row_seen_drawn commit row rows db writes stored ordered seen =
    ⊎_elim (λ written. ordered.writes_drawn row written.0 written.1) (λ had. ordered.rows_drawn row stored had)
    (drawn commit row (at row writes) (at row db) stored (sym (at-overlay commit writes db row ordered.writes_rise) ∙ seen))

-- a row that the transaction sees is deleted
pub IsOrdered-delete : (commit : ℕ) (db : Database) (writes : Writes) (rows row table number : ℕ) (stored : Stored) → IsOrdered db writes rows
    → at row (overlay commit writes db) ≡ Some stored → IsOrdered db (with_at row (record { table = table; image = None; number = number }) writes) rows
IsOrdered-delete commit db writes rows row table number stored ordered seen =
    let write : Write = record { table = table; image = None; number = number } in
    let within : row ≤ rows = row_seen_drawn commit row rows db writes stored ordered seen in
    record {
      rows_rise = ordered.rows_rise;
      writes_rise = KeysRise-with_at row write writes ordered.writes_rise;
      rows_drawn = ordered.rows_drawn;
      writes_drawn = λ n w is. ⊎_elim (λ same. omega (arith, same.0, within)) (λ old. ordered.writes_drawn n w old) (written_cases row n write writes w is);
      new_above = λ n w is new m stored there.
          ⊎_elim (λ same. absurd (false≢true (ap (λ (x : Write). is_some x.image) same.1 ∙ new))) (λ old. ordered.new_above n w old new m stored there) (written_cases row n write writes w is);
    }

-- what the transaction sees becomes the last database
pub IsOrdered-commit : (commit : ℕ) (history : List Database) (db : Database) (writes : Writes) (rows : ℕ) → IsOrdered db writes rows
    → IsOrdered (last_of (history ++ overlay commit writes db ∷ [])) [] rows
IsOrdered-commit commit history db writes rows ordered =
    subst (λ last. IsOrdered last [] rows) (sym (last_of-push history (overlay commit writes db)))
    (record {
      rows_rise = KeysRise-overlay commit writes db ordered.rows_rise;
      writes_rise = tt;
      rows_drawn = λ n stored is. row_seen_drawn commit n rows db writes stored ordered is;
      writes_drawn = λ n write is. absurd (none-some write is);
      new_above = λ n write is new m stored there. absurd (none-some write is);
    })
