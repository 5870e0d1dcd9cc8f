-- How many rows a transaction sees, and sums over sessions.
use Rattle.std.proofs.Common.{◌≡◌, ℕ, zero, suc, ◌+◌, ◌<◌, ◌≤◌, List, [], ◌∷◌, length, Option, Some, None, nat_cmp, not, ◌==◌, slice_set, slice_index_or, arith}
use Rattle.std.specs.declared.cmp.Ordering.TheVariants.{Less, Equal, Greater}
use Rattle.std.specs.FinMap.Entries.{by_order}
use Rattle.std.proofs.lemmas.List.Sums.{sum_by-cons}
use Rattle.aq_base.specs.Values.{Row}
use Rattle.aq_base.specs.Maps.{with_at}
use Rattle.aq_first_base.specs.Databases.{Database, Stored}
use Rattle.aq_first_base.specs.Writes.{Write, Writes, with_image, overlay}
use Rattle.aq_first_base.specs.declared.bound.Bound.{Bound}
use Rattle.aq_first_run.specs.States.{Session, nobody}
use Rattle.aq_first_laws.specs.Finite.{over_sessions, image_rows, written_rows}
use Rattle.aq_first_laws.proofs.Lists.{length-filter-le}

-- ---- rows

-- a map with one value more or a new one has at most one entry more
length-with_at : {X : Type 0} (n : ℕ) (x : X) (entries : List (ℕ × X)) → length (with_at n x entries) ≤ length entries + 1
length-with_at n x [] = omega arith
length-with_at n x (entry ∷ entries) =
    let rest = length-with_at n x entries in
    elim (nat_cmp n entry.0) as (λ o. length (by_order o ((n, x) ∷ entry ∷ entries) ((entry.0, x) ∷ entries) (entry ∷ with_at n x entries)) ≤ suc (length entries) + 1) [
      | Less ↦ omega arith
      | Equal ↦ omega arith
      | Greater ↦ omega arith
    ]

length-with_image : (commit row table : ℕ) (image : Option Row) (db : Database) → length (with_image commit row table image db) ≤ length db + image_rows image
length-with_image commit row table None db = let le = length-filter-le (λ (entry : ℕ × Stored). not (entry.0 == row)) db in omega arith
length-with_image commit row table (Some values) db = length-with_at row (record { table = table; values = values; commit = commit }) db

-- a transaction sees at most the rows of the last database and those that it has written
pub length-overlay : (commit : ℕ) (writes : Writes) (db : Database) → length (overlay commit writes db) ≤ length db + written_rows writes
length-overlay commit [] db = omega arith
length-overlay commit (entry ∷ writes) db =
    omega (arith, length-overlay commit writes (with_image commit entry.0 entry.1.table entry.1.image db), length-with_image commit entry.0 entry.1.table entry.1.image db, sum_by-cons (λ e. image_rows e.1.image) entry writes)

pub written_rows-with_at : (n : ℕ) (write : Write) (writes : Writes) → written_rows (with_at n write writes) ≤ written_rows writes + image_rows write.image
written_rows-with_at n write [] = omega arith
written_rows-with_at n write (entry ∷ writes) =
    let rest = written_rows-with_at n write writes in
    let here = sum_by-cons (λ e. image_rows e.1.image) entry writes in
    elim (nat_cmp n entry.0) as (λ o. written_rows (by_order o ((n, write) ∷ entry ∷ writes) ((entry.0, write) ∷ writes) (entry ∷ with_at n write writes)) ≤ written_rows (entry ∷ writes) + image_rows write.image) [
      | Less ↦ omega (arith, sum_by-cons (λ e. image_rows e.1.image) (n, write) (entry ∷ writes))
      | Equal ↦ omega (arith, sum_by-cons (λ e. image_rows e.1.image) (entry.0, write) writes)
      | Greater ↦ omega (arith, sum_by-cons (λ e. image_rows e.1.image) entry (with_at n write writes))
    ]

-- ---- sessions

-- the statements of a session
abbrev pub script_of : List (List Bound) → ℕ → List Bound
script_of scripts s = slice_index_or scripts s []

module _ (count : List Bound → Session → ℕ) where
  -- one session in place of another
  pub over_sessions-set : (scripts : List (List Bound)) (sessions : List Session) (s : ℕ) (me : Session) → s < length sessions
      → over_sessions count scripts (slice_set sessions s me) + count (script_of scripts s) (slice_index_or sessions s nobody) ≡ over_sessions count scripts sessions + count (script_of scripts s) me
  over_sessions-set scripts [] s me within = absurd (omega arith)
  over_sessions-set [] (first ∷ others) zero me within = omega arith
  over_sessions-set (statements ∷ scripts) (first ∷ others) zero me within = omega arith
  over_sessions-set [] (first ∷ others) (suc s) me within = omega (arith, over_sessions-set [] others s me (omega arith))
  over_sessions-set (statements ∷ scripts) (first ∷ others) (suc s) me within = omega (arith, over_sessions-set scripts others s me (omega arith))

  -- a session counts at most as much as all
  pub over_sessions-one : (scripts : List (List Bound)) (sessions : List Session) (s : ℕ) → s < length sessions
      → count (script_of scripts s) (slice_index_or sessions s nobody) ≤ over_sessions count scripts sessions
  over_sessions-one scripts [] s within = absurd (omega arith)
  over_sessions-one [] (first ∷ others) zero within = omega arith
  over_sessions-one (statements ∷ scripts) (first ∷ others) zero within = omega arith
  over_sessions-one [] (first ∷ others) (suc s) within = omega (arith, over_sessions-one [] others s (omega arith))
  over_sessions-one (statements ∷ scripts) (first ∷ others) (suc s) within = omega (arith, over_sessions-one scripts others s (omega arith))

pub over_sessions-le : (less more : List Bound → Session → ℕ) → ((statements : List Bound) (me : Session) → less statements me ≤ more statements me)
    → (scripts : List (List Bound)) (sessions : List Session) → over_sessions less scripts sessions ≤ over_sessions more scripts sessions
over_sessions-le less more le scripts [] = omega arith
over_sessions-le less more le [] (me ∷ others) = omega (arith, le [] me, over_sessions-le less more le [] others)
over_sessions-le less more le (statements ∷ scripts) (me ∷ others) = omega (arith, le statements me, over_sessions-le less more le scripts others)
