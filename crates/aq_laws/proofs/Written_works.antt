-- The rows that the works of a transaction have written, from those that the last of them has.
use Rattle.std.proofs.Common.{◌≡◌, ℕ, ◌≤◌, true, false, arith, List, [], ◌∷◌, Option, Some, None, Contains, refl, sym, ap, ◌∙◌, subst, ⊎_elim, map}
use Rattle.std.specs.Prelude.{is_some}
use Rattle.std.proofs.lemmas.Bool.{true≢false}
use Rattle.std.proofs.lemmas.Bool.Decides.{nat_tests}
use Rattle.aq_base.proofs.Lists.{Contains-none, Contains-cons_cases}
use Rattle.aq_base.specs.Values.{Row}
use Rattle.aq_base.specs.Maps.{at}
use Rattle.aq_base.specs.Databases.{Database, last_database}
use Rattle.aq_base.specs.Writes.{Write, Writes, has_written}
use Rattle.aq_base.specs.LockModes.{strength}
use Rattle.aq_base.specs.Works.{Work, Saved}
use Rattle.aq_base.specs.declared.data.LockMode.{LockMode}
use Rattle.aq_run.specs.States.{Transaction, session_at}
use Rattle.aq_run.specs.Runs.{run}
use Rattle.aq_run.proofs.Parts.{Of_transaction}
use Rattle.aq_run.proofs.Copies_fit.{is_at_most, Holds}
use Rattle.aq_run.proofs.Free_steps.{writes_in}
use Rattle.aq_run.proofs.Written.{writer_mode, Written, Rewritten, Within, Within-self, Within-trans, Copies_written, Rows_written}
use Rattle.aq_run.proofs.Written_apart.{All_written, written_rows_are_held}
use Rattle.aq_laws.specs.Writes.{least_mode, WritesAreApart, WrittenRowsAreHeld}

-- a work of the transaction is written, and its rows are written again by the present work
pub record Work_written (rows numbers : ℕ) (db : Database) (present : Writes) (work : Work) : Type 0 where
  pub written : Written rows numbers db work.writes work.holdings
  pub within : Within work.writes present

module _ (rows numbers : ℕ) (db : Database) where
  of_copy : (present : Writes) (saved : List Saved) (work : Work) → Copies_written rows numbers db present saved → Contains (map (λ one. one.work) saved) work → Work_written rows numbers db present work
  of_copy present [] work copies c = absurd (Contains-none work c)
  of_copy present (saved ∷ others) work copies c =
      ⊎_elim (λ (first : saved.work ≡ work). subst (Work_written rows numbers db present) first (record { written = copies.0; within = copies.1.0 }))
      (λ (later : Contains (map (λ one. one.work) others) work).
      let found : Work_written rows numbers db saved.work.writes work = of_copy saved.work.writes others work copies.1.1 later in
      record { written = found.written; within = Within-trans work.writes saved.work.writes present found.within copies.1.0 })
      (Contains-cons_cases saved.work work (map (λ one. one.work) others) c)

  of_work : (t : Option Transaction) (work : Work) → Of_transaction (Rows_written rows numbers db) t → Contains (elim t [ None ↦ [] | Some running ↦ running.work ∷ map (λ one. one.work) running.saved ]) work →
      Work_written rows numbers db (writes_in t) work
  of_work None work own c = absurd (Contains-none work c)
  of_work (Some t) work own c =
      ⊎_elim (λ (first : t.work ≡ work). subst (Work_written rows numbers db t.work.writes) first (record { written = own.0; within = Within-self t.work.writes }))
      (λ later. of_copy t.work.writes t.saved work own.1 later) (Contains-cons_cases t.work work (map (λ one. one.work) t.saved) c)

has-some : (row : ℕ) (writes : Writes) (found : Option Write) → at row writes ≡ found → has_written row writes ≡ true → (one : Write) × (at row writes ≡ Some one)
has-some row writes None is has = absurd (true≢false (sym has ∙ ap is_some is))
has-some row writes (Some one) is has = (one, is)

has-none : (row : ℕ) (writes : Writes) (found : Option Write) → at row writes ≡ found → ((one : Write) → at row writes ≡ Some one → ⊥) → has_written row writes ≡ false
has-none row writes None is none = ap is_some is
has-none row writes (Some one) is none = absurd (none one is)

pub writes_apart : WritesAreApart
writes_apart program schedule i j differ mine theirs c d row has =
    let st = run program schedule in
    let all : All_written st = written_rows_are_held program schedule in
    let one : Work_written st.world.rows st.world.writes (last_database st.world.history) (writes_in (session_at st i).transaction) mine =
    of_work st.world.rows st.world.writes (last_database st.world.history) (session_at st i).transaction mine (all.own i) c in
    let other : Work_written st.world.rows st.world.writes (last_database st.world.history) (writes_in (session_at st j).transaction) theirs =
    of_work st.world.rows st.world.writes (last_database st.world.history) (session_at st j).transaction theirs (all.own j) d in
    let here = has-some row mine.writes (at row mine.writes) refl has in
    has-none row theirs.writes (at row theirs.writes) refl
    (λ write there.
    let again : Rewritten row here.0 (writes_in (session_at st i).transaction) = one.within row here.0 here.1 in
    let again' : Rewritten row write (writes_in (session_at st j).transaction) = other.within row write there in
    all.apart i j differ row again.later again'.later again.stands again'.stands)

least-writer : (image : Option Row) (mode : LockMode) → is_at_most (writer_mode image) mode ≡ true → strength (least_mode image) ≤ strength mode
least-writer None mode e = grind (arith, nat_tests, e)
least-writer (Some values) mode e = grind (arith, nat_tests, e)

pub rows_held : WrittenRowsAreHeld
rows_held program schedule i work c row one stored is there =
    let st = run program schedule in
    let all : All_written st = written_rows_are_held program schedule in
    let found : Work_written st.world.rows st.world.writes (last_database st.world.history) (writes_in (session_at st i).transaction) work =
    of_work st.world.rows st.world.writes (last_database st.world.history) (session_at st i).transaction work (all.own i) c in
    let holds : Holds row (writer_mode one.image) work.holdings = found.written.guarded row one stored is there in
    record { mode = holds.held; stands = holds.stands; enough = least-writer one.image holds.held holds.enough }
