-- A database with what a transaction has written.
use Rattle.std.proofs.Common.{◌≡◌, ℕ, ◌⊎◌, inl, inr, ◌≢◌, [], ◌∷◌, Option, Some, None, refl, sym, ◌∙◌, ap}
use Rattle.std.proofs.lemmas.Bool.{cases_eq}
use Rattle.aq_base.specs.Values.{Row}
use Rattle.aq_base.specs.Maps.{at}
use Rattle.aq_base.specs.Databases.{Database, Stored}
use Rattle.aq_base.specs.Writes.{Write, Writes, with_image, overlay}
use Rattle.aq_base.proofs.Maps.{KeysRise, at-first, at-rest, at-first_alone, at-with_at_same, at-with_at_other, KeysRise-rest, KeysRise-with_at, KeysRise-without, Removes-without}

-- a version as the commit with that number stores it; none where the row is deleted
abbrev pub stored_by : ℕ → ℕ → Option Row → Option Stored
stored_by commit table None = None
stored_by commit table (Some values) = Some (record { table = table; values = values; commit = commit })

-- the written version of a row, or the one that it had
abbrev pub newest : ℕ → Option Write → Option Stored → Option Stored
newest commit None had = had
newest commit (Some write) had = stored_by commit write.table write.image

KeysRise-with_image : (commit row table : ℕ) (image : Option Row) (db : Database) → KeysRise db → KeysRise (with_image commit row table image db)
KeysRise-with_image commit row table None db rise = KeysRise-without row db rise
KeysRise-with_image commit row table (Some values) db rise = KeysRise-with_at row (record { table = table; values = values; commit = commit }) db rise

at-with_image_same : (commit row table : ℕ) (image : Option Row) (db : Database) → at row (with_image commit row table image db) ≡ stored_by commit table image
at-with_image_same commit row table None db = (Removes-without row db).gone
at-with_image_same commit row table (Some values) db = at-with_at_same row (record { table = table; values = values; commit = commit }) db

at-with_image_other : (q commit row table : ℕ) (image : Option Row) (db : Database) → q ≢ row → at q (with_image commit row table image db) ≡ at q db
at-with_image_other q commit row table None db other = (Removes-without row db).elsewhere q other
at-with_image_other q commit row table (Some values) db other = at-with_at_other q row (record { table = table; values = values; commit = commit }) db other

pub KeysRise-overlay : (commit : ℕ) (writes : Writes) (db : Database) → KeysRise db → KeysRise (overlay commit writes db)
KeysRise-overlay commit [] db rise = rise
KeysRise-overlay commit (entry ∷ writes) db rise =
    KeysRise-overlay commit writes (with_image commit entry.0 entry.1.table entry.1.image db) (KeysRise-with_image commit entry.0 entry.1.table entry.1.image db rise)

pub at-overlay : (commit : ℕ) (writes : Writes) (db : Database) (q : ℕ) → KeysRise writes → at q (overlay commit writes db) ≡ newest commit (at q writes) (at q db)
at-overlay commit [] db q rise = refl
at-overlay commit (entry ∷ writes) db q rise = by_key (cases_eq q entry.0) (at-overlay commit writes with_first q (KeysRise-rest entry writes rise))
  where
    with_first : Database
    with_first = with_image commit entry.0 entry.1.table entry.1.image db

    by_key : (q ≡ entry.0) ⊎ (q ≢ entry.0) → at q (overlay commit writes with_first) ≡ newest commit (at q writes) (at q with_first)
        → at q (overlay commit writes with_first) ≡ newest commit (at q (entry ∷ writes)) (at q db)
    by_key (inl same) rest =
        let gone : at q writes ≡ None = ap (λ k. at k writes) same ∙ at-first_alone entry writes rise in
        let placed : at q with_first ≡ stored_by commit entry.1.table entry.1.image = ap (λ k. at k with_first) same ∙ at-with_image_same commit entry.0 entry.1.table entry.1.image db in
        let first : at q (entry ∷ writes) ≡ Some entry.1 = ap (λ k. at k (entry ∷ writes)) same ∙ at-first entry writes in
        rest ∙ ap (λ w. newest commit w (at q with_first)) gone ∙ placed ∙ sym (ap (λ w. newest commit w (at q db)) first)
    by_key (inr other) rest =
        let stays = at-with_image_other q commit entry.0 entry.1.table entry.1.image db other in
        rest ∙ ap (newest commit (at q writes)) stays ∙ sym (ap (λ w. newest commit w (at q db)) (at-rest q entry writes other))

-- a row that the transaction hasn't written is seen as it was committed
pub at-unwritten : (commit : ℕ) (writes : Writes) (db : Database) (q : ℕ) → KeysRise writes → at q writes ≡ None → at q (overlay commit writes db) ≡ at q db
at-unwritten commit writes db q rise none = at-overlay commit writes db q rise ∙ ap (λ w. newest commit w (at q db)) none

-- one that it has written is seen in its version
pub at-written : (commit : ℕ) (writes : Writes) (db : Database) (q : ℕ) (one : Write) → KeysRise writes → at q writes ≡ Some one → at q (overlay commit writes db) ≡ stored_by commit one.table one.image
at-written commit writes db q one rise is = at-overlay commit writes db q rise ∙ ap (λ w. newest commit w (at q db)) is
