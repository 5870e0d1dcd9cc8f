-- What is found in the last database with the writes: what they leave of it, and then what they have in a new version.
use Rattle.std.proofs.Common.{◌≡◌, ℕ, Bool, true, false, not, cond, ◌&&◌, ◌||◌, ◌==◌, List, [], ◌∷◌, ◌++◌, map, filter, Option, Some, None, is_none, option_map, refl, ap, ◌∙◌}
use Rattle.std.specs.List.{list_any}
use Rattle.std.proofs.lemmas.List.{map-append}
use Rattle.std.proofs.lemmas.List.Elements.{filter-append}
use Rattle.std.proofs.lemmas.List.Folds.{list_any-append}
use Rattle.aq_base.specs.Values.{Row}
use Rattle.aq_base.specs.Maps.{at}
use Rattle.aq_first_base.specs.Databases.{Database, Stored, has_key, rows_of}
use Rattle.aq_first_base.specs.Writes.{Write, Writes, overlay}
use Rattle.aq_first_base.proofs.Databases.{stored_by, newest, at-overlay}
use Rattle.aq_first_machine.specs.declared.writes.Write.{Write as Own_write}
use Rattle.aq_first_machine.specs.Versions.{write_entry, unwritten, write_has, image_has, is_new_in}
use Rattle.aq_first_machine.specs.Orders.{IsOrdered}
use Rattle.aq_first_machine.proofs.Overlays.{added, with_entry, overlay-parts}

list_any-added : (commit table : ℕ) (cols : List ℕ) (key : Row) (own : List Own_write)
    → list_any {X = ℕ × Stored} (λ entry. has_key table cols key entry.1) (added commit (map write_entry own)) ≡ list_any (write_has table cols key) own
list_any-added commit table cols key [] = refl
list_any-added commit table cols key (w ∷ own) = by_image w.image (list_any-added commit table cols key own)
  where
    has : ℕ × Stored → Bool
    has entry = has_key table cols key entry.1

    none : (b rest : Bool) → rest ≡ ((b && false) || rest)
    none true rest = refl
    none false rest = refl

    by_image : (image : Option Row) → list_any has (added commit (map write_entry own)) ≡ list_any (write_has table cols key) own
        → list_any has (with_entry w.row (stored_by commit w.table image) (added commit (map write_entry own))) ≡ ((w.table == table && image_has cols key image) || list_any (write_has table cols key) own)
    by_image None rest = rest ∙ none (w.table == table) (list_any (write_has table cols key) own)
    by_image (Some values) rest = ap (λ b. has (w.row, record { table = w.table; values = values; commit = commit }) || b) rest

-- a test of the rows that the transaction sees
pub list_any-view : (commit rows table : ℕ) (cols : List ℕ) (key : Row) (db : Database) (own : List Own_write) → IsOrdered db (map write_entry own) rows
    → list_any {X = ℕ × Stored} (λ entry. has_key table cols key entry.1) (overlay commit (map write_entry own) db)
    ≡ (list_any {X = ℕ × Stored} (λ entry. has_key table cols key entry.1) (unwritten (map write_entry own) db) || list_any (write_has table cols key) own)
list_any-view commit rows table cols key db own ordered =
    rw (overlay-parts commit rows db (map write_entry own) ordered, list_any-append, list_any-added commit table cols key own) refl

numbers-added : (commit table : ℕ) (own : List Own_write)
    → map (λ (entry : ℕ × Stored). entry.0) (rows_of table (added commit (map write_entry own))) ≡ map (λ (w : Own_write). w.row) (filter (is_new_in table) own)
numbers-added commit table [] = refl
numbers-added commit table (w ∷ own) = by_image w.image (numbers-added commit table own)
  where
    later : Database
    later = added commit (map write_entry own)

    new : List Own_write
    new = filter (is_new_in table) own

    numbers_of : Database → List ℕ
    numbers_of db = map (λ (entry : ℕ × Stored). entry.0) db

    without_it : (t : Bool) → numbers_of (rows_of table later) ≡ map (λ (w : Own_write). w.row) new → numbers_of (rows_of table later) ≡ map (λ (w : Own_write). w.row) (cond (t && false) (w ∷ new) new)
    without_it true rest = rest
    without_it false rest = rest

    with_it : (t : Bool) (stored : Stored) → numbers_of (rows_of table later) ≡ map (λ (w : Own_write). w.row) new
        → numbers_of (cond t ((w.row, stored) ∷ rows_of table later) (rows_of table later)) ≡ map (λ (w : Own_write). w.row) (cond (t && true) (w ∷ new) new)
    with_it true stored rest = ap (λ ns. w.row ∷ ns) rest
    with_it false stored rest = rest

    by_image : (image : Option Row) → numbers_of (rows_of table later) ≡ map (λ (w : Own_write). w.row) new
        → numbers_of (rows_of table (with_entry w.row (stored_by commit w.table image) later)) ≡ map (λ (w : Own_write). w.row) (cond (w.table == table && not (is_none image)) (w ∷ new) new)
    by_image None rest = without_it (w.table == table) rest
    by_image (Some values) rest = with_it (w.table == table) (record { table = w.table; values = values; commit = commit }) rest

-- the numbers of the rows of a table that the transaction sees
pub numbers-view : (commit rows table : ℕ) (db : Database) (own : List Own_write) → IsOrdered db (map write_entry own) rows
    → map (λ (entry : ℕ × Stored). entry.0) (rows_of table (overlay commit (map write_entry own) db))
    ≡ map (λ (entry : ℕ × Stored). entry.0) (rows_of table (unwritten (map write_entry own) db)) ++ map (λ (w : Own_write). w.row) (filter (is_new_in table) own)
numbers-view commit rows table db own ordered =
    ap (λ seen. map (λ (entry : ℕ × Stored). entry.0) (rows_of table seen)) (overlay-parts commit rows db (map write_entry own) ordered)
    ∙ ap (map (λ (entry : ℕ × Stored). entry.0)) (filter-append (λ (entry : ℕ × Stored). entry.1.table == table) (unwritten (map write_entry own) db) (added commit (map write_entry own)))
    ∙ map-append (λ (entry : ℕ × Stored). entry.0) (rows_of table (unwritten (map write_entry own) db)) (rows_of table (added commit (map write_entry own)))
    ∙ ap (λ ns. map (λ (entry : ℕ × Stored). entry.0) (rows_of table (unwritten (map write_entry own) db)) ++ ns) (numbers-added commit table own)

values_stored : (commit table : ℕ) (image : Option Row) → option_map (λ (stored : Stored). stored.values) (stored_by commit table image) ≡ image
values_stored commit table None = refl
values_stored commit table (Some values) = refl

-- a row that the transaction left
pub at-view_unwritten : (commit row rows : ℕ) (db : Database) (writes : Writes) → IsOrdered db writes rows → at row writes ≡ None → at row (overlay commit writes db) ≡ at row db
at-view_unwritten commit row rows db writes ordered none = at-overlay commit writes db row ordered.writes_rise ∙ ap (λ w. newest commit w (at row db)) none

-- a row that it wrote
pub at-view_written : (commit row rows : ℕ) (db : Database) (writes : Writes) (w : Write) → IsOrdered db writes rows → at row writes ≡ Some w
    → option_map (λ (stored : Stored). stored.values) (at row (overlay commit writes db)) ≡ w.image
at-view_written commit row rows db writes w ordered written =
    ap (option_map (λ (stored : Stored). stored.values)) (at-overlay commit writes db row ordered.writes_rise ∙ ap (λ w. newest commit w (at row db)) written) ∙ values_stored commit w.table w.image
