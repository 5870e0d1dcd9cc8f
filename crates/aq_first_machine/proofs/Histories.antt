-- The history of committed versions.
use Rattle.std.proofs.Common.{◌≡◌, ℕ, zero, suc, ◌+◌, ◌≤◌, false, true, Bool, ◌&&◌, List, [], ◌∷◌, ◌++◌, map, length, filter, refl, ap, ◌∙◌, ◌==◌, cond, arith, length-append, ◌||◌, Option, Some, None, is_none}
use Rattle.std.proofs.lemmas.Bool.{le-leb}
use Rattle.std.specs.List.{list_any}
use Rattle.aq_base.specs.Values.{Row, keys_match, values_at}
use Rattle.aq_first_base.specs.Databases.{Database, Stored, has_key, rows_of}
use Rattle.aq_first_base.specs.Writes.{Writes}
use Rattle.aq_first_run.specs.States.{last_of}
use Rattle.aq_first_machine.specs.declared.world.Version.{Version}
use Rattle.aq_first_machine.specs.Versions.{stored_entry, stands_at, is_standing, database_at, databases, IsCommitted, AreCommitted, is_unwritten, unwritten, has_left, is_left}

pub last_of-push : (xs : List Database) (y : Database) → last_of (xs ++ y ∷ []) ≡ y
last_of-push [] y = refl
last_of-push (x ∷ []) y = refl
last_of-push (x ∷ next ∷ xs) y = last_of-push (next ∷ xs) y

last_of-databases : (n : ℕ) (versions : List Version) → last_of (databases n versions) ≡ database_at n versions
unfolding databases
last_of-databases zero versions = refl
last_of-databases (suc n) versions = last_of-push (databases n versions) _

-- what a last commit made stands by then, if it was not deleted
standing_by : (n : ℕ) (v : Version) (deleted : Option ℕ) → v.commit ≤ n → IsCommitted n (record v { deleted = deleted }) → stands_at n (record v { deleted = deleted }) ≡ is_none deleted
standing_by n v None within committed = ap (λ b. b && true) (le-leb v.commit n within)
standing_by n v (Some d) within committed = rw (le-leb v.commit n within, le-leb d n committed.1) refl

pub all_standing : (n : ℕ) (versions : List Version) → AreCommitted n versions → filter (stands_at n) versions ≡ filter is_standing versions
all_standing n [] all = refl
all_standing n (v ∷ versions) all = rw (standing_by n v v.deleted all.0.0 all.0, all_standing n versions all.1) refl

-- the last database has all versions that stand
pub last_database-all : (n : ℕ) (versions : List Version) → AreCommitted n versions → last_of (databases n versions) ≡ map stored_entry (filter is_standing versions)
last_database-all n versions all = last_of-databases n versions ∙ ap (map stored_entry) (all_standing n versions all)

pub length-databases : (n : ℕ) (versions : List Version) → length (databases n versions) ≡ n + 1
unfolding databases
length-databases zero versions = refl
length-databases (suc n) versions = grind (arith, length-append {A = Database}, length-databases n versions)

-- ---- what a row number and a test find among the standing versions

list_any-tested : (b u any : Bool) → ((b && u) || any) ≡ cond u (b || any) any
list_any-tested true true any = refl
list_any-tested true false any = refl
list_any-tested false true any = refl
list_any-tested false false any = refl

list_any-cond : (has : ℕ × Stored → Bool) (u : Bool) (e : ℕ × Stored) (later : Database) → cond u (has e || list_any has later) (list_any has later) ≡ list_any has (cond u (e ∷ later) later)
list_any-cond has true e later = refl
list_any-cond has false e later = refl

-- a test of the rows that the writes leave, made on the versions
pub list_any-left : (writes : Writes) (table : ℕ) (cols : List ℕ) (key : Row) (versions : List Version)
    → list_any (has_left writes table cols key) versions ≡ list_any {X = ℕ × Stored} (λ entry. has_key table cols key entry.1) (unwritten writes (map stored_entry (filter is_standing versions)))
list_any-left writes table cols key [] = refl
list_any-left writes table cols key (v ∷ versions) = by_standing (is_standing v) (list_any-left writes table cols key versions)
  where
    has : ℕ × Stored → Bool
    has entry = has_key table cols key entry.1

    later : Database
    later = unwritten writes (map stored_entry (filter is_standing versions))

    by_standing : (s : Bool) → list_any (has_left writes table cols key) versions ≡ list_any has later
        → ((((s && v.table == table) && keys_match (values_at cols v.values) key) && is_unwritten writes v.row) || list_any (has_left writes table cols key) versions)
        ≡ list_any has (unwritten writes (map stored_entry (cond s (v ∷ filter is_standing versions) (filter is_standing versions))))
    by_standing false rest = rest
    by_standing true rest =
        ap (λ b. (has (stored_entry v) && is_unwritten writes v.row) || b) rest ∙ list_any-tested (has (stored_entry v)) (is_unwritten writes v.row) (list_any has later)
        ∙ list_any-cond has (is_unwritten writes v.row) (stored_entry v) later

-- the numbers of the rows of a table that the writes leave
pub numbers-left : (writes : Writes) (table : ℕ) (versions : List Version)
    → map (λ (v : Version). v.row) (filter (is_left writes table) versions) ≡ map (λ (entry : ℕ × Stored). entry.0) (rows_of table (unwritten writes (map stored_entry (filter is_standing versions))))
numbers-left writes table [] = refl
numbers-left writes table (v ∷ versions) = by_standing (is_standing v) (numbers-left writes table versions)
  where
    left : List Version
    left = filter (is_left writes table) versions

    later : Database
    later = unwritten writes (map stored_entry (filter is_standing versions))

    numbers_of : Database → List ℕ
    numbers_of db = map (λ (entry : ℕ × Stored). entry.0) db

    by_table : (t : Bool) → map (λ (v : Version). v.row) left ≡ numbers_of (rows_of table later)
        → map (λ (v : Version). v.row) (cond (t && true) (v ∷ left) left) ≡ numbers_of (cond t (stored_entry v ∷ rows_of table later) (rows_of table later))
    by_table true rest = ap (λ ns. v.row ∷ ns) rest
    by_table false rest = rest

    without_it : (t : Bool) → map (λ (v : Version). v.row) left ≡ numbers_of (rows_of table later)
        → map (λ (v : Version). v.row) (cond (t && false) (v ∷ left) left) ≡ numbers_of (rows_of table later)
    without_it true rest = rest
    without_it false rest = rest

    by_written : (u : Bool) → map (λ (v : Version). v.row) left ≡ numbers_of (rows_of table later)
        → map (λ (v : Version). v.row) (cond ((v.table == table) && u) (v ∷ left) left) ≡ numbers_of (rows_of table (cond u (stored_entry v ∷ later) later))
    by_written true rest = by_table (v.table == table) rest
    by_written false rest = without_it (v.table == table) rest

    by_standing : (s : Bool) → map (λ (v : Version). v.row) left ≡ numbers_of (rows_of table later)
        → map (λ (v : Version). v.row) (cond ((s && v.table == table) && is_unwritten writes v.row) (v ∷ left) left)
        ≡ numbers_of (rows_of table (unwritten writes (map stored_entry (cond s (v ∷ filter is_standing versions) (filter is_standing versions)))))
    by_standing false rest = rest
    by_standing true rest = by_written (is_unwritten writes v.row) rest
