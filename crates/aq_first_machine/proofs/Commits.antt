-- A commit: what its writes leave of the last database stands, the rest of it is deleted, and what they have in a new version joins it.
use Rattle.std.proofs.Common.{◌≡◌, ℕ, zero, suc, ◌+◌, ◌<◌, Bool, true, false, not, ◌&&◌, cond, List, [], ◌∷◌, ◌++◌, map, filter, length, nat_le, Option, Some, None, is_some, refl, ap, subst, sym, ◌∙◌, arith}
use Rattle.std.proofs.lemmas.Bool.Decides.{nat_tests}
use Rattle.std.proofs.lemmas.List.{map-append}
use Rattle.std.proofs.lemmas.List.Elements.{filter-append}
use Rattle.std.proofs.lemmas.Bool.{false≢true}
use Rattle.aq_base.specs.Values.{Row}
use Rattle.aq_first_base.specs.Databases.{Database}
use Rattle.aq_first_base.specs.Writes.{Writes, overlay}
use Rattle.aq_first_base.proofs.Databases.{stored_by}
use Rattle.aq_first_run.specs.States.{last_of}
use Rattle.aq_first_machine.specs.declared.world.Version.{Version}
use Rattle.aq_first_machine.specs.declared.writes.Write.{Write as Own_write}
use Rattle.aq_first_machine.specs.Versions.{stored_entry, write_entry, stands_at, is_standing, database_at, databases, IsWithin, IsCommitted, AreCommitted, is_unwritten, unwritten, deleted_if, with_deletion, version_made, versions_made}
use Rattle.aq_first_machine.specs.Orders.{IsOrdered}
use Rattle.aq_first_machine.proofs.Histories.{all_standing, last_database-all, length-databases}
use Rattle.aq_first_machine.proofs.Overlays.{added, with_entry, overlay-parts}

-- ---- earlier databases stay

abbrev deleted_versions : ℕ → Writes → List Version → List Version
deleted_versions commit writes versions = map (with_deletion commit writes) versions

late : (m n : ℕ) → m < n → nat_le n m ≡ false
late m n below = grind (arith, nat_tests)

none_made : (m n : ℕ) (own : List Own_write) → m < n → filter (stands_at m) (versions_made n own) ≡ []
none_made m n [] below = refl
none_made m n (w ∷ own) below = by_image w.image (none_made m n own below)
  where
    by_image : (image : Option Row) → filter (stands_at m) (versions_made n own) ≡ [] → filter (stands_at m) (version_made n w image ++ versions_made n own) ≡ []
    by_image None rest = rest
    by_image (Some values) rest = rw (late m n below) rest

-- a version that is deleted later stood until then
stood : (m n : ℕ) (v : Version) (deleted : Option ℕ) (u : Bool) → m < n
    → stands_at m (deleted_if n (not (is_some deleted) && u) (record v { deleted = deleted })) ≡ stands_at m (record v { deleted = deleted })
stood m n v None true below = rw (late m n below) refl
stood m n v None false below = refl
stood m n v (Some d) u below = refl

same_entry : (n : ℕ) (b : Bool) (v : Version) → stored_entry (deleted_if n b v) ≡ stored_entry v
same_entry n true v = refl
same_entry n false v = refl

kept_entry : (b c : Bool) (v w : Version) (xs ys : List Version) → b ≡ c → stored_entry v ≡ stored_entry w → map stored_entry xs ≡ map stored_entry ys
    → map stored_entry (cond b (v ∷ xs) xs) ≡ map stored_entry (cond c (w ∷ ys) ys)
kept_entry true true v w xs ys same entry rest = λ i. entry i ∷ rest i
kept_entry true false v w xs ys same entry rest = absurd (false≢true (sym same))
kept_entry false true v w xs ys same entry rest = absurd (false≢true same)
kept_entry false false v w xs ys same entry rest = rest

database_at-later : (m n : ℕ) (writes : Writes) (versions : List Version) (own : List Own_write) → m < n
    → database_at m (deleted_versions n writes versions ++ versions_made n own) ≡ database_at m versions
database_at-later m n writes [] own below = ap (map stored_entry) (none_made m n own below)
database_at-later m n writes (v ∷ versions) own below =
    kept_entry _ _ (with_deletion n writes v) v _ _ (stood m n v v.deleted (not (is_unwritten writes v.row)) below) (same_entry n (is_standing v && not (is_unwritten writes v.row)) v)
    (database_at-later m n writes versions own below)

databases-later : (m n : ℕ) (writes : Writes) (versions : List Version) (own : List Own_write) → m < n
    → databases m (deleted_versions n writes versions ++ versions_made n own) ≡ databases m versions
unfolding databases
databases-later zero n writes versions own below = ap (λ db. db ∷ []) (database_at-later zero n writes versions own below)
databases-later (suc m) n writes versions own below =
    let earlier : databases m (deleted_versions n writes versions ++ versions_made n own) ≡ databases m versions = databases-later m n writes versions own (omega (arith, below)) in
    let now : database_at (suc m) (deleted_versions n writes versions ++ versions_made n own) ≡ database_at (suc m) versions = database_at-later (suc m) n writes versions own below in
    λ i. earlier i ++ now i ∷ []

-- ---- all of it is committed

within_later : (n : ℕ) (deleted : Option ℕ) → IsWithin n deleted → IsWithin (suc n) deleted
within_later n None within = tt
within_later n (Some d) within = omega (arith, within)

committed_deleted : (n : ℕ) (b : Bool) (v : Version) → IsCommitted n v → IsCommitted (suc n) (deleted_if (suc n) b v)
committed_deleted n true v committed = (omega (arith, committed.0), omega arith)
committed_deleted n false v committed = (omega (arith, committed.0), within_later n v.deleted committed.1)

all_made : (n : ℕ) (own : List Own_write) → AreCommitted n (versions_made n own)
all_made n [] = tt
all_made n (w ∷ own) = by_image w.image (all_made n own)
  where
    by_image : (image : Option Row) → AreCommitted n (versions_made n own) → AreCommitted n (version_made n w image ++ versions_made n own)
    by_image None rest = rest
    by_image (Some values) rest = ((omega arith, tt), rest)

all_next : (n : ℕ) (writes : Writes) (versions : List Version) (own : List Own_write) → AreCommitted n versions
    → AreCommitted (suc n) (deleted_versions (suc n) writes versions ++ versions_made (suc n) own)
all_next n writes [] own all = all_made (suc n) own
all_next n writes (v ∷ versions) own all = (committed_deleted n (is_standing v && not (is_unwritten writes v.row)) v all.0, all_next n writes versions own all.1)

-- ---- the next database

standing_made : (n : ℕ) (own : List Own_write) → map stored_entry (filter is_standing (versions_made n own)) ≡ added n (map write_entry own)
standing_made n [] = refl
standing_made n (w ∷ own) = by_image w.image (standing_made n own)
  where
    by_image : (image : Option Row) → map stored_entry (filter is_standing (versions_made n own)) ≡ added n (map write_entry own)
        → map stored_entry (filter is_standing (version_made n w image ++ versions_made n own)) ≡ with_entry w.row (stored_by n w.table image) (added n (map write_entry own))
    by_image None rest = rest
    by_image (Some values) rest = ap (λ es. (w.row, record { table = w.table; values = values; commit = n }) ∷ es) rest

standing_left : (n : ℕ) (writes : Writes) (versions : List Version) → map stored_entry (filter is_standing (deleted_versions n writes versions)) ≡ unwritten writes (map stored_entry (filter is_standing versions))
standing_left n writes [] = refl
standing_left n writes (v ∷ versions) = by_deletion v.deleted (is_unwritten writes v.row) (standing_left n writes versions) ∙ by_standing (is_standing v)
  where
    later : List Version
    later = filter is_standing (deleted_versions n writes versions)

    rest_of : Database
    rest_of = unwritten writes (map stored_entry (filter is_standing versions))

    own : Option ℕ → Version
    own deleted = record v { deleted = deleted }

    by_written : (u : Bool) → map stored_entry later ≡ rest_of
        → map stored_entry (cond (is_standing (deleted_if n (true && not u) (own None))) (deleted_if n (true && not u) (own None) ∷ later) later) ≡ cond u (stored_entry v ∷ rest_of) rest_of
    by_written true rest = ap (λ es. stored_entry v ∷ es) rest
    by_written false rest = rest

    by_deletion : (deleted : Option ℕ) (u : Bool) → map stored_entry later ≡ rest_of
        → map stored_entry (cond (is_standing (deleted_if n (not (is_some deleted) && not u) (own deleted))) (deleted_if n (not (is_some deleted) && not u) (own deleted) ∷ later) later)
        ≡ cond (not (is_some deleted)) (cond u (stored_entry v ∷ rest_of) rest_of) rest_of
    by_deletion None u rest = by_written u rest
    by_deletion (Some d) u rest = rest

    by_standing : (s : Bool) → cond s (cond (is_unwritten writes v.row) (stored_entry v ∷ rest_of) rest_of) rest_of
        ≡ unwritten writes (map stored_entry (cond s (v ∷ filter is_standing versions) (filter is_standing versions)))
    by_standing true = refl
    by_standing false = refl

database-next : (n rows : ℕ) (versions : List Version) (own : List Own_write) → AreCommitted n versions → IsOrdered (last_of (databases n versions)) (map write_entry own) rows
    → database_at (suc n) (deleted_versions (suc n) (map write_entry own) versions ++ versions_made (suc n) own) ≡ overlay (suc n) (map write_entry own) (last_of (databases n versions))
database-next n rows versions own all ordered =
    let writes = map write_entry own in
    let split : map stored_entry (filter is_standing (deleted_versions (suc n) writes versions ++ versions_made (suc n) own))
    ≡ map stored_entry (filter is_standing (deleted_versions (suc n) writes versions)) ++ map stored_entry (filter is_standing (versions_made (suc n) own)) =
    ap (map stored_entry) (filter-append is_standing (deleted_versions (suc n) writes versions) (versions_made (suc n) own)) ∙ map-append stored_entry _ _ in
    let left : map stored_entry (filter is_standing (deleted_versions (suc n) writes versions)) ≡ unwritten writes (last_of (databases n versions)) =
    standing_left (suc n) writes versions ∙ ap (unwritten writes) (sym (last_database-all n versions all)) in
    ap (map stored_entry) (all_standing (suc n) _ (all_next n writes versions own all)) ∙ split ∙ (λ i. left i ++ standing_made (suc n) own i)
    ∙ sym (overlay-parts (suc n) rows (last_of (databases n versions)) writes ordered)

-- what the history is after a commit
pub committed-history : (n commit rows : ℕ) (versions : List Version) (own : List Own_write) → commit ≡ n + 1 → AreCommitted n versions
    → IsOrdered (last_of (databases n versions)) (map write_entry own) rows
    → databases commit (map (with_deletion commit (map write_entry own)) versions ++ versions_made commit own)
    ≡ databases n versions ++ overlay (length (databases n versions)) (map write_entry own) (last_of (databases n versions)) ∷ []
unfolding databases
committed-history n commit rows versions own next all ordered =
    let is : commit ≡ suc n = next ∙ omega arith in
    let counted : length (databases n versions) ≡ suc n = length-databases n versions ∙ omega arith in
    let earlier : databases n (map (with_deletion (suc n) (map write_entry own)) versions ++ versions_made (suc n) own) ≡ databases n versions = databases-later n (suc n) (map write_entry own) versions own (omega arith) in
    let now = database-next n rows versions own all ordered in
    ap (λ c. databases c (map (with_deletion c (map write_entry own)) versions ++ versions_made c own)) is ∙ (λ i. earlier i ++ now i ∷ [])
    ∙ ap (λ c. databases n versions ++ overlay c (map write_entry own) (last_of (databases n versions)) ∷ []) (sym counted)

pub committed-all : (n commit : ℕ) (versions : List Version) (own : List Own_write) → commit ≡ n + 1 → AreCommitted n versions
    → AreCommitted commit (map (with_deletion commit (map write_entry own)) versions ++ versions_made commit own)
committed-all n commit versions own next all =
    let is : commit ≡ suc n = next ∙ omega arith in
    subst (λ c. AreCommitted c (map (with_deletion c (map write_entry own)) versions ++ versions_made c own)) (sym is) (all_next n (map write_entry own) versions own all)
