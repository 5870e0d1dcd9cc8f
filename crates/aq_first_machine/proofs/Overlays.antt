-- A database with a transaction's writes: what they leave of it, and then the rows that they have in a new version.
use Rattle.std.proofs.Common.{◌≡◌, ◌≢◌, ℕ, ◌<◌, ◌⊎◌, inl, inr, Bool, true, false, cond, T, ◌&&◌, List, [], ◌∷◌, ◌++◌, Option, Some, None, nat_cmp, refl, sym, ap, subst, ◌∙◌, eqb-true, is_some, is_none}
use Rattle.std.specs.Ordering.{is_lt, is_eq}
use Rattle.std.specs.Cmp.{nat_cmp_is, unsigned_tied}
use Rattle.std.specs.declared.cmp.Ordering.TheVariants.{Less}
use Rattle.std.specs.FinMap.{nat_cmp-IsAntisymmetric}
use Rattle.std.specs.FinMap.Entries.{below_all, find-where_key, is_sorted-where_key, same_entries}
use Rattle.std.proofs.lemmas.Cmp.{nat_cmp_total}
use Rattle.std.proofs.lemmas.Bool.{cases_eq}
use Rattle.std.proofs.lemmas.Option.{none-some}
use Rattle.aq_base.specs.Values.{Row}
use Rattle.aq_base.specs.Maps.{at}
use Rattle.aq_first_base.specs.Databases.{Database, Stored}
use Rattle.aq_first_base.specs.Writes.{Write, Writes, overlay}
use Rattle.aq_base.proofs.Maps.{KeysRise, at-first, at-rest, at-first_alone, KeysRise-rest}
use Rattle.aq_first_base.proofs.Databases.{stored_by, newest, KeysRise-overlay, at-overlay}
use Rattle.aq_first_machine.specs.Versions.{is_unwritten, unwritten}
use Rattle.aq_first_machine.specs.Orders.{IsOrdered}

-- ---- two maps, one behind the other

abbrev pub first_of : {X : Type 0} → Option X → Option X → Option X
first_of None other = other
first_of (Some x) other = Some x

pub at-append : {X : Type 0} (q : ℕ) (xs ys : List (ℕ × X)) → at q (xs ++ ys) ≡ first_of (at q xs) (at q ys)
at-append q [] ys = refl
at-append q (e ∷ xs) ys = by_key (is_eq (nat_cmp q e.0)) (at-append q xs ys)
  where
    by_key : (b : Bool) → at q (xs ++ ys) ≡ first_of (at q xs) (at q ys) → cond b (Some e.1) (at q (xs ++ ys)) ≡ first_of (cond b (Some e.1) (at q xs)) (at q ys)
    by_key true rest = refl
    by_key false rest = rest

both : (a b : Bool) → T a → T b → T (a && b)
both true b p q = q
both false b p q = absurd p

parts : (a b : Bool) → T (a && b) → T a × T b
parts true true is = (tt, tt)
parts true false is = absurd is
parts false b is = absurd is

is_below : (m n : ℕ) → m < n → T (is_lt (nat_cmp m n))
is_below m n less = subst (λ r. T (is_lt r)) (nat_cmp_is m n Less less) tt

at-later : {X : Type 0} (q : ℕ) (entry : ℕ × X) (entries : List (ℕ × X)) (x : X) → KeysRise (entry ∷ entries) → at q entries ≡ Some x → at q (entry ∷ entries) ≡ Some x
at-later q entry entries x rise is = at-rest q entry entries (λ same. none-some x (sym (at-first_alone entry entries rise) ∙ ap (λ k. at k entries) (sym same) ∙ is)) ∙ is

below_all-from : {X : Type 0} (n : ℕ) (entries : List (ℕ × X)) → KeysRise entries → ((q : ℕ) (x : X) → at q entries ≡ Some x → n < q) → T (below_all nat_cmp n entries)
below_all-from n [] rise above = tt
below_all-from n (entry ∷ entries) rise above =
    both _ _ (is_below n entry.0 (above entry.0 entry.1 (at-first entry entries)))
    (below_all-from n entries (KeysRise-rest entry entries rise) (λ q x is. above q x (at-later q entry entries x rise is)))

below_all-append : {X : Type 0} (n : ℕ) (xs ys : List (ℕ × X)) → T (below_all nat_cmp n xs) → T (below_all nat_cmp n ys) → T (below_all nat_cmp n (xs ++ ys))
below_all-append n [] ys first later = later
below_all-append n (e ∷ xs) ys first later = let is = parts _ _ first in both _ _ is.0 (below_all-append n xs ys is.1 later)

KeysRise-append : {X : Type 0} (xs ys : List (ℕ × X)) → KeysRise xs → KeysRise ys
    → ((m n : ℕ) (x y : X) → at m xs ≡ Some x → at n ys ≡ Some y → m < n) → KeysRise (xs ++ ys)
KeysRise-append [] ys rise_first rise_later apart_ = rise_later
KeysRise-append (e ∷ xs) ys rise_first rise_later apart_ =
    both _ _ (below_all-append e.0 xs ys (parts _ _ rise_first).0 (below_all-from e.0 ys rise_later (λ n y is. apart_ e.0 n e.1 y (at-first e xs) is)))
    (KeysRise-append xs ys (parts _ _ rise_first).1 rise_later (λ m n x y is_first is_later. apart_ m n x y (at-later m e xs x rise_first is_first) is_later))

-- ---- what the writes leave, and what they add

pub at-unwritten : (q : ℕ) (writes : Writes) (db : Database) → at q (unwritten writes db) ≡ cond (is_unwritten writes q) (at q db) None
at-unwritten q writes db =
    find-where_key nat_cmp (is_unwritten writes) q (λ x tied. ap (is_unwritten writes) (sym (eqb-true q x (sym (unsigned_tied q x) ∙ ap is_eq tied)))) db

abbrev pub with_entry : ℕ → Option Stored → Database → Database
with_entry row None db = db
with_entry row (Some stored) db = (row, stored) ∷ db

-- the rows that the writes have in a new version
abbrev pub added : ℕ → Writes → Database
added commit [] = []
added commit (entry ∷ writes) = with_entry entry.0 (stored_by commit entry.1.table entry.1.image) (added commit writes)

at-with_entry_same : (row : ℕ) (stored : Option Stored) (db : Database) → at row db ≡ None → at row (with_entry row stored db) ≡ stored
at-with_entry_same row None db none = none
at-with_entry_same row (Some stored) db none = at-first (row, stored) db

at-with_entry_other : (q row : ℕ) (stored : Option Stored) (db : Database) → q ≢ row → at q (with_entry row stored db) ≡ at q db
at-with_entry_other q row None db other = refl
at-with_entry_other q row (Some stored) db other = at-rest q (row, stored) db other

pub at-added : (commit : ℕ) (writes : Writes) (q : ℕ) → KeysRise writes → at q (added commit writes) ≡ newest commit (at q writes) None
at-added commit [] q rise = refl
at-added commit (entry ∷ writes) q rise = by_key (cases_eq q entry.0) (at-added commit writes q (KeysRise-rest entry writes rise))
  where
    stored : Option Stored
    stored = stored_by commit entry.1.table entry.1.image

    by_key : (q ≡ entry.0) ⊎ (q ≢ entry.0) → at q (added commit writes) ≡ newest commit (at q writes) None
        → at q (with_entry entry.0 stored (added commit writes)) ≡ newest commit (at q (entry ∷ writes)) None
    by_key (inl same) rest =
        let gone : at q writes ≡ None = ap (λ k. at k writes) same ∙ at-first_alone entry writes rise in
        let none : at q (added commit writes) ≡ None = rest ∙ ap (λ w. newest commit w None) gone in
        let here : at q (with_entry entry.0 stored (added commit writes)) ≡ stored =
        ap (λ k. at k (with_entry entry.0 stored (added commit writes))) same ∙ at-with_entry_same entry.0 stored (added commit writes) (ap (λ k. at k (added commit writes)) (sym same) ∙ none) in
        here ∙ sym (ap (λ w. newest commit w None) (ap (λ k. at k (entry ∷ writes)) same ∙ at-first entry writes))
    by_key (inr other) rest =
        at-with_entry_other q entry.0 stored (added commit writes) other ∙ rest ∙ sym (ap (λ w. newest commit w None) (at-rest q entry writes other))

below_all-with_entry : (n row : ℕ) (stored : Option Stored) (db : Database) → T (is_lt (nat_cmp n row)) → T (below_all nat_cmp n db) → T (below_all nat_cmp n (with_entry row stored db))
below_all-with_entry n row None db first later = later
below_all-with_entry n row (Some stored) db first later = both _ _ first later

below_all-added : (n commit : ℕ) (writes : Writes) → T (below_all nat_cmp n writes) → T (below_all nat_cmp n (added commit writes))
below_all-added n commit [] below = tt
below_all-added n commit (entry ∷ writes) below =
    below_all-with_entry n entry.0 (stored_by commit entry.1.table entry.1.image) (added commit writes) (parts _ _ below).0 (below_all-added n commit writes (parts _ _ below).1)

KeysRise-with_entry : (row : ℕ) (stored : Option Stored) (db : Database) → T (below_all nat_cmp row db) → KeysRise db → KeysRise (with_entry row stored db)
KeysRise-with_entry row None db below rise = rise
KeysRise-with_entry row (Some stored) db below rise = both _ _ below rise

KeysRise-added : (commit : ℕ) (writes : Writes) → KeysRise writes → KeysRise (added commit writes)
KeysRise-added commit [] rise = tt
KeysRise-added commit (entry ∷ writes) rise =
    KeysRise-with_entry entry.0 (stored_by commit entry.1.table entry.1.image) (added commit writes) (below_all-added entry.0 commit writes (parts _ _ rise).0) (KeysRise-added commit writes (parts _ _ rise).1)

-- a row that is left was there
left_was : (b : Bool) (had : Option Stored) (stored : Stored) → cond b had None ≡ Some stored → had ≡ Some stored
left_was true had stored is = is
left_was false had stored is = absurd (none-some stored is)

stored_by-some : (commit table : ℕ) (image : Option Row) (stored : Stored) → stored_by commit table image ≡ Some stored → is_some image ≡ true
stored_by-some commit table None stored is = absurd (none-some stored is)
stored_by-some commit table (Some values) stored is = refl

-- a row that is added was written
added_is : (commit : ℕ) (write : Option Write) (stored : Stored) → newest commit write None ≡ Some stored → (w : Write) × (write ≡ Some w) × (is_some w.image ≡ true)
added_is commit None stored is = absurd (none-some stored is)
added_is commit (Some w) stored is = (w, refl, stored_by-some commit w.table w.image stored is)

newest-first : (commit : ℕ) (write : Option Write) (had : Option Stored) → first_of (cond (is_none write) had None) (newest commit write None) ≡ newest commit write had
newest-first commit None None = refl
newest-first commit None (Some stored) = refl
newest-first commit (Some w) had = refl

left_below : (commit rows : ℕ) (db : Database) (writes : Writes) → IsOrdered db writes rows
    → (m n : ℕ) (x y : Stored) → at m (unwritten writes db) ≡ Some x → at n (added commit writes) ≡ Some y → m < n
left_below commit rows db writes ordered m n x y left is =
    let was = left_was (is_unwritten writes m) (at m db) x (sym (at-unwritten m writes db) ∙ left) in
    let written = added_is commit (at n writes) y (sym (at-added commit writes n ordered.writes_rise) ∙ is) in
    ordered.new_above n written.0 written.1 written.2 m x was

-- what the transaction sees is what its writes leave, and then the rows that they have in a new version
pub overlay-parts : (commit rows : ℕ) (db : Database) (writes : Writes) → IsOrdered db writes rows → overlay commit writes db ≡ unwritten writes db ++ added commit writes
overlay-parts commit rows db writes ordered =
    let left_rise : KeysRise (unwritten writes db) = is_sorted-where_key nat_cmp (is_unwritten writes) db ordered.rows_rise in
    let parts_rise : KeysRise (unwritten writes db ++ added commit writes) =
    KeysRise-append (unwritten writes db) (added commit writes) left_rise (KeysRise-added commit writes ordered.writes_rise) (left_below commit rows db writes ordered) in
    let alike : (q : ℕ) → at q (overlay commit writes db) ≡ at q (unwritten writes db ++ added commit writes) =
    λ q. at-overlay commit writes db q ordered.writes_rise
    ∙ sym (newest-first commit (at q writes) (at q db))
    ∙ sym (at-append q (unwritten writes db) (added commit writes) ∙ (λ i. first_of (at-unwritten q writes db i) (at-added commit writes q ordered.writes_rise i))) in
    same_entries nat_cmp nat_cmp_total nat_cmp-IsAntisymmetric (overlay commit writes db) (unwritten writes db ++ added commit writes) (KeysRise-overlay commit writes db ordered.rows_rise) parts_rise alike
