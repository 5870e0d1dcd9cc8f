-- Unique keys: they hold in what each work of a transaction shows, and no two transactions have written one key. What a change, and another
-- transaction's commit, leave of that.
use Rattle.std.proofs.Common.{◌≡◌, ◌≢◌, ℕ, true, not, List, [], ◌∷◌, Option, Some, None, Contains, refl, sym, ap, ◌∙◌, ⊎_elim, ◌⊎◌, inl, inr}
use Rattle.std.proofs.lemmas.Bool.{false≢true, cases_eq, and_parts, and_from}
use Rattle.std.proofs.lemmas.Option.{same_Some, none-some}
use Rattle.aq_base.specs.Values.{Row, is_null, same_value, same_values, values_match, keys_match, values_at, has_no_null}
use Rattle.aq_base.specs.declared.value.Value.{Value}
use Rattle.aq_base.specs.declared.value.Value.TheVariants.{Null, Bool as Truth, Int, Text}
use Rattle.aq_base.specs.declared.catalog.UniqueKey.{UniqueKey}
use Rattle.aq_base.proofs.Values.{keys_match-sym}
use Rattle.aq_base.specs.Maps.{at, with_at}
use Rattle.aq_base.proofs.Maps.{KeysRise, at-with_at_same, at-with_at_other}
use Rattle.aq_base.specs.Databases.{Database, Stored}
use Rattle.aq_base.specs.Writes.{Write, Writes, overlay}
use Rattle.aq_run.proofs.Views.{newest, stored_by, at-overlay}

-- ---- keys that match

values_match-full : (a b : Value) → values_match a b ≡ true → not (is_null a) ≡ true
values_match-full Null b same = absurd (false≢true same)
values_match-full (Truth a) b same = refl
values_match-full (Int n) b same = refl
values_match-full (Text t) b same = refl

-- a key that matches another one has no null
pub keys_match-full : (a b : Row) → keys_match a b ≡ true → has_no_null a ≡ true
keys_match-full [] b same = refl
keys_match-full (a ∷ as_) [] same = absurd (false≢true same)
keys_match-full (a ∷ as_) (b ∷ bs) same =
    let parts = and_parts (values_match a b) (keys_match as_ bs) same in and_from (not (is_null a)) (has_no_null as_) (values_match-full a b parts.0) (keys_match-full as_ bs parts.1)

value-matches : (a b : Value) → same_value a b ≡ true → not (is_null b) ≡ true → values_match a b ≡ true
value-matches Null b same full = absurd (false≢true (sym (ap not same) ∙ full))
value-matches (Truth a) b same full = same
value-matches (Int n) b same full = same
value-matches (Text t) b same full = same

-- the same values, without a null, match
pub same-matches : (a b : Row) → same_values a b ≡ true → has_no_null b ≡ true → keys_match a b ≡ true
same-matches [] [] same full = refl
same-matches [] (b ∷ bs) same full = absurd (false≢true same)
same-matches (a ∷ as_) [] same full = absurd (false≢true same)
same-matches (a ∷ as_) (b ∷ bs) same full =
    let parts = and_parts (same_value a b) (same_values as_ bs) same in
    let full_parts = and_parts (not (is_null b)) (has_no_null bs) full in
    and_from (values_match a b) (keys_match as_ bs) (value-matches a b parts.0 full_parts.0) (same-matches as_ bs parts.1 full_parts.1)

-- ---- what is shown of a row: its table and its values

abbrev pub image_shown : ℕ → Option Row → Option (ℕ × Row)
image_shown table None = None
image_shown table (Some values) = Some (table, values)

abbrev pub stored_shown : Option Stored → Option (ℕ × Row)
stored_shown None = None
stored_shown (Some stored) = Some (stored.table, stored.values)

abbrev pub shown_of : Option Write → Option Stored → Option (ℕ × Row)
shown_of None had = stored_shown had
shown_of (Some write) had = image_shown write.table write.image

-- by a transaction that has written these
abbrev pub row_in : Writes → Database → ℕ → Option (ℕ × Row)
row_in writes db row = shown_of (at row writes) (at row db)

shown-newest : (commit : ℕ) (write : Option Write) (had : Option Stored) → stored_shown (newest commit write had) ≡ shown_of write had
shown-newest commit None had = refl
shown-newest commit (Some write) had = shown-image write.image
  where
    shown-image : (image : Option Row) → stored_shown (stored_by commit write.table image) ≡ image_shown write.table image
    shown-image None = refl
    shown-image (Some values) = refl

-- it is what stands in the view
pub row_in-view : (commit : ℕ) (writes : Writes) (db : Database) (row : ℕ) → KeysRise writes → stored_shown (at row (overlay commit writes db)) ≡ row_in writes db row
row_in-view commit writes db row rise = ap stored_shown (at-overlay commit writes db row rise) ∙ shown-newest commit (at row writes) (at row db)

-- ---- what is said of keys

abbrev pub Keys_stand : List UniqueKey → Writes → Database → Type 0
Keys_stand keys writes db =
    (key : UniqueKey) → Contains keys key → (m n : ℕ) (v w : Row) → row_in writes db m ≡ Some (key.table, v) → row_in writes db n ≡ Some (key.table, w) →
    keys_match (values_at key.cols v) (values_at key.cols w) ≡ true → m ≡ n

-- no key of a version in the one stands in a version in the other
abbrev pub Keys_apart : List UniqueKey → Writes → Writes → Type 0
Keys_apart keys mine theirs =
    (key : UniqueKey) → Contains keys key → (m n : ℕ) (one other : Write) (v w : Row) → at m mine ≡ Some one → at n theirs ≡ Some other →
    one.table ≡ key.table → other.table ≡ key.table → one.image ≡ Some v → other.image ≡ Some w → keys_match (values_at key.cols v) (values_at key.cols w) ≡ true → ⊥

pub Keys_apart-either : (keys : List UniqueKey) (mine theirs : Writes) → Keys_apart keys mine theirs → Keys_apart keys theirs mine
Keys_apart-either keys mine theirs apart key c m n one other v w is there in_one in_other image image' same =
    apart key c n m other one w v there is in_other in_one image' image (keys_match-sym (values_at key.cols v) (values_at key.cols w) same)

pub Keys_apart-none : (keys : List UniqueKey) (theirs : Writes) → Keys_apart keys [] theirs
Keys_apart-none keys theirs key c m n one other v w is there in_one in_other image image' same = none-some one is

-- ---- a new version

-- a row shown after a change is the changed one, or as before
pub row_in-put : (writes : Writes) (db : Database) (row q : ℕ) (version : Write) (shown : ℕ × Row) → row_in (with_at row version writes) db q ≡ Some shown →
    ((q ≡ row) × (image_shown version.table version.image ≡ Some shown)) ⊎ ((q ≢ row) × (row_in writes db q ≡ Some shown))
row_in-put writes db row q version shown is =
    ⊎_elim
    (λ (same : q ≡ row).
    inl (same, sym (ap (λ found. shown_of found (at q db)) (ap (λ k. at k (with_at row version writes)) same ∙ at-with_at_same row version writes)) ∙ is))
    (λ (other : q ≢ row). inr (other, sym (ap (λ found. shown_of found (at q db)) (at-with_at_other q row version writes other)) ∙ is))
    (cases_eq q row)

pub image-is : (table : ℕ) (image : Option Row) (shown : ℕ × Row) → image_shown table image ≡ Some shown → (table ≡ shown.0) × (image ≡ Some shown.1)
image-is table None shown is = absurd (none-some shown is)
image-is table (Some values) shown is = let same : (table, values) ≡ shown = same_Some (table, values) shown is in (ap (λ p. p.0) same, ap (λ p. Some p.1) same)

-- what is asked of a new version: the row whose key of a table it has, if any, is that row itself, in its own view
abbrev pub New_alone : List UniqueKey → Writes → Database → ℕ → ℕ → Option Row → Type 0
New_alone keys writes db row table None = Unit {0}
New_alone keys writes db row table (Some new) =
    (key : UniqueKey) → Contains keys key → key.table ≡ table → (n : ℕ) (w : Row) → n ≢ row → row_in writes db n ≡ Some (key.table, w) → keys_match (values_at key.cols new) (values_at key.cols w) ≡ true → ⊥

new-alone : (keys : List UniqueKey) (writes : Writes) (db : Database) (row table : ℕ) (image : Option Row) (key : UniqueKey) (v w : Row) (n : ℕ) → Contains keys key → New_alone keys writes db row table image →
    (table ≡ key.table) × (image ≡ Some v) → n ≢ row → row_in writes db n ≡ Some (key.table, w) → keys_match (values_at key.cols v) (values_at key.cols w) ≡ true → ⊥
new-alone keys writes db row table None key v w n c alone is other there same = none-some v is.1
new-alone keys writes db row table (Some new) key v w n c alone is other there same =
    alone key c (sym is.0) n w other there (ap (λ values. keys_match (values_at key.cols values) (values_at key.cols w)) (same_Some new v is.1) ∙ same)

pub Keys_stand-put : (keys : List UniqueKey) (writes : Writes) (db : Database) (row : ℕ) (version : Write) → New_alone keys writes db row version.table version.image → Keys_stand keys writes db →
    Keys_stand keys (with_at row version writes) db
Keys_stand-put keys writes db row version alone stand key c m n v w is there same =
    ⊎_elim
    (λ (one : (m ≡ row) × (image_shown version.table version.image ≡ Some (key.table, v))).
    ⊎_elim (λ (other : (n ≡ row) × (image_shown version.table version.image ≡ Some (key.table, w))). one.0 ∙ sym other.0)
    (λ (other : (n ≢ row) × (row_in writes db n ≡ Some (key.table, w))).
    absurd (new-alone keys writes db row version.table version.image key v w n c alone (image-is version.table version.image (key.table, v) one.1) other.0 other.1 same))
    (row_in-put writes db row n version (key.table, w) there))
    (λ (one : (m ≢ row) × (row_in writes db m ≡ Some (key.table, v))).
    ⊎_elim
    (λ (other : (n ≡ row) × (image_shown version.table version.image ≡ Some (key.table, w))).
    absurd (new-alone keys writes db row version.table version.image key w v m c alone (image-is version.table version.image (key.table, w) other.1) one.0 one.1
    (keys_match-sym (values_at key.cols v) (values_at key.cols w) same)))
    (λ (other : (n ≢ row) × (row_in writes db n ≡ Some (key.table, w))). stand key c m n v w one.1 other.1 same)
    (row_in-put writes db row n version (key.table, w) there))
    (row_in-put writes db row m version (key.table, v) is)

-- against a work of another transaction: nobody else has written a key of the new version
abbrev pub New_apart : List UniqueKey → Writes → ℕ → Option Row → Type 0
New_apart keys theirs table None = Unit {0}
New_apart keys theirs table (Some new) =
    (key : UniqueKey) → Contains keys key → key.table ≡ table → (n : ℕ) (other : Write) (w : Row) → at n theirs ≡ Some other → other.table ≡ key.table → other.image ≡ Some w →
    keys_match (values_at key.cols new) (values_at key.cols w) ≡ true → ⊥

new-apart : (keys : List UniqueKey) (theirs : Writes) (table : ℕ) (image : Option Row) (key : UniqueKey) (v w : Row) (n : ℕ) (other : Write) → Contains keys key → New_apart keys theirs table image → table ≡ key.table →
    image ≡ Some v → at n theirs ≡ Some other → other.table ≡ key.table → other.image ≡ Some w → keys_match (values_at key.cols v) (values_at key.cols w) ≡ true → ⊥
new-apart keys theirs table None key v w n other c apart in_table image there in_other image' same = none-some v image
new-apart keys theirs table (Some new) key v w n other c apart in_table image there in_other image' same =
    apart key c (sym in_table) n other w there in_other image' (ap (λ values. keys_match (values_at key.cols values) (values_at key.cols w)) (same_Some new v image) ∙ same)

pub Keys_apart-put : (keys : List UniqueKey) (writes theirs : Writes) (row : ℕ) (version : Write) → New_apart keys theirs version.table version.image → Keys_apart keys writes theirs → Keys_apart keys (with_at row version writes) theirs
Keys_apart-put keys writes theirs row version apart were key c m n one other v w is there in_one in_other image image' same =
    ⊎_elim
    (λ (here : m ≡ row).
    let is_new : version ≡ one = same_Some version one (sym (ap (λ k. at k (with_at row version writes)) here ∙ at-with_at_same row version writes) ∙ is) in
    new-apart keys theirs version.table version.image key v w n other c apart (ap (λ write. write.table) is_new ∙ in_one) (ap (λ write. write.image) is_new ∙ image) there in_other image' same)
    (λ (elsewhere : m ≢ row). were key c m n one other v w (sym (at-with_at_other m row version writes elsewhere) ∙ is) there in_one in_other image image' same)
    (cases_eq m row)

-- ---- another transaction commits

-- a row of the next database that is shown is written by who commits, or was shown before
from_commit : (commit : ℕ) (committing : Writes) (db : Database) (row : ℕ) (shown : ℕ × Row) (found : Option Write) → KeysRise committing → at row committing ≡ found →
    stored_shown (at row (overlay commit committing db)) ≡ Some shown →
    ((write : Write) × (at row committing ≡ Some write) × (write.table ≡ shown.0) × (write.image ≡ Some shown.1)) ⊎ (stored_shown (at row db) ≡ Some shown)
from_commit commit committing db row shown None rise is there =
    inr (sym (ap (λ write. shown_of write (at row db)) is) ∙ sym (row_in-view commit committing db row rise) ∙ there)
from_commit commit committing db row shown (Some write) rise is there =
    let parts = image-is write.table write.image shown (sym (ap (λ one. shown_of one (at row db)) is) ∙ sym (row_in-view commit committing db row rise) ∙ there) in
    inl (write, is, parts.0, parts.1)

-- a row is shown by a version that is written, or as it was committed
by_write : (writes : Writes) (db : Database) (row : ℕ) (shown : ℕ × Row) (found : Option Write) → at row writes ≡ found → row_in writes db row ≡ Some shown →
    ((write : Write) × (at row writes ≡ Some write) × (write.table ≡ shown.0) × (write.image ≡ Some shown.1)) ⊎ ((at row writes ≡ None) × (stored_shown (at row db) ≡ Some shown))
by_write writes db row shown None is there = inr (is, sym (ap (λ write. shown_of write (at row db)) is) ∙ there)
by_write writes db row shown (Some write) is there =
    let parts = image-is write.table write.image shown (sym (ap (λ one. shown_of one (at row db)) is) ∙ there) in inl (write, is, parts.0, parts.1)

module _ (keys : List UniqueKey) (commit : ℕ) (committing theirs : Writes) (db : Database) (rise : KeysRise committing)
    (mine_stand : Keys_stand keys committing db) (apart : Keys_apart keys committing theirs) (stand : Keys_stand keys theirs db) where
  abbrev next : Database
  next = overlay commit committing db

  as_written : (row : ℕ) (shown : ℕ × Row) (write : Write) → at row theirs ≡ Some write → write.table ≡ shown.0 → write.image ≡ Some shown.1 → row_in theirs db row ≡ Some shown
  as_written row shown write is in_table image =
      ap (λ found. shown_of found (at row db)) is ∙ ap (image_shown write.table) image ∙ ap (λ table. Some (table, shown.1)) in_table

  as_stored : (row : ℕ) (shown : ℕ × Row) → at row theirs ≡ None → stored_shown (at row db) ≡ Some shown → row_in theirs db row ≡ Some shown
  as_stored row shown none was = ap (λ found. shown_of found (at row db)) none ∙ was

  -- one is written by the transaction that goes on, the other isn't
  mixed-pair : (key : UniqueKey) → Contains keys key → (m n : ℕ) (v w : Row) (write : Write) → at m theirs ≡ Some write → write.table ≡ key.table → write.image ≡ Some v → at n theirs ≡ None →
      stored_shown (at n next) ≡ Some (key.table, w) → keys_match (values_at key.cols v) (values_at key.cols w) ≡ true → m ≡ n
  mixed-pair key c m n v w write is in_table image none there same =
      ⊎_elim
      (λ (written : (other : Write) × (at n committing ≡ Some other) × (other.table ≡ key.table) × (other.image ≡ Some w)).
      absurd (apart key c n m written.0 write w v written.1 is written.2 in_table written.3 image (keys_match-sym (values_at key.cols v) (values_at key.cols w) same)))
      (λ (was : stored_shown (at n db) ≡ Some (key.table, w)).
      stand key c m n v w (as_written m (key.table, v) write is in_table image) (as_stored n (key.table, w) none was) same)
      (from_commit commit committing db n (key.table, w) (at n committing) rise refl there)

  pub Keys_stand-commit : Keys_stand keys theirs next
  Keys_stand-commit key c m n v w is there same =
      ⊎_elim
      (λ (one : (write : Write) × (at m theirs ≡ Some write) × (write.table ≡ key.table) × (write.image ≡ Some v)).
      ⊎_elim
      (λ (other : (write : Write) × (at n theirs ≡ Some write) × (write.table ≡ key.table) × (write.image ≡ Some w)).
      stand key c m n v w (as_written m (key.table, v) one.0 one.1 one.2 one.3) (as_written n (key.table, w) other.0 other.1 other.2 other.3) same)
      (λ (other : (at n theirs ≡ None) × (stored_shown (at n next) ≡ Some (key.table, w))). mixed-pair key c m n v w one.0 one.1 one.2 one.3 other.0 other.1 same)
      (by_write theirs next n (key.table, w) (at n theirs) refl there))
      (λ (one : (at m theirs ≡ None) × (stored_shown (at m next) ≡ Some (key.table, v))).
      ⊎_elim
      (λ (other : (write : Write) × (at n theirs ≡ Some write) × (write.table ≡ key.table) × (write.image ≡ Some w)).
      sym (mixed-pair key c n m w v other.0 other.1 other.2 other.3 one.0 one.1 (keys_match-sym (values_at key.cols v) (values_at key.cols w) same)))
      (λ (other : (at n theirs ≡ None) × (stored_shown (at n next) ≡ Some (key.table, w))).
      mine_stand key c m n v w (sym (row_in-view commit committing db m rise) ∙ one.1) (sym (row_in-view commit committing db n rise) ∙ other.1) same)
      (by_write theirs next n (key.table, w) (at n theirs) refl there))
      (by_write theirs next m (key.table, v) (at m theirs) refl is)

-- the next database itself keeps the keys
pub Keys_stand-next : (keys : List UniqueKey) (commit : ℕ) (committing : Writes) (db : Database) → KeysRise committing → Keys_stand keys committing db → Keys_stand keys [] (overlay commit committing db)
Keys_stand-next keys commit committing db rise stand key c m n v w is there same =
    stand key c m n v w (sym (row_in-view commit committing db m rise) ∙ is) (sym (row_in-view commit committing db n rise) ∙ there) same
