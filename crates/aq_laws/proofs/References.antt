-- References: which child rows of a work refer to a parent, what accounts for each, and that another transaction's commit leaves that so.
use Rattle.std.proofs.Common.{◌≡◌, ℕ, true, List, [], ◌∷◌, Option, Some, None, Contains, refl, sym, ap, ◌∙◌, subst, ⊎_elim, ◌⊎◌, drop}
use Rattle.std.specs.Prelude.{slice_get, unwrap_or}
use Rattle.std.proofs.lemmas.Bool.{and_parts, and_from}
use Rattle.std.proofs.lemmas.Option.{same_Some, none-some}
use Rattle.aq_base.specs.Values.{Row, values_match, keys_match, values_at}
use Rattle.aq_base.specs.declared.value.Value.{Value}
use Rattle.aq_base.specs.declared.value.Value.TheVariants.{Null}
use Rattle.aq_base.specs.declared.catalog.UniqueKey.{UniqueKey}
use Rattle.aq_base.specs.declared.catalog.ForeignKey.{ForeignKey}
use Rattle.aq_base.specs.declared.data.LockMode.TheVariants.{Update, KeyShare}
use Rattle.aq_base.proofs.Values.{keys_match-same}
use Rattle.aq_base.proofs.Lists.{Contains-none, Contains-first, Contains-later, Contains-cons_cases}
use Rattle.aq_base.specs.References.{is_reference}
use Rattle.aq_base.specs.Maps.{at}
use Rattle.aq_base.proofs.Maps.{KeysRise}
use Rattle.aq_base.specs.Databases.{Database, Stored}
use Rattle.aq_base.specs.Writes.{Write, Writes, overlay}
use Rattle.aq_base.specs.LockModes.{Holdings}
use Rattle.aq_run.proofs.Views.{at-unwritten}
use Rattle.aq_run.proofs.Copies_fit.{Holds}
use Rattle.aq_run.proofs.Written_apart.{Apart_writes}
use Rattle.aq_laws.proofs.Keys.{stored_shown, shown_of, image_shown, row_in, row_in-view, Keys_stand}

-- ---- values at columns

abbrev cell : Row → ℕ → Value
cell row col = unwrap_or (slice_get row col) Null

match-at : (cols : List ℕ) (v w : Row) (col : ℕ) → keys_match (values_at cols v) (values_at cols w) ≡ true → Contains cols col → values_match (cell v col) (cell w col) ≡ true
match-at [] v w col same c = absurd (Contains-none col c)
match-at (one ∷ cols) v w col same c =
    let parts = and_parts (values_match (cell v one) (cell w one)) (keys_match (values_at cols v) (values_at cols w)) same in
    ⊎_elim (λ (first : one ≡ col). subst (λ n. values_match (cell v n) (cell w n) ≡ true) first parts.0) (λ later. match-at cols v w col parts.1 later) (Contains-cons_cases one col cols c)

-- keys that match at some columns match at those among them
pub cols-match : (cols more : List ℕ) (v w : Row) → ((col : ℕ) → Contains cols col → Contains more col) → keys_match (values_at more v) (values_at more w) ≡ true → keys_match (values_at cols v) (values_at cols w) ≡ true
cols-match [] more v w among same = refl
cols-match (col ∷ cols) more v w among same =
    and_from (values_match (cell v col) (cell w col)) (keys_match (values_at cols v) (values_at cols w)) (match-at more v w col same (among col (Contains-first col cols)))
    (cols-match cols more v w (λ n c. among n (Contains-later col n cols c)) same)

equal-at : (cols : List ℕ) (v w : Row) (col : ℕ) → values_at cols v ≡ values_at cols w → Contains cols col → cell v col ≡ cell w col
equal-at [] v w col same c = absurd (Contains-none col c)
equal-at (one ∷ cols) v w col same c =
    ⊎_elim (λ (first : one ≡ col). subst (λ n. cell v n ≡ cell w n) first (ap (λ row. cell row 0) same)) (λ later. equal-at cols v w col (ap (drop 1) same) later) (Contains-cons_cases one col cols c)

pub cols-equal : (cols more : List ℕ) (v w : Row) → ((col : ℕ) → Contains cols col → Contains more col) → values_at more v ≡ values_at more w → values_at cols v ≡ values_at cols w
cols-equal [] more v w among same = refl
cols-equal (col ∷ cols) more v w among same =
    ap (λ value. value ∷ values_at cols v) (equal-at more v w col same (among col (Contains-first col cols))) ∙
    ap (λ row. cell w col ∷ row) (cols-equal cols more v w (λ n c. among n (Contains-later col n cols c)) same)

-- ---- what is said of references

-- a row of the child table refers to a parent by this key
pub record Refers (f : ForeignKey) (writes : Writes) (db : Database) (child : ℕ) (key : Row) : Type 0 where
  pub values : Row
  pub shown : row_in writes db child ≡ Some (f.child, values)
  pub key_is : values_at f.child_cols values ≡ key
  pub refers : is_reference f.full key ≡ true

-- a row of the parent table has the key
pub record Covers (f : ForeignKey) (writes : Writes) (db : Database) (parent : ℕ) (key : Row) : Type 0 where
  pub values : Row
  pub shown : row_in writes db parent ≡ Some (f.parent, values)
  pub matches : keys_match (values_at f.parent_cols values) key ≡ true

pub record Covered (f : ForeignKey) (writes : Writes) (db : Database) (key : Row) : Type 0 where
  pub parent : ℕ
  pub covers : Covers f writes db parent key

-- Each reference has a parent; or its check is to come, or an event or an action of its former parent.
pub data Accounted (f : ForeignKey) (writes : Writes) (db : Database) (Waits : ℕ → Type 0) (Owed : Row → ℕ → Type 0) (child : ℕ) (key : Row) : Type 0 where
  By_parent : Covered f writes db key → Accounted f writes db Waits Owed child key
  By_check : Waits child → Accounted f writes db Waits Owed child key
  By_action : Owed key child → Accounted f writes db Waits Owed child key

-- A child that was checked has a parent that nobody else takes away: one that the transaction has written, or holds; or it has the key that it
-- was committed with.
pub data Safe (f : ForeignKey) (writes : Writes) (holdings : Holdings) (db : Database) (Waits : ℕ → Type 0) (Owed : Row → ℕ → Type 0) (child : ℕ) (key : Row) : Type 0 where
  Written_parent : (parent : ℕ) (one : Write) → at parent writes ≡ Some one → Covers f writes db parent key → Safe f writes holdings db Waits Owed child key
  Held_parent : (parent : ℕ) → Holds parent KeyShare holdings → Covers f writes db parent key → Safe f writes holdings db Waits Owed child key
  As_committed : (values : Row) → stored_shown (at child db) ≡ Some (f.child, values) → values_at f.child_cols values ≡ key → Safe f writes holdings db Waits Owed child key
  To_be_checked : Waits child → Safe f writes holdings db Waits Owed child key
  To_be_acted_on : Owed key child → Safe f writes holdings db Waits Owed child key

pub record References_stand (f : ForeignKey) (writes : Writes) (holdings : Holdings) (db : Database) (Waits : ℕ → Type 0) (Owed : Row → ℕ → Type 0) : Type 0 where
  pub accounted : (child : ℕ) (key : Row) → Refers f writes db child key → Accounted f writes db Waits Owed child key
  pub safe : (child : ℕ) (key : Row) (one : Write) → at child writes ≡ Some one → Refers f writes db child key → Safe f writes holdings db Waits Owed child key

-- every reference of a database has its parent
abbrev pub References_hold : ForeignKey → Database → Type 0
References_hold f db = (child : ℕ) (key : Row) → Refers f [] db child key → Covered f [] db key

-- ---- what a catalog gives: the parent columns are those of a unique key

pub record Is_backed (keys : List UniqueKey) (f : ForeignKey) : Type 0 where
  pub key : UniqueKey
  pub among : Contains keys key
  pub table : key.table ≡ f.parent
  pub there : (col : ℕ) → Contains f.parent_cols col → Contains key.cols col
  pub back : (col : ℕ) → Contains key.cols col → Contains f.parent_cols col

-- two parents of one key are one row
pub one-parent : (keys : List UniqueKey) (f : ForeignKey) (writes : Writes) (db : Database) (p q : ℕ) (key : Row) → Is_backed keys f → Keys_stand keys writes db → Covers f writes db p key → Covers f writes db q key → p ≡ q
one-parent keys f writes db p q key backed stand one other =
    let same : keys_match (values_at f.parent_cols one.values) (values_at f.parent_cols other.values) ≡ true =
    ap (keys_match (values_at f.parent_cols one.values)) (keys_match-same (values_at f.parent_cols other.values) key other.matches) ∙ one.matches in
    stand backed.key backed.among p q one.values other.values (one.shown ∙ ap (λ t. Some (t, one.values)) (sym backed.table)) (other.shown ∙ ap (λ t. Some (t, other.values)) (sym backed.table))
    (cols-match backed.key.cols f.parent_cols one.values other.values backed.back same)

-- ---- what holds of a written row: its keys are as committed, or it is held in UPDATE

pub record Same_keys (keys : List UniqueKey) (stored : Stored) (one : Write) : Type 0 where
  pub values : Row
  pub image : one.image ≡ Some values
  pub table : one.table ≡ stored.table
  pub same : (key : UniqueKey) → Contains keys key → key.table ≡ stored.table → values_at key.cols values ≡ values_at key.cols stored.values

abbrev pub Keys_guarded : List UniqueKey → Database → Writes → Holdings → Type 0
Keys_guarded keys db writes holdings = (row : ℕ) (one : Write) (stored : Stored) → at row writes ≡ Some one → at row db ≡ Some stored → Holds row Update holdings ⊎ Same_keys keys stored one

-- ---- rows that are shown

pub unwritten-row : (writes : Writes) (db : Database) (row : ℕ) → at row writes ≡ None → row_in writes db row ≡ stored_shown (at row db)
unwritten-row writes db row none = ap (λ write. shown_of write (at row db)) none

written-row : (writes : Writes) (db next : Database) (row : ℕ) (one : Write) → at row writes ≡ Some one → row_in writes db row ≡ row_in writes next row
written-row writes db next row one is = ap (λ write. shown_of write (at row db)) is ∙ sym (ap (λ write. shown_of write (at row next)) is)

pub move-covers : (f : ForeignKey) (writes more : Writes) (db next : Database) (row : ℕ) (key : Row) → row_in writes db row ≡ row_in more next row → Covers f writes db row key → Covers f more next row key
move-covers f writes more db next row key same covers = record { values = covers.values; shown = sym same ∙ covers.shown; matches = covers.matches }

pub move-refers : (f : ForeignKey) (writes more : Writes) (db next : Database) (row : ℕ) (key : Row) → row_in writes db row ≡ row_in more next row → Refers f writes db row key → Refers f more next row key
move-refers f writes more db next row key same refers = record { values = refers.values; shown = sym same ∙ refers.shown; key_is = refers.key_is; refers = refers.refers }

-- the stored row of a shown one
pub shown-stored : (found : Option Stored) (table : ℕ) (values : Row) → stored_shown found ≡ Some (table, values) → (stored : Stored) × (found ≡ Some stored) × (stored.table ≡ table) × (stored.values ≡ values)
shown-stored None table values is = absurd (none-some (table, values) is)
shown-stored (Some stored) table values is =
    let same : (stored.table, stored.values) ≡ (table, values) = same_Some (stored.table, stored.values) (table, values) is in (stored, refl, ap (λ p. p.0) same, ap (λ p. p.1) same)

-- a parent that a transaction has written without holding it in UPDATE has its key still
pub kept-key : (keys : List UniqueKey) (f : ForeignKey) (writes : Writes) (holdings : Holdings) (db next : Database) (row : ℕ) (key : Row) (one : Write) → Is_backed keys f → Keys_guarded keys db writes holdings →
    (Holds row Update holdings → ⊥) → at row writes ≡ Some one → Covers f [] db row key → Covers f writes next row key
kept-key keys f writes holdings db next row key one backed guarded free is covers =
    let found = shown-stored (at row db) f.parent covers.values covers.shown in
    ⊎_elim (λ (held : Holds row Update holdings). absurd (free held))
    (λ (same : Same_keys keys found.0 one).
    let at_key : values_at backed.key.cols same.values ≡ values_at backed.key.cols found.0.values = same.same backed.key backed.among (backed.table ∙ sym found.2) in
    let at_parent : values_at f.parent_cols same.values ≡ values_at f.parent_cols covers.values =
    cols-equal f.parent_cols backed.key.cols same.values found.0.values backed.there at_key ∙ ap (values_at f.parent_cols) found.3 in
    record {
      values = same.values;
      shown = ap (λ write. shown_of write (at row next)) is ∙ ap (image_shown one.table) same.image ∙ ap (λ t. Some (t, same.values)) (same.table ∙ found.2);
      matches = ap (λ k. keys_match k key) at_parent ∙ covers.matches;
    })
    (guarded row one found.0 is found.1)

-- ---- another transaction commits, with no event left

module _ (keys : List UniqueKey) (f : ForeignKey) (backed : Is_backed keys f) (commit : ℕ) (db : Database) (committing : Writes) (their_holdings : Holdings) (rise : KeysRise committing)
    (holding : References_hold f db) (unique : Keys_stand keys [] db) (their_keys : Keys_stand keys committing db) (their_guard : Keys_guarded keys db committing their_holdings)
    (theirs : References_stand f committing their_holdings db (λ child. ⊥) (λ key child. ⊥)) where
  abbrev next : Database
  next = overlay commit committing db

  -- what the transaction that commits shows is what it commits
  shown-next : (row : ℕ) → row_in [] next row ≡ row_in committing db row
  shown-next row = row_in-view commit committing db row rise

  untouched-row : (row : ℕ) → at row committing ≡ None → at row next ≡ at row db
  untouched-row row none = at-unwritten commit committing db row rise none

  covered-accounted : (child : ℕ) (key : Row) → Accounted f committing db (λ child. ⊥) (λ key child. ⊥) child key → Covered f committing db key
  covered-accounted child key (By_parent covered) = covered
  covered-accounted child key (By_check none) = absurd none
  covered-accounted child key (By_action none) = absurd none

  -- the next database satisfies the foreign key
  pub references-next : References_hold f next
  references-next child key refers =
      let covered : Covered f committing db key = covered-accounted child key (theirs.accounted child key (move-refers f [] committing next db child key (shown-next child) refers)) in
      record { parent = covered.parent; covers = move-covers f committing [] db next covered.parent key (sym (shown-next covered.parent)) covered.covers }

  module _ (writes : Writes) (holdings : Holdings) (Waits : ℕ → Type 0) (Owed : Row → ℕ → Type 0) (apart : Apart_writes writes committing) (mine_keys : Keys_stand keys writes db)
      (mine_guard : Keys_guarded keys db writes holdings) (mine : References_stand f writes holdings db Waits Owed) (mine_free : (row : ℕ) → Holds row KeyShare holdings → Holds row Update their_holdings → ⊥)
      (their_free : (row : ℕ) → Holds row KeyShare their_holdings → Holds row Update holdings → ⊥) where
    abbrev Is_accounted : ℕ → Row → Type 0
    Is_accounted child key = Accounted f writes next Waits Owed child key

    by_parent : (parent child : ℕ) (key : Row) → Covers f writes next parent key → Is_accounted child key
    by_parent parent child key covers = By_parent (record { parent = parent; covers = covers })

    -- what I have written nobody else has
    not-theirs : (row : ℕ) (one : Write) → at row writes ≡ Some one → (found : Option Write) → at row committing ≡ found → at row committing ≡ None
    not-theirs row one is None found = found
    not-theirs row one is (Some other) found = absurd (apart row one other is found)

    not-mine : (row : ℕ) (other : Write) → at row committing ≡ Some other → (found : Option Write) → at row writes ≡ found → at row writes ≡ None
    not-mine row other is None found = found
    not-mine row other is (Some one) found = absurd (apart row one other found is)

    -- a parent that I haven't written and nobody has changed is shown as before
    stays-shown : (row : ℕ) → at row writes ≡ None → at row committing ≡ None → row_in writes db row ≡ row_in writes next row
    stays-shown row none none' = unwritten-row writes db row none ∙ sym (ap stored_shown (untouched-row row none')) ∙ sym (unwritten-row writes next row none)

    -- one that I hold keeps its key
    held-stays : (row : ℕ) (key : Row) → Holds row KeyShare holdings → Covers f writes db row key → (mine_found : Option Write) → at row writes ≡ mine_found → (found : Option Write) → at row committing ≡ found →
        Covers f writes next row key
    held-stays row key held covers (Some one) is found there = move-covers f writes writes db next row key (written-row writes db next row one is) covers
    held-stays row key held covers None none None there = move-covers f writes writes db next row key (stays-shown row none there) covers
    held-stays row key held covers None none (Some other) there =
        let in_db : Covers f [] db row key = move-covers f writes [] db db row key (unwritten-row writes db row none) covers in
        let in_theirs : Covers f committing db row key = kept-key keys f committing their_holdings db db row key other backed their_guard (λ update. mine_free row held update) there in_db in
        move-covers f committing writes db next row key (sym (shown-next row) ∙ sym (unwritten-row writes next row none)) in_theirs

    -- a parent of the next database
    from-next : (child parent : ℕ) (key : Row) → Covers f [] next parent key → at parent writes ≡ None → Is_accounted child key
    from-next child parent key covers none = by_parent parent child key (move-covers f [] writes next next parent key (sym (unwritten-row writes next parent none)) covers)

    -- where I have written the parent that the next database has for a key, that parent was there before, and no other one
    one-before : (p q : ℕ) (key : Row) (one : Write) → at q writes ≡ Some one → Covers f [] next q key → Covers f [] db p key → p ≡ q
    one-before p q key one is covers was =
        one-parent keys f [] db p q key backed unique was (move-covers f [] [] next db q key (ap stored_shown (untouched-row q (not-theirs q one is (at q committing) refl))) covers)

    -- ---- a child that I have written

    as-committed : (child parent : ℕ) (key : Row) (one : Write) (values : Row) → at child writes ≡ Some one → is_reference f.full key ≡ true → stored_shown (at child db) ≡ Some (f.child, values) →
        values_at f.child_cols values ≡ key → at parent writes ≡ None → Covers f writes db parent key → Is_accounted child key
    as-committed child parent key one values is refers shown key_is none covers =
        let again : Refers f [] next child key =
        record { values = values; shown = ap stored_shown (untouched-row child (not-theirs child one is (at child committing) refl)) ∙ shown; key_is = key_is; refers = refers } in
        let covered : Covered f [] next key = references-next child key again in
        by_writer covered (at covered.parent writes) refl
      where
        by_writer : (covered : Covered f [] next key) (found : Option Write) → at covered.parent writes ≡ found → Is_accounted child key
        by_writer covered None found = from-next child covered.parent key covered.covers found
        by_writer covered (Some other) found =
            let same : parent ≡ covered.parent =
            one-before parent covered.parent key other found covered.covers (move-covers f writes [] db db parent key (unwritten-row writes db parent none) covers) in
            absurd (none-some other (sym none ∙ ap (λ k. at k writes) same ∙ found))

    -- its parent is one that the other transaction has changed
    by-safety : (child parent : ℕ) (key : Row) (one : Write) → at child writes ≡ Some one → is_reference f.full key ≡ true → at parent writes ≡ None → Covers f writes db parent key → Safe f writes holdings db Waits Owed child key →
        Is_accounted child key
    by-safety child parent key one is refers none covers (Written_parent p two there covers') =
        let same : p ≡ parent = one-parent keys f writes db p parent key backed mine_keys covers' covers in absurd (none-some two (sym none ∙ ap (λ k. at k writes) (sym same) ∙ there))
    by-safety child parent key one is refers none covers (Held_parent p held covers') = by_parent p child key (held-stays p key held covers' (at p writes) refl (at p committing) refl)
    by-safety child parent key one is refers none covers (As_committed values shown key_is) = as-committed child parent key one values is refers shown key_is none covers
    by-safety child parent key one is refers none covers (To_be_checked waits) = By_check waits
    by-safety child parent key one is refers none covers (To_be_acted_on owed) = By_action owed

    by-old-parent : (child parent : ℕ) (key : Row) (one : Write) → at child writes ≡ Some one → is_reference f.full key ≡ true → Safe f writes holdings db Waits Owed child key → Covers f writes db parent key →
        (mine_found : Option Write) → at parent writes ≡ mine_found → (found : Option Write) → at parent committing ≡ found → Is_accounted child key
    by-old-parent child parent key one is refers safe covers (Some two) there found also = by_parent parent child key (move-covers f writes writes db next parent key (written-row writes db next parent two there) covers)
    by-old-parent child parent key one is refers safe covers None none None also = by_parent parent child key (move-covers f writes writes db next parent key (stays-shown parent none also) covers)
    by-old-parent child parent key one is refers safe covers None none (Some other) also = by-safety child parent key one is refers none covers safe

    written-child : (child : ℕ) (key : Row) (one : Write) → at child writes ≡ Some one → is_reference f.full key ≡ true → Safe f writes holdings db Waits Owed child key → Accounted f writes db Waits Owed child key → Is_accounted child key
    written-child child key one is refers safe (By_parent covered) =
        by-old-parent child covered.parent key one is refers safe covered.covers (at covered.parent writes) refl (at covered.parent committing) refl
    written-child child key one is refers safe (By_check waits) = By_check waits
    written-child child key one is refers safe (By_action owed) = By_action owed

    -- ---- a child that I haven't written, whose parent in the next database I have written

    -- it referred before
    was-there : (child parent : ℕ) (key : Row) (two : Write) → at child writes ≡ None → at parent writes ≡ Some two → Covers f [] next parent key → Refers f [] db child key → Accounted f writes db Waits Owed child key →
        Is_accounted child key
    was-there child parent key two none there covers refers (By_check waits) = By_check waits
    was-there child parent key two none there covers refers (By_action owed) = By_action owed
    was-there child parent key two none there covers refers (By_parent covered) = by_writer (at covered.parent writes) refl
      where
        by_writer : (found : Option Write) → at covered.parent writes ≡ found → Is_accounted child key
        by_writer (Some three) found = by_parent covered.parent child key (move-covers f writes writes db next covered.parent key (written-row writes db next covered.parent three found) covered.covers)
        by_writer None found =
            let same : covered.parent ≡ parent =
            one-before covered.parent parent key two there covers (move-covers f writes [] db db covered.parent key (unwritten-row writes db covered.parent found) covered.covers) in
            absurd (none-some two (sym found ∙ ap (λ k. at k writes) same ∙ there))

    before : (child parent : ℕ) (key : Row) (two : Write) → at child writes ≡ None → at parent writes ≡ Some two → Covers f [] next parent key → Refers f [] db child key → Is_accounted child key
    before child parent key two none there covers refers =
        was-there child parent key two none there covers refers (mine.accounted child key (move-refers f [] writes db db child key (sym (unwritten-row writes db child none)) refers))

    -- the other transaction has changed it
    by-their-safety : (child parent : ℕ) (key : Row) (two : Write) → at child writes ≡ None → at parent writes ≡ Some two → Covers f [] next parent key → is_reference f.full key ≡ true →
        Safe f committing their_holdings db (λ child. ⊥) (λ key child. ⊥) child key → Is_accounted child key
    by-their-safety child parent key two none there covers refers (Written_parent p three also covers') =
        let same : p ≡ parent = one-parent keys f committing db p parent key backed their_keys covers' (move-covers f [] committing next db parent key (shown-next parent) covers) in
        absurd (apart p two three (ap (λ k. at k writes) same ∙ there) also)
    by-their-safety child parent key two none there covers refers (Held_parent p held covers') =
        let same : p ≡ parent = one-parent keys f committing db p parent key backed their_keys covers' (move-covers f [] committing next db parent key (shown-next parent) covers) in
        let in_db : Covers f [] db parent key =
        move-covers f [] [] next db parent key (ap stored_shown (untouched-row parent (not-theirs parent two there (at parent committing) refl))) covers in
        by_parent parent child key
        (kept-key keys f writes holdings db next parent key two backed mine_guard (λ update. their_free parent (subst (λ k. Holds k KeyShare their_holdings) same held) update) there in_db)
    by-their-safety child parent key two none there covers refers (As_committed values shown key_is) =
        before child parent key two none there covers (record { values = values; shown = shown; key_is = key_is; refers = refers })
    by-their-safety child parent key two none there covers refers (To_be_checked none') = absurd none'
    by-their-safety child parent key two none there covers refers (To_be_acted_on none') = absurd none'

    by-their-write : (child parent : ℕ) (key : Row) (two : Write) → at child writes ≡ None → at parent writes ≡ Some two → Covers f [] next parent key → Refers f [] next child key → (found : Option Write) →
        at child committing ≡ found → Is_accounted child key
    by-their-write child parent key two none there covers refers None found =
        before child parent key two none there covers (move-refers f [] [] next db child key (ap stored_shown (untouched-row child found)) refers)
    by-their-write child parent key two none there covers refers (Some three) found =
        by-their-safety child parent key two none there covers refers.refers (theirs.safe child key three found (move-refers f [] committing next db child key (shown-next child) refers))

    unwritten-child : (child : ℕ) (key : Row) → at child writes ≡ None → Refers f [] next child key → Is_accounted child key
    unwritten-child child key none refers = by_writer (references-next child key refers)
      where
        by_mine : (covered : Covered f [] next key) (found : Option Write) → at covered.parent writes ≡ found → Is_accounted child key
        by_mine covered None found = from-next child covered.parent key covered.covers found
        by_mine covered (Some two) found = by-their-write child covered.parent key two none found covered.covers refers (at child committing) refl

        by_writer : Covered f [] next key → Is_accounted child key
        by_writer covered = by_mine covered (at covered.parent writes) refl

    -- ---- both parts

    accounted-next : (child : ℕ) (key : Row) → Refers f writes next child key → (found : Option Write) → at child writes ≡ found → Is_accounted child key
    accounted-next child key refers (Some one) is =
        let was : Refers f writes db child key = move-refers f writes writes next db child key (sym (written-row writes db next child one is)) refers in
        written-child child key one is refers.refers (mine.safe child key one is was) (mine.accounted child key was)
    accounted-next child key refers None none = unwritten-child child key none (move-refers f writes [] next next child key (unwritten-row writes next child none) refers)

    safe-next : (child : ℕ) (key : Row) (one : Write) → at child writes ≡ Some one → Safe f writes holdings db Waits Owed child key → Safe f writes holdings next Waits Owed child key
    safe-next child key one is (Written_parent p two there covers) = Written_parent p two there (move-covers f writes writes db next p key (written-row writes db next p two there) covers)
    safe-next child key one is (Held_parent p held covers) = Held_parent p held (held-stays p key held covers (at p writes) refl (at p committing) refl)
    safe-next child key one is (As_committed values shown key_is) =
        As_committed values (ap stored_shown (untouched-row child (not-theirs child one is (at child committing) refl)) ∙ shown) key_is
    safe-next child key one is (To_be_checked waits) = To_be_checked waits
    safe-next child key one is (To_be_acted_on owed) = To_be_acted_on owed

    -- another session's commit leaves it true
    pub references-after : References_stand f writes holdings next Waits Owed
    references-after =
        record {
          accounted = λ child key refers. accounted-next child key refers (at child writes) refl;
          safe = λ child key one is refers.
              safe-next child key one is (mine.safe child key one is (move-refers f writes writes next db child key (sym (written-row writes db next child one is)) refers));
        }
