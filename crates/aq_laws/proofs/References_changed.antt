-- References in a transaction's own steps: a new version of a row, and events that have been done.
use Rattle.std.proofs.Common.{◌≡◌, ◌≢◌, ℕ, Some, None, sym, ap, ◌∙◌, subst, ⊎_elim, ◌⊎◌, inl}
use Rattle.std.proofs.lemmas.Bool.{cases_eq}
use Rattle.aq_base.specs.Values.{Row, values_at}
use Rattle.aq_base.specs.declared.catalog.ForeignKey.{ForeignKey}
use Rattle.aq_base.specs.declared.data.LockMode.TheVariants.{KeyShare}
use Rattle.aq_base.specs.Maps.{at, with_at}
use Rattle.aq_base.proofs.Maps.{at-with_at_same, at-with_at_other}
use Rattle.aq_base.specs.Databases.{Database}
use Rattle.aq_base.specs.Writes.{Write, Writes}
use Rattle.aq_base.specs.LockModes.{Holdings}
use Rattle.aq_run.proofs.Copies_fit.{Holds, Fits}
use Rattle.aq_run.proofs.Written.{Holds-fits}
use Rattle.aq_laws.proofs.Keys.{stored_shown, shown_of, row_in}
use Rattle.aq_laws.proofs.References.{Refers, Covers, Accounted, Safe, References_stand, unwritten-row, move-covers, move-refers}
use Rattle.aq_laws.proofs.References.Accounted.{By_parent, By_check, By_action}
use Rattle.aq_laws.proofs.References.Safe.{Written_parent, Held_parent, As_committed, To_be_checked, To_be_acted_on}

-- ---- a row gets a new version

-- The version refers to nothing, or its check is to come; or it is the first one, and has the key that was committed.
pub data New_child (f : ForeignKey) (writes : Writes) (db : Database) (Waits : ℕ → Type 0) (row : ℕ) (key : Row) : Type 0 where
  Checked_later : Waits row → New_child f writes db Waits row key
  Key_as_committed : (values : Row) → at row writes ≡ None → stored_shown (at row db) ≡ Some (f.child, values) → values_at f.child_cols values ≡ key → New_child f writes db Waits row key

module _ (f : ForeignKey) (writes : Writes) (holdings more : Holdings) (db : Database) (row : ℕ) (version : Write) (Waits Waits_after : ℕ → Type 0) (Owed Owed_after : Row → ℕ → Type 0) (fits : Fits holdings more) where
  abbrev after : Writes
  after = with_at row version writes

  -- what a change is asked for
  pub record Change_is_seen : Type 0 where
    -- the row as a child
    pub child : (key : Row) → Refers f after db row key → New_child f writes db Waits_after row key
    -- the row as a parent: it keeps the key, or what is owed to its children is to come
    pub parent : (key : Row) → Covers f writes db row key → Covers f after db row key ⊎ ((child : ℕ) → Owed_after key child)
    -- other events stay
    pub waits : (child : ℕ) → child ≢ row → Waits child → Waits_after child
    pub owed : (key : Row) (child : ℕ) → child ≢ row → Owed key child → Owed_after key child
    -- and those of a row with the key that was committed
    pub first_waits : at row writes ≡ None → Waits row → Waits_after row
    pub first_owed : (key : Row) → at row writes ≡ None → Refers f after db row key → Owed key row → Owed_after key row

  shown-after : at row after ≡ Some version
  shown-after = at-with_at_same row version writes

  same-row : (q : ℕ) → q ≢ row → row_in writes db q ≡ row_in after db q
  same-row q other = sym (ap (λ write. shown_of write (at q db)) (at-with_at_other q row version writes other))

  module _ (seen : Change_is_seen) (stand : References_stand f writes holdings db Waits Owed) where
    abbrev Is_accounted : ℕ → Row → Type 0
    Is_accounted child key = Accounted f after db Waits_after Owed_after child key

    abbrev Is_safe : ℕ → Row → Type 0
    Is_safe child key = Safe f after more db Waits_after Owed_after child key

    -- a parent covers still, or what is owed is to come
    covers-after : (p : ℕ) (key : Row) → Covers f writes db p key → Covers f after db p key ⊎ ((child : ℕ) → Owed_after key child)
    covers-after p key covers =
        ⊎_elim (λ (same : p ≡ row). subst (λ q. Covers f after db q key ⊎ ((child : ℕ) → Owed_after key child)) (sym same) (seen.parent key (subst (λ q. Covers f writes db q key) same covers)))
        (λ (other : p ≢ row). inl (move-covers f writes after db db p key (same-row p other) covers)) (cases_eq p row)

    by-old-parent : (child p : ℕ) (key : Row) → Covers f writes db p key → Is_accounted child key
    by-old-parent child p key covers =
        ⊎_elim (λ (still : Covers f after db p key). By_parent (record { parent = p; covers = still })) (λ (owed : (c : ℕ) → Owed_after key c). By_action (owed child)) (covers-after p key covers)

    other-accounted : (child : ℕ) (key : Row) → child ≢ row → Accounted f writes db Waits Owed child key → Is_accounted child key
    other-accounted child key other (By_parent covered) = by-old-parent child covered.parent key covered.covers
    other-accounted child key other (By_check waits) = By_check (seen.waits child other waits)
    other-accounted child key other (By_action owed) = By_action (seen.owed key child other owed)

    first-accounted : (key : Row) → at row writes ≡ None → Refers f after db row key → Accounted f writes db Waits Owed row key → Is_accounted row key
    first-accounted key none refers (By_parent covered) = by-old-parent row covered.parent key covered.covers
    first-accounted key none refers (By_check waits) = By_check (seen.first_waits none waits)
    first-accounted key none refers (By_action owed) = By_action (seen.first_owed key none refers owed)

    new-accounted : (key : Row) → Refers f after db row key → New_child f writes db Waits_after row key → Is_accounted row key
    new-accounted key refers (Checked_later waits) = By_check waits
    new-accounted key refers (Key_as_committed values none shown key_is) =
        first-accounted key none refers (stand.accounted row key (record { values = values; shown = unwritten-row writes db row none ∙ shown; key_is = key_is; refers = refers.refers }))

    accounted-after : (child : ℕ) (key : Row) → Refers f after db child key → Is_accounted child key
    accounted-after child key refers =
        ⊎_elim
        (λ (same : child ≡ row).
        let here : Refers f after db row key = subst (λ q. Refers f after db q key) same refers in
        subst (λ q. Is_accounted q key) (sym same) (new-accounted key here (seen.child key here)))
        (λ (other : child ≢ row). other-accounted child key other (stand.accounted child key (move-refers f after writes db db child key (sym (same-row child other)) refers)))
        (cases_eq child row)

    -- a parent that is written after the change
    written-after : (child p : ℕ) (key : Row) (two : Write) → at p writes ≡ Some two → Covers f after db p key → Is_safe child key
    written-after child p key two there covers =
        ⊎_elim (λ (same : p ≡ row). Written_parent p version (ap (λ k. at k after) same ∙ shown-after) covers) (λ (other : p ≢ row). Written_parent p two (at-with_at_other p row version writes other ∙ there) covers) (cases_eq p row)

    other-safe : (child : ℕ) (key : Row) → child ≢ row → Safe f writes holdings db Waits Owed child key → Is_safe child key
    other-safe child key other (Written_parent p two there covers) =
        ⊎_elim (λ (still : Covers f after db p key). written-after child p key two there still) (λ (owed : (c : ℕ) → Owed_after key c). To_be_acted_on (owed child)) (covers-after p key covers)
    other-safe child key other (Held_parent p held covers) =
        ⊎_elim (λ (still : Covers f after db p key). Held_parent p (Holds-fits p KeyShare holdings more fits held) still) (λ (owed : (c : ℕ) → Owed_after key c). To_be_acted_on (owed child)) (covers-after p key covers)
    other-safe child key other (As_committed values shown key_is) = As_committed values shown key_is
    other-safe child key other (To_be_checked waits) = To_be_checked (seen.waits child other waits)
    other-safe child key other (To_be_acted_on owed) = To_be_acted_on (seen.owed key child other owed)

    new-safe : (key : Row) → New_child f writes db Waits_after row key → Is_safe row key
    new-safe key (Checked_later waits) = To_be_checked waits
    new-safe key (Key_as_committed values none shown key_is) = As_committed values shown key_is

    safe-after : (child : ℕ) (key : Row) (one : Write) → at child after ≡ Some one → Refers f after db child key → Is_safe child key
    safe-after child key one is refers =
        ⊎_elim (λ (same : child ≡ row). subst (λ q. Is_safe q key) (sym same) (new-safe key (seen.child key (subst (λ q. Refers f after db q key) same refers))))
        (λ (other : child ≢ row).
        other-safe child key other (stand.safe child key one (sym (at-with_at_other child row version writes other) ∙ is) (move-refers f after writes db db child key (sym (same-row child other)) refers)))
        (cases_eq child row)

    pub references-changed : References_stand f after more db Waits_after Owed_after
    references-changed = record { accounted = accounted-after; safe = safe-after }

-- ---- locks are taken, events are done

-- the key has a parent that the transaction has written or holds
pub data Settled (f : ForeignKey) (writes : Writes) (holdings : Holdings) (db : Database) (key : Row) : Type 0 where
  By_written : (parent : ℕ) (one : Write) → at parent writes ≡ Some one → Covers f writes db parent key → Settled f writes holdings db key
  By_held : (parent : ℕ) → Holds parent KeyShare holdings → Covers f writes db parent key → Settled f writes holdings db key

settled-accounted : (f : ForeignKey) (writes : Writes) (holdings : Holdings) (db : Database) (Waits : ℕ → Type 0) (Owed : Row → ℕ → Type 0) (child : ℕ) (key : Row) → Settled f writes holdings db key → Accounted f writes db Waits Owed child key
settled-accounted f writes holdings db Waits Owed child key (By_written parent one there covers) = By_parent (record { parent = parent; covers = covers })
settled-accounted f writes holdings db Waits Owed child key (By_held parent held covers) = By_parent (record { parent = parent; covers = covers })

settled-safe : (f : ForeignKey) (writes : Writes) (holdings : Holdings) (db : Database) (Waits : ℕ → Type 0) (Owed : Row → ℕ → Type 0) (child : ℕ) (key : Row) → Settled f writes holdings db key → Safe f writes holdings db Waits Owed child key
settled-safe f writes holdings db Waits Owed child key (By_written parent one there covers) = Written_parent parent one there covers
settled-safe f writes holdings db Waits Owed child key (By_held parent held covers) = Held_parent parent held covers

module _ (f : ForeignKey) (writes : Writes) (holdings more : Holdings) (db : Database) (Waits Waits_after : ℕ → Type 0) (Owed Owed_after : Row → ℕ → Type 0) (fits : Fits holdings more)
    (waits : (child : ℕ) (key : Row) → Refers f writes db child key → Waits child → Waits_after child ⊎ Settled f writes more db key)
    (owed : (child : ℕ) (key : Row) → Refers f writes db child key → Owed key child → Owed_after key child ⊎ Settled f writes more db key) where
  accounted-done : (child : ℕ) (key : Row) → Refers f writes db child key → Accounted f writes db Waits Owed child key → Accounted f writes db Waits_after Owed_after child key
  accounted-done child key refers (By_parent covered) = By_parent covered
  accounted-done child key refers (By_check waiting) =
      ⊎_elim (λ (still : Waits_after child). By_check still) (λ (settled : Settled f writes more db key). settled-accounted f writes more db Waits_after Owed_after child key settled) (waits child key refers waiting)
  accounted-done child key refers (By_action owing) =
      ⊎_elim (λ (still : Owed_after key child). By_action still) (λ (settled : Settled f writes more db key). settled-accounted f writes more db Waits_after Owed_after child key settled) (owed child key refers owing)

  safe-done : (child : ℕ) (key : Row) → Refers f writes db child key → Safe f writes holdings db Waits Owed child key → Safe f writes more db Waits_after Owed_after child key
  safe-done child key refers (Written_parent p two there covers) = Written_parent p two there covers
  safe-done child key refers (Held_parent p held covers) = Held_parent p (Holds-fits p KeyShare holdings more fits held) covers
  safe-done child key refers (As_committed values shown key_is) = As_committed values shown key_is
  safe-done child key refers (To_be_checked waiting) =
      ⊎_elim (λ (still : Waits_after child). To_be_checked still) (λ (settled : Settled f writes more db key). settled-safe f writes more db Waits_after Owed_after child key settled) (waits child key refers waiting)
  safe-done child key refers (To_be_acted_on owing) =
      ⊎_elim (λ (still : Owed_after key child). To_be_acted_on still) (λ (settled : Settled f writes more db key). settled-safe f writes more db Waits_after Owed_after child key settled) (owed child key refers owing)

  -- an event may go where the key has a parent that stays, or where no child refers by it
  pub references-done : References_stand f writes holdings db Waits Owed → References_stand f writes more db Waits_after Owed_after
  references-done stand =
      record {
        accounted = λ child key refers. accounted-done child key refers (stand.accounted child key refers);
        safe = λ child key one is refers. safe-done child key refers (stand.safe child key one is refers);
      }
