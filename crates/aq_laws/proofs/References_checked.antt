-- What a check has found out where it passes: a parent that is there, or no child that refers.
use Rattle.std.proofs.Common.{◌≡◌, ◌≢◌, ℕ, Bool, true, false, not, List, [], ◌∷◌, Option, Some, None, Contains, refl, sym, ap, ◌∙◌, subst, ⊎_elim, eqb-true}
use Rattle.std.specs.Prelude.{◌+◌, ◌==◌, ◌&&◌, filter, is_some, unwrap_or}
use Rattle.std.proofs.lemmas.Bool.{true≢false, cases_eq, eq-eqb, and_parts, and_from}
use Rattle.std.proofs.lemmas.Option.{same_Some, none-some}
use Rattle.aq_base.specs.Values.{Row, keys_match, values_at}
use Rattle.aq_base.specs.declared.catalog.ForeignKey.{ForeignKey}
use Rattle.aq_base.specs.declared.data.LockMode.TheVariants as modes
use Rattle.aq_base.proofs.Lists.{Contains-none, Contains-first, Contains-later, Contains-filter, Kept, Kept-filter}
use Rattle.aq_base.specs.Maps.{at}
use Rattle.aq_base.proofs.Maps.{KeysRise, at-Contains, at-first, at-rest}
use Rattle.aq_base.specs.Databases.{Database, Stored, rows_with_key, has_key, last_number, last_database, database_at}
use Rattle.aq_base.specs.Writes.{Write, has_written, view_at}
use Rattle.aq_base.specs.Blockers.{row_blockers}
use Rattle.aq_base.specs.Events.{Event}
use Rattle.aq_base.specs.References.{is_reference, is_mixture}
use Rattle.aq_outcomes.specs.Parties.{Around, Party, latest, seen, seen_number}
use Rattle.aq_outcomes.specs.Queued.{key_in}
use Rattle.aq_outcomes.specs.References.{Checked, child_check, no_action_check, restrict_check, is_live, unless_held, unless_gone, has_gone, still_has, on_parents, look_for_parent, where_reference, unless_mixed, where_live, check_key, with_child, with_other_parent, old_key}
use Rattle.aq_outcomes.specs.References.Checked.{Passes, Skips, Pair}
use Rattle.aq_run.proofs.Views.{KeysRise-overlay}
use Rattle.aq_laws.proofs.Keys.{stored_shown, shown_of, row_in, row_in-view}
use Rattle.aq_laws.proofs.References.{Refers, Covers, unwritten-row}

-- ---- rows with a key

-- the first of them stands in the view
first-with_key : (table : ℕ) (cols : List ℕ) (key : Row) (view : Database) (entry : ℕ × Stored) (rest : Database) → KeysRise view → rows_with_key table cols key view ≡ entry ∷ rest →
    (at entry.0 view ≡ Some entry.1) × (has_key table cols key entry.1 ≡ true)
first-with_key table cols key view entry rest rise is =
    let kept : Kept (λ one. has_key table cols key one.1) view entry =
    Kept-filter (λ one. has_key table cols key one.1) view entry (subst (λ found. Contains found entry) (sym is) (Contains-first entry rest)) in
    (at-Contains entry view rise kept.was, kept.passes)

pair-same : (entry : ℕ × Stored) (n : ℕ) (stored : Stored) → entry.0 ≡ n → entry.1 ≡ stored → entry ≡ (n, stored)
pair-same entry n stored e f = ap (λ m. (m, entry.1)) e ∙ ap (λ x. (n, x)) f

not-false : (b : Bool) → not b ≡ false → b ≡ true
not-false true e = refl
not-false false e = absurd (true≢false e)

-- the stored row of a shown one
shown-is : (found : Option Stored) (shown : ℕ × Row) → stored_shown found ≡ Some shown → (stored : Stored) × (found ≡ Some stored) × (stored.table ≡ shown.0) × (stored.values ≡ shown.1)
shown-is None shown is = absurd (none-some shown is)
shown-is (Some stored) shown is = let same : (stored.table, stored.values) ≡ shown = same_Some (stored.table, stored.values) shown is in (stored, refl, ap (λ p. p.0) same, ap (λ p. p.1) same)

Contains-at : (n : ℕ) (stored : Stored) (view : Database) → at n view ≡ Some stored → Contains view (n, stored)
Contains-at n stored [] is = absurd (none-some stored is)
Contains-at n stored (entry ∷ view) is =
    ⊎_elim
    (λ (same : n ≡ entry.0).
    let value : entry.1 ≡ stored = same_Some entry.1 stored (sym (at-first entry view) ∙ ap (λ k. at k (entry ∷ view)) (sym same) ∙ is) in
    subst (Contains (entry ∷ view)) (pair-same entry n stored (sym same) value) (Contains-first entry view))
    (λ (other : n ≢ entry.0). Contains-later entry (n, stored) view (Contains-at n stored view (sym (at-rest n entry view other) ∙ is)))
    (cases_eq n entry.0)

kept-none : (test : Stored → Bool) (view : Database) (n : ℕ) (stored : Stored) → filter (λ one. test one.1) view ≡ [] → at n view ≡ Some stored → test stored ≡ true → ⊥
kept-none test view n stored none is passes =
    Contains-none (n, stored) (subst (λ found. Contains found (n, stored)) none (Contains-filter (λ one. test one.1) view (n, stored) (Contains-at n stored view is) passes))

has-parts : (table : ℕ) (cols : List ℕ) (key : Row) (stored : Stored) → has_key table cols key stored ≡ true → (stored.table ≡ table) × (keys_match (values_at cols stored.values) key ≡ true)
has-parts table cols key stored has =
    let parts = and_parts (stored.table == table) (keys_match (values_at cols stored.values) key) has in (eqb-true stored.table table parts.0, parts.1)

-- ---- in the view of a transaction

module _ (others : Around) (me : Party) (rise : KeysRise me.writes) (db_rise : KeysRise (last_database others.history)) where
  abbrev db : Database
  db = last_database others.history

  abbrev commit : ℕ
  commit = last_number others.history + 1

  shown-in : (row : ℕ) (stored : Stored) → at row (latest others me) ≡ Some stored → row_in me.writes db row ≡ Some (stored.table, stored.values)
  shown-in row stored is = sym (row_in-view commit me.writes db row rise) ∙ ap stored_shown is

  -- a row of the parent table with the key covers it
  covers-latest : (f : ForeignKey) (key : Row) (row : ℕ) (stored : Stored) → at row (latest others me) ≡ Some stored → has_key f.parent f.parent_cols key stored ≡ true → Covers f me.writes db row key
  covers-latest f key row stored is has =
      let parts = has-parts f.parent f.parent_cols key stored has in
      record { values = stored.values; shown = shown-in row stored is ∙ ap (λ t. Some (t, stored.values)) parts.0; matches = parts.1 }

  -- where no child has the key, none refers by it
  no-child : (f : ForeignKey) (key : Row) → rows_with_key f.child f.child_cols key (latest others me) ≡ [] → (child : ℕ) → (keys_match key key ≡ true) → Refers f me.writes db child key → ⊥
  no-child f key none child full refers =
      let found = shown-is (at child (latest others me)) (f.child, refers.values) (row_in-view commit me.writes db child rise ∙ refers.shown) in
      kept-none (has_key f.child f.child_cols key) (latest others me) child found.0 none found.1
      (and_from (found.0.table == f.child) (keys_match (values_at f.child_cols found.0.values) key) (eq-eqb found.0.table f.child found.2)
      (ap (λ values. keys_match (values_at f.child_cols values) key) found.3 ∙ ap (λ k. keys_match k key) refers.key_is ∙ full))

  -- ---- the check of a child

  abbrev pub Child_means : ForeignKey → Event → Checked → Type 0
  Child_means f event (Passes (Some row)) =
      (is_live me event ≡ true) × ((row_blockers me.session others.holdings row modes.KeyShare ≡ []) × Covers f me.writes db row (key_in f.child_cols event.new))
  Child_means f event (Passes None) = is_reference f.full (key_in f.child_cols event.new) ≡ false
  Child_means f event Skips = is_live me event ≡ false
  Child_means f event _ = Unit {0}

  -- a parent that the snapshot shows is there still, or was written by this transaction
  covers-snapshot : (f : ForeignKey) (key : Row) (row n : ℕ) (stored : Stored) → at row (view_at n others.history me.writes) ≡ Some stored → has_key f.parent f.parent_cols key stored ≡ true →
      (not (has_written row me.writes) && not (still_has f key (at row db))) ≡ false → (found : Option Write) → at row me.writes ≡ found → (last : Option Stored) → at row db ≡ last → Covers f me.writes db row key
  covers-snapshot f key row n stored is has stays (Some one) found last there =
      let parts = has-parts f.parent f.parent_cols key stored has in
      record {
        values = stored.values;
        shown = ap (λ write. shown_of write (at row db)) found ∙ sym (ap (λ write. shown_of write (at row (database_at n others.history))) found) ∙
            sym (row_in-view commit me.writes (database_at n others.history) row rise) ∙ ap stored_shown is ∙ ap (λ t. Some (t, stored.values)) parts.0;
        matches = parts.1;
      }
  covers-snapshot f key row n stored is has stays None found None there =
      absurd (true≢false (sym (ap (λ write. not (is_some write) && not (still_has f key (at row db))) found ∙ ap (λ last. not (still_has f key last)) there) ∙ stays))
  covers-snapshot f key row n stored is has stays None found (Some last) there =
      let kept : not (has_key f.parent f.parent_cols key last) ≡ false = sym (ap (λ write. not (is_some write) && not (still_has f key (at row db))) found ∙ ap (λ one. not (still_has f key one)) there) ∙ stays in
      let parts = has-parts f.parent f.parent_cols key last (not-false (has_key f.parent f.parent_cols key last) kept) in
      record { values = last.values; shown = unwritten-row me.writes db row found ∙ ap stored_shown there ∙ ap (λ t. Some (t, last.values)) parts.0; matches = parts.1 }

  unless_held-means : (f : ForeignKey) (event : Event) (bs : List ℕ) (row : ℕ) (next : Checked) → (bs ≡ [] → Child_means f event next) → Child_means f event (unless_held bs row next)
  unless_held-means f event [] row next means = means refl
  unless_held-means f event (b ∷ bs) row next means = tt

  unless_gone-means : (f : ForeignKey) (event : Event) (gone : Bool) (next : Checked) → (gone ≡ false → Child_means f event next) → Child_means f event (unless_gone gone next)
  unless_gone-means f event true next means = tt
  unless_gone-means f event false next means = means refl

  -- the parent that is found in what the statement sees
  covers-seen : (f : ForeignKey) (key : Row) (fixed : Option ℕ) (entry : ℕ × Stored) (rest : Database) → rows_with_key f.parent f.parent_cols key (view_at (seen_number others fixed) others.history me.writes) ≡ entry ∷ rest →
      has_gone others me f key entry.0 fixed ≡ false → ((n : ℕ) → KeysRise (database_at n others.history)) → Covers f me.writes db entry.0 key
  covers-seen f key None entry rest is stays all_rise =
      let found = first-with_key f.parent f.parent_cols key (latest others me) entry rest (KeysRise-overlay commit me.writes db db_rise) is in covers-latest f key entry.0 entry.1 found.0 found.1
  covers-seen f key (Some n) entry rest is stays all_rise =
      let found = first-with_key f.parent f.parent_cols key (view_at n others.history me.writes) entry rest (KeysRise-overlay commit me.writes (database_at n others.history) (all_rise n)) is in
      covers-snapshot f key entry.0 n entry.1 found.0 found.1 stays (at entry.0 me.writes) refl (at entry.0 db) refl

  on_parents-means : (f : ForeignKey) (event : Event) (key : Row) → key_in f.child_cols event.new ≡ key → is_live me event ≡ true → ((n : ℕ) → KeysRise (database_at n others.history)) →
      (parents : Database) → rows_with_key f.parent f.parent_cols key (seen others me) ≡ parents → Child_means f event (on_parents others me f key parents)
  on_parents-means f event key key_is live all_rise [] is = tt
  on_parents-means f event key key_is live all_rise (parent ∷ rest) is =
      unless_held-means f event (row_blockers me.session others.holdings parent.0 modes.KeyShare) parent.0 (unless_gone (has_gone others me f key parent.0 me.fixed) (Passes (Some parent.0)))
      (λ free. unless_gone-means f event (has_gone others me f key parent.0 me.fixed) (Passes (Some parent.0))
      (λ stays. (live, (free, subst (Covers f me.writes db parent.0) (sym key_is) (covers-seen f key me.fixed parent rest is stays all_rise)))))

  where_reference-means : (f : ForeignKey) (event : Event) (refers : Bool) (next : Checked) → is_reference f.full (key_in f.child_cols event.new) ≡ refers → Child_means f event next → Child_means f event (where_reference refers next)
  where_reference-means f event true next is means = means
  where_reference-means f event false next is means = is

  unless_mixed-means : (f : ForeignKey) (event : Event) (mixed : Bool) (next : Checked) → Child_means f event next → Child_means f event (unless_mixed mixed next)
  unless_mixed-means f event true next means = tt
  unless_mixed-means f event false next means = means

  where_live-means : (f : ForeignKey) (event : Event) (live : Bool) (next : Checked) → is_live me event ≡ live → (live ≡ true → Child_means f event next) → Child_means f event (where_live live next)
  where_live-means f event true next is means = means refl
  where_live-means f event false next is means = is

  pub child_check-means : (f : ForeignKey) (event : Event) → ((n : ℕ) → KeysRise (database_at n others.history)) → Child_means f event (child_check others me f event)
  unfolding child_check
  child_check-means f event all_rise =
      where_live-means f event (is_live me event) (check_key others me f (key_in f.child_cols event.new)) refl
      (λ live. unless_mixed-means f event (f.full && is_mixture (key_in f.child_cols event.new)) (where_reference (is_reference f.full (key_in f.child_cols event.new)) (look_for_parent others me f (key_in f.child_cols event.new)))
      (where_reference-means f event (is_reference f.full (key_in f.child_cols event.new)) (look_for_parent others me f (key_in f.child_cols event.new)) refl
      (on_parents-means f event (key_in f.child_cols event.new) refl live all_rise (rows_with_key f.parent f.parent_cols (key_in f.child_cols event.new) (seen others me)) refl)))

  -- ---- the check of a parent

  abbrev pub Parent_means : ForeignKey → Event → Checked → Type 0
  Parent_means f event (Passes (Some row)) = (row_blockers me.session others.holdings row modes.KeyShare ≡ []) × Covers f me.writes db row (old_key f event)
  Parent_means f event (Passes None) = rows_with_key f.child f.child_cols (old_key f event) (latest others me) ≡ []
  Parent_means f event Skips = ⊥
  Parent_means f event _ = Unit {0}

  held-means : (f : ForeignKey) (event : Event) (bs : List ℕ) (row : ℕ) (next : Checked) → (bs ≡ [] → Parent_means f event next) → Parent_means f event (unless_held bs row next)
  held-means f event [] row next means = means refl
  held-means f event (b ∷ bs) row next means = tt

  with_child-means : (f : ForeignKey) (event : Event) (children : Database) → rows_with_key f.child f.child_cols (old_key f event) (latest others me) ≡ children → Parent_means f event (with_child others me f event (old_key f event) children)
  with_child-means f event [] is = is
  with_child-means f event (child ∷ rest) is =
      held-means f event (row_blockers me.session others.holdings child.0 modes.KeyShare) child.0 (Pair (unwrap_or event.row 0) child.0 (old_key f event)) (λ free. tt)

  with_parent-means : (f : ForeignKey) (event : Event) (parents : Database) → rows_with_key f.parent f.parent_cols (old_key f event) (latest others me) ≡ parents → Parent_means f event (with_other_parent others me f event (old_key f event) parents)
  with_parent-means f event [] is = with_child-means f event (rows_with_key f.child f.child_cols (old_key f event) (latest others me)) refl
  with_parent-means f event (parent ∷ rest) is =
      held-means f event (row_blockers me.session others.holdings parent.0 modes.KeyShare) parent.0 (Passes (Some parent.0))
      (λ free.
      let found = first-with_key f.parent f.parent_cols (old_key f event) (latest others me) parent rest (KeysRise-overlay commit me.writes db db_rise) is in
      (free, covers-latest f (old_key f event) parent.0 parent.1 found.0 found.1))

  pub no_action_check-means : (f : ForeignKey) (event : Event) → Parent_means f event (no_action_check others me f event)
  unfolding no_action_check
  no_action_check-means f event = with_parent-means f event (rows_with_key f.parent f.parent_cols (old_key f event) (latest others me)) refl

  pub restrict_check-means : (f : ForeignKey) (event : Event) → Parent_means f event (restrict_check others me f event)
  unfolding restrict_check
  restrict_check-means f event = with_child-means f event (rows_with_key f.child f.child_cols (old_key f event) (latest others me)) refl
