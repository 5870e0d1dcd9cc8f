-- What each kind of step does to a transaction's work.
use Rattle.std.proofs.Common.{◌≡◌, ◌≢◌, ℕ, ◌+◌, ◌≤◌, true, false, ◌⊎◌, inl, inr, ⊎_elim, List, [], ◌∷◌, ◌++◌, length, Option, Some, None, slice_get, Contains, refl, sym, ◌∙◌, ap, subst, arith, le_of_eq, eqb-true}
use Rattle.std.specs.List.{list_any}
use Rattle.std.proofs.lemmas.Option.{none-some, same_Some}
use Rattle.std.proofs.lemmas.Bool.{false≢true, and_parts, and_from, eq-eqb, cases_eq}
use Rattle.std.proofs.lemmas.List.Elements.{Contains-append_left, Contains-append_right, Contains-append_cases, Contains-push_cases}
use Rattle.aq_base.specs.Values.{Row, values_at, has_no_null, keys_match}
use Rattle.aq_base.specs.Maps.{at, with_at}
use Rattle.aq_first_base.specs.Catalogs.{Catalog}
use Rattle.aq_first_base.specs.Databases.{Database, Stored, has_key}
use Rattle.aq_first_base.specs.References.{HasParent, ReferencesHold, KeysAreUnique, NotNullHolds}
use Rattle.aq_first_base.specs.Writes.{Write, Writes}
use Rattle.aq_first_base.specs.Works.{Event, Work}
use Rattle.aq_first_base.specs.declared.catalog.ForeignKey.{ForeignKey}
use Rattle.aq_first_base.specs.declared.catalog.Table.{Table}
use Rattle.aq_first_base.specs.declared.catalog.UniqueKey.{UniqueKey}
use Rattle.aq_base.specs.declared.catalog.Op.TheVariants.{Insert, Delete}
use Rattle.aq_base.proofs.Lists.{Contains-none, Contains-first, Contains-later, Contains-cons_cases, Contains-slice_get, slice_get-Contains}
use Rattle.aq_base.proofs.Maps.{KeysRise, Adds, Adds-with_at, Adds-kept, Adds-cases, Removes, Removes-left, KeysRise-with_at, at-with_at_same, at-with_at_other}
use Rattle.aq_base.proofs.Values.{keys_match-sym, keys_match-same, keys_match-self}
use Rattle.aq_first_base.proofs.Databases.{stored_by, stored_by-image, newest, KeysRise-overlay, at-overlay, Adds-overlay, Removes-overlay}
use Rattle.aq_first_base.proofs.Setup.{ForeignKeysAreEnforced}
use Rattle.aq_first_outcomes.specs.Faults.Fault.{Missing, Referenced}
use Rattle.aq_first_outcomes.specs.References.{key_in, child_check, parent_check}
use Rattle.aq_first_outcomes.specs.References.Checked.{Violated}
use Rattle.aq_first_outcomes.specs.Rows.{same_op, fires_on, holds_null, insert_fault, insert_events, delete_events}
use Rattle.aq_first_outcomes.proofs.Rows.{insert_fault-none, insert_fault-no_null, Contains-insert_events, Contains-delete_events, IsOfChange, insert_events-of_change, delete_events-of_change}
use Rattle.aq_first_outcomes.proofs.References.{child_check-cases, HasNoChild, ParentCases, parent_check-cases}
use Rattle.aq_first_outcomes.proofs.References.ParentCases.{Other_parent, No_child, Left_child}
use Rattle.aq_first_run.specs.States.{World, last_of}
use Rattle.aq_first_run.specs.Effects.Effect.{Finishes}
use Rattle.aq_first_run.specs.Steps.{event_plan, check_plan}
use Rattle.aq_first_run.specs.Steps.Plan.{Does_all, Fails}
use Rattle.aq_first_laws.specs.Committed.{DatabaseStands}
use Rattle.aq_first_laws.proofs.Lists.{last_of-push}
use Rattle.aq_first_laws.proofs.Events.{event_plan-check, event_plan-parent}
use Rattle.aq_first_laws.proofs.Invariants.{view_of, Refers, CheckWaits, ParentWaits, ReferenceStands, ReferencesStand, EventFits, HistoryStands, Drawn, WorkStands}
use Rattle.aq_first_laws.proofs.Invariants.ReferenceStands.{Covered, Check_to_come, Parent_to_come}

-- ---- start

-- a transaction that has written nothing sees the last database
pub begins : (cat : Catalog) (history : List Database) (rows numbers : ℕ) → HistoryStands cat history rows → WorkStands cat history rows numbers [] []
begins cat history rows numbers stands =
    record {
      rise = tt;
      drawn = λ row write written. absurd (none-some write written);
      keys = stands.last.keys;
      not_null = stands.last.not_null;
      references = λ fk f row child refers. Covered (stands.last.references f (Contains-slice_get cat.fks fk f refers.key) row child refers.stands refers.in_child refers.no_null);
      fit = λ event c. absurd (Contains-none event c);
    }

-- ---- events that wait in other lists

check_among : (cat : Catalog) (fk row : ℕ) (writes : Writes) (events others : List Event) → (waits : CheckWaits cat fk row writes events) → Contains others waits.event → CheckWaits cat fk row writes others
check_among cat fk row writes events others waits c =
    record { event = waits.event; waits = c; trigger = waits.trigger; of_trigger = waits.of_trigger; checks = waits.checks; of_row = waits.of_row; write = waits.write; written = waits.written; live = waits.live }

parent_among : (cat : Catalog) (fk : ℕ) (f : ForeignKey) (key : Row) (events others : List Event) → (waits : ParentWaits cat fk f key events) → Contains others waits.event → ParentWaits cat fk f key others
parent_among cat fk f key events others waits c =
    record { event = waits.event; waits = c; trigger = waits.trigger; of_trigger = waits.of_trigger; looks = waits.looks; old_key = waits.old_key }

-- two lists have the same events
pub record SameEvents (events others : List Event) : Type 0 where
  pub here : (event : Event) → Contains events event → Contains others event
  pub there : (event : Event) → Contains others event → Contains events event

-- it matters only which events are still to fire
pub regroups : (cat : Catalog) (history : List Database) (rows numbers : ℕ) (writes : Writes) (events others : List Event)
    → SameEvents events others → WorkStands cat history rows numbers writes events → WorkStands cat history rows numbers writes others
regroups cat history rows numbers writes events others same work =
    record {
      rise = work.rise;
      drawn = work.drawn;
      keys = work.keys;
      not_null = work.not_null;
      references = λ fk f row child refers. moved fk f row (values_at f.child_cols child.values) (work.references fk f row child refers);
      fit = λ event c. work.fit event (same.there event c);
    }
  where
    moved : (fk : ℕ) (f : ForeignKey) (row : ℕ) (key : Row) → ReferenceStands cat (view_of history writes) writes events fk f row key → ReferenceStands cat (view_of history writes) writes others fk f row key
    moved fk f row key (Covered parent) = Covered parent
    moved fk f row key (Check_to_come waits) = Check_to_come (check_among cat fk row writes events others waits (same.here waits.event waits.waits))
    moved fk f row key (Parent_to_come waits) = Parent_to_come (parent_among cat fk f key events others waits (same.here waits.event waits.waits))

-- ---- a change of a row

none_from : {X : Type 0} (o : Option X) → ((x : X) → o ≡ Some x → ⊥) → o ≡ None
none_from None never = refl
none_from (Some x) never = absurd (never x refl)

-- the numbers that are drawn
drawn_with : (rows rows_after numbers n : ℕ) (write : Write) (writes : Writes) → write.number ≡ numbers + 1 → n ≤ rows_after → rows ≤ rows_after
    → ((r : ℕ) (w : Write) → at r writes ≡ Some w → Drawn rows numbers r w) → (r : ℕ) (w : Write) → at r (with_at n write writes) ≡ Some w → Drawn rows_after (numbers + 1) r w
drawn_with rows rows_after numbers n write writes number row_drawn more drawn r w is = by_row (cases_eq r n)
  where
    by_row : (r ≡ n) ⊎ (r ≢ n) → Drawn rows_after (numbers + 1) r w
    by_row (inl same) =
        let now : write ≡ w = same_Some write w (sym (at-with_at_same n write writes) ∙ ap (λ k. at k (with_at n write writes)) (sym same) ∙ is) in
        record { row_drawn = omega arith; number_drawn = le_of_eq (ap (λ x. x.number) (sym now) ∙ number) }
    by_row (inr other) =
        let before = drawn r w (sym (at-with_at_other r n write writes other) ∙ is) in
        record { row_drawn = omega arith; number_drawn = omega arith }

-- the events of the change have its image, and those of the row's earlier changes are older
events_fit : (numbers n : ℕ) (write : Write) (writes : Writes) (events more : List Event) → write.number ≡ numbers + 1
    → ((r : ℕ) (w : Write) → at r writes ≡ Some w → w.number ≤ numbers) → ((event : Event) → Contains events event → EventFits writes event)
    → ((event : Event) → Contains more event → IsOfChange n write.number write.image event)
    → (event : Event) → Contains (events ++ more) event → EventFits (with_at n write writes) event
events_fit numbers n write writes events more number drawn fit of_change event c = by_place (Contains-append_cases events more event c)
  where
    by_row : EventFits writes event → (event.row ≡ n) ⊎ (event.row ≢ n) → EventFits (with_at n write writes) event
    by_row is (inl same) =
        let before = drawn event.row is.write is.written in
        let older = is.not_older in
        record {
          write = write;
          written = ap (λ k. at k (with_at n write writes)) same ∙ at-with_at_same n write writes;
          not_older = omega arith;
          image = λ newest. absurd (omega arith);
        }
    by_row is (inr other) = record { write = is.write; written = at-with_at_other event.row n write writes other ∙ is.written; not_older = is.not_older; image = is.image }

    changed : IsOfChange n write.number write.image event → EventFits (with_at n write writes) event
    changed is =
        record {
          write = write;
          written = ap (λ k. at k (with_at n write writes)) is.of_row ∙ at-with_at_same n write writes;
          not_older = le_of_eq is.of_write;
          image = λ newest. sym is.has_image;
        }

    by_place : Contains events event ⊎ Contains more event → EventFits (with_at n write writes) event
    by_place (inl old) = by_row (fit event old) (cases_eq event.row n)
    by_place (inr new) = changed (of_change event new)

-- ---- a new row

-- a new row whose keys no row has
keys_with : (keys : List UniqueKey) (n : ℕ) (new : Stored) (before after : Database) → Adds n new before after → KeysAreUnique keys before
    → ((k : UniqueKey) → Contains keys k → k.table ≡ new.table → (q : ℕ) (stored : Stored) → at q before ≡ Some stored → has_key k.table k.cols (values_at k.cols new.values) stored ≡ false)
    → KeysAreUnique keys after
keys_with keys n new before after adds unique free k c m q one other m_stands q_stands one_in other_in same =
    by_cases (Adds-cases n new before after adds m one m_stands) (Adds-cases n new before after adds q other q_stands)
  where
    clash : (old : Stored) → k.table ≡ new.table → (p : ℕ) → at p before ≡ Some old → old.table ≡ k.table → keys_match (values_at k.cols old.values) (values_at k.cols new.values) ≡ true → ⊥
    clash old of_table p stands in_table matches = false≢true (sym (free k c of_table p old stands) ∙ and_from _ _ (eq-eqb old.table k.table in_table) matches)

    by_cases : ((m ≡ n) × (one ≡ new)) ⊎ (at m before ≡ Some one) → ((q ≡ n) × (other ≡ new)) ⊎ (at q before ≡ Some other) → m ≡ q
    by_cases (inl m_new) (inl q_new) = m_new.0 ∙ sym q_new.0
    by_cases (inl m_new) (inr q_old) =
        let matches = subst (λ r. keys_match (values_at k.cols r.values) (values_at k.cols other.values) ≡ true) m_new.1 same in
        absurd (clash other (sym one_in ∙ ap (λ r. r.table) m_new.1) q q_old other_in (keys_match-sym (values_at k.cols new.values) (values_at k.cols other.values) matches))
    by_cases (inr m_old) (inl q_new) =
        let matches = subst (λ r. keys_match (values_at k.cols one.values) (values_at k.cols r.values) ≡ true) q_new.1 same in
        absurd (clash one (sym other_in ∙ ap (λ r. r.table) q_new.1) m m_old one_in matches)
    by_cases (inr m_old) (inr q_old) = unique k c m q one other m_old q_old one_in other_in same

-- a new row with no null where none may be
not_null_with : (tables : List Table) (n : ℕ) (new : Stored) (before after : Database) → Adds n new before after → NotNullHolds tables before
    → ((t : Table) → slice_get tables new.table ≡ Some t → (col : ℕ) → Contains t.not_null col → holds_null new.values col ≡ false)
    → NotNullHolds tables after
not_null_with tables n new before after adds holds free number row stands t of_table col c = by_row (Adds-cases n new before after adds number row stands)
  where
    by_row : ((number ≡ n) × (row ≡ new)) ⊎ (at number before ≡ Some row) → holds_null row.values col ≡ false
    by_row (inl is_new) = subst (λ r. holds_null r.values col ≡ false) (sym is_new.1) (free t (ap (λ r. slice_get tables r.table) (sym is_new.1) ∙ of_table) col c)
    by_row (inr old) = holds number row old t of_table col c

-- a new row whose checks are queued
references_with : (cat : Catalog) (n : ℕ) (write : Write) (new : Stored) (writes writes_after : Writes) (view view_after : Database) (events more : List Event)
    → Adds n write writes writes_after → Adds n new view view_after → ReferencesStand cat view writes events
    → ((fk : ℕ) (f : ForeignKey) → Refers cat view_after fk f n new → CheckWaits cat fk n writes_after (events ++ more))
    → ReferencesStand cat view_after writes_after (events ++ more)
references_with cat n write new writes writes_after view view_after events more adds_write adds_row stand queued fk f row child refers =
    by_row (Adds-cases n new view view_after adds_row row child refers.stands)
  where
    key : Row
    key = values_at f.child_cols child.values

    check_stays : CheckWaits cat fk row writes events → CheckWaits cat fk row writes_after (events ++ more)
    check_stays waits =
        record {
          event = waits.event;
          waits = Contains-append_left events more waits.event waits.waits;
          trigger = waits.trigger;
          of_trigger = waits.of_trigger;
          checks = waits.checks;
          of_row = waits.of_row;
          write = waits.write;
          written = Adds-kept n write writes writes_after adds_write row waits.write waits.written;
          live = waits.live;
        }

    stays : ReferenceStands cat view writes events fk f row key → ReferenceStands cat view_after writes_after (events ++ more) fk f row key
    stays (Covered parent) =
        Covered (record { number = parent.number; row = parent.row; stands = Adds-kept n new view view_after adds_row parent.number parent.row parent.stands; has = parent.has })
    stays (Check_to_come waits) = Check_to_come (check_stays waits)
    stays (Parent_to_come waits) = Parent_to_come (parent_among cat fk f key events (events ++ more) waits (Contains-append_left events more waits.event waits.waits))

    new_refers : child ≡ new → Refers cat view_after fk f n new
    new_refers same =
        record {
          key = refers.key;
          stands = adds_row.here;
          in_child = ap (λ r. r.table) (sym same) ∙ refers.in_child;
          no_null = ap (λ r. has_no_null (values_at f.child_cols r.values)) (sym same) ∙ refers.no_null;
        }

    by_row : ((row ≡ n) × (child ≡ new)) ⊎ (at row view ≡ Some child) → ReferenceStands cat view_after writes_after (events ++ more) fk f row key
    by_row (inl is_new) = Check_to_come (subst (λ r. CheckWaits cat fk r writes_after (events ++ more)) (sym is_new.0) (queued fk f (new_refers is_new.1)))
    by_row (inr old) = stays (stand fk f row child (record { key = refers.key; stands = old; in_child = refers.in_child; no_null = refers.no_null }))

-- the new row's check among the events that wait
check_is_queued : (cat : Catalog) (table row number : ℕ) (values : Row) (commit : ℕ) (writes_after : Writes) (view_after : Database) (events : List Event)
    → ForeignKeysAreEnforced cat → at row writes_after ≡ Some (record { table = table; image = Some values; number = number })
    → (fk : ℕ) (f : ForeignKey) → Refers cat view_after fk f row (record { table = table; values = values; commit = commit })
    → CheckWaits cat fk row writes_after (events ++ insert_events cat table row number values)
check_is_queued cat table row number values commit writes_after view_after events enforced written fk f refers =
    let check = (enforced fk f refers.key).of_child in
    let event : Event = record { trigger = check.number; row = row; write = number; old = None; new = Some values } in
    let of_table = check.of_table ∙ sym refers.in_child in
    let fires : fires_on table Insert check.trigger ≡ true = and_from _ _ (eq-eqb check.trigger.table table of_table) (ap (list_any (same_op Insert)) check.with_ops) in
    record {
      event = event;
      waits = Contains-append_right events (insert_events cat table row number values) event (Contains-insert_events cat table row number values check.number check.trigger check.stands fires);
      trigger = check.trigger;
      of_trigger = check.stands;
      checks = check.with_does;
      of_row = refl;
      write = record { table = table; image = Some values; number = number };
      written = written;
      live = refl;
    }

-- a row that isn't refused, with its events
pub inserts : (cat : Catalog) (history : List Database) (rows numbers : ℕ) (writes : Writes) (events : List Event) (table : ℕ) (values : Row)
    → ForeignKeysAreEnforced cat → HistoryStands cat history rows → WorkStands cat history rows numbers writes events
    → insert_fault cat (view_of history writes) table values ≡ None
    → WorkStands cat history (rows + 1) (numbers + 1) (with_at (rows + 1) (record { table = table; image = Some values; number = numbers + 1 }) writes)
    (events ++ insert_events cat table (rows + 1) (numbers + 1) values)
inserts cat history rows numbers writes events table values enforced stands work free =
    let row = rows + 1 in
    let write : Write = record { table = table; image = Some values; number = numbers + 1 } in
    let new : Stored = record { table = table; values = values; commit = length history } in
    let after : Writes = with_at row write writes in
    let unwritten = none_from (at row writes) (λ w is. let drawn = work.drawn row w is in omega arith) in
    let absent = none_from (at row (last_of history)) (λ r is. let drawn = stands.drawn row r is in omega arith) in
    let adds_write = Adds-with_at row write writes unwritten in
    let adds_row = Adds-overlay (length history) row table (numbers + 1) values writes (last_of history) work.rise unwritten absent in
    record {
      rise = KeysRise-with_at row write writes work.rise;
      drawn = λ r w is. drawn_with rows (rows + 1) numbers row write writes refl (omega arith) (omega arith) work.drawn r w is;
      keys = keys_with cat.keys row new (view_of history writes) (view_of history after) adds_row work.keys (insert_fault-none cat (view_of history writes) table values free);
      not_null = not_null_with cat.tables row new (view_of history writes) (view_of history after) adds_row work.not_null (insert_fault-no_null cat (view_of history writes) table values free);
      references = references_with cat row write new writes after (view_of history writes) (view_of history after) events (insert_events cat table row (numbers + 1) values) adds_write adds_row work.references
          (check_is_queued cat table row (numbers + 1) values (length history) after (view_of history after) events enforced adds_write.here);
      fit = events_fit numbers row write writes events (insert_events cat table row (numbers + 1) values) refl (λ r w is. (work.drawn r w is).number_drawn) work.fit
          (insert_events-of_change cat table row (numbers + 1) values);
    }

-- the databases stay
pub draws : (cat : Catalog) (history : List Database) (rows : ℕ) → HistoryStands cat history rows → HistoryStands cat history (rows + 1)
draws cat history rows stands = record { all = stands.all; last = stands.last; rise = stands.rise; drawn = λ row stored is. let le = stands.drawn row stored is in omega arith }

-- ---- a row less

-- the deleted row's parent event among those that wait
parent_is_queued : (cat : Catalog) (table row number : ℕ) (stored : Stored) (events : List Event) → ForeignKeysAreEnforced cat → stored.table ≡ table
    → (fk : ℕ) (f : ForeignKey) (key : Row) → slice_get cat.fks fk ≡ Some f → has_key f.parent f.parent_cols key stored ≡ true
    → ParentWaits cat fk f key (events ++ delete_events cat table row number stored.values)
parent_is_queued cat table row number stored events enforced in_table fk f key is_fk has =
    let look = (enforced fk f is_fk).of_parent in
    let parts = and_parts _ _ has in
    let event : Event = record { trigger = look.number; row = row; write = number; old = Some stored.values; new = None } in
    let of_table = look.of_table ∙ sym (eqb-true stored.table f.parent parts.0) ∙ in_table in
    let fires : fires_on table Delete look.trigger ≡ true = and_from _ _ (eq-eqb look.trigger.table table of_table) (ap (list_any (same_op Delete)) look.with_ops) in
    record {
      event = event;
      waits = Contains-append_right events (delete_events cat table row number stored.values) event (Contains-delete_events cat table row number stored.values look.number look.trigger look.stands fires);
      trigger = look.trigger;
      of_trigger = look.stands;
      looks = look.with_does;
      old_key = keys_match-same (values_at f.parent_cols stored.values) key parts.1;
    }

-- a parent that goes has its event queued
references_without : (cat : Catalog) (n : ℕ) (write : Write) (stored : Stored) (writes : Writes) (view view_after : Database) (events more : List Event)
    → at n view ≡ Some stored → Removes n view view_after → ReferencesStand cat view writes events
    → ((fk : ℕ) (f : ForeignKey) (key : Row) → slice_get cat.fks fk ≡ Some f → has_key f.parent f.parent_cols key stored ≡ true → ParentWaits cat fk f key (events ++ more))
    → ReferencesStand cat view_after (with_at n write writes) (events ++ more)
references_without cat n write stored writes view view_after events more stood removes stand queued fk f row child refers =
    let left = Removes-left n view view_after removes row child refers.stands in
    stays left.0 (stand fk f row child (record { key = refers.key; stands = left.1; in_child = refers.in_child; no_null = refers.no_null }))
  where
    key : Row
    key = values_at f.child_cols child.values

    goes : (parent : HasParent f key view) → parent.number ≡ n → ParentWaits cat fk f key (events ++ more)
    goes parent same =
        let is_stored = same_Some parent.row stored (sym parent.stands ∙ ap (λ k. at k view) same ∙ stood) in
        queued fk f key refers.key (subst (λ r. has_key f.parent f.parent_cols key r ≡ true) is_stored parent.has)

    by_parent : (parent : HasParent f key view) → (parent.number ≡ n) ⊎ (parent.number ≢ n) → ReferenceStands cat view_after (with_at n write writes) (events ++ more) fk f row key
    by_parent parent (inl same) = Parent_to_come (goes parent same)
    by_parent parent (inr other) = Covered (record { number = parent.number; row = parent.row; stands = removes.elsewhere parent.number other ∙ parent.stands; has = parent.has })

    check_stays : row ≢ n → CheckWaits cat fk row writes events → CheckWaits cat fk row (with_at n write writes) (events ++ more)
    check_stays other waits =
        record {
          event = waits.event;
          waits = Contains-append_left events more waits.event waits.waits;
          trigger = waits.trigger;
          of_trigger = waits.of_trigger;
          checks = waits.checks;
          of_row = waits.of_row;
          write = waits.write;
          written = at-with_at_other row n write writes other ∙ waits.written;
          live = waits.live;
        }

    stays : row ≢ n → ReferenceStands cat view writes events fk f row key → ReferenceStands cat view_after (with_at n write writes) (events ++ more) fk f row key
    stays other (Covered parent) = by_parent parent (cases_eq parent.number n)
    stays other (Check_to_come waits) = Check_to_come (check_stays other waits)
    stays other (Parent_to_come waits) = Parent_to_come (parent_among cat fk f key events (events ++ more) waits (Contains-append_left events more waits.event waits.waits))

view_drawn : (commit rows : ℕ) (row : ℕ) (stored : Stored) (write : Option Write) (had : Option Stored) → newest commit write had ≡ Some stored
    → ((w : Write) → write ≡ Some w → row ≤ rows) → ((r : Stored) → had ≡ Some r → row ≤ rows) → row ≤ rows
view_drawn commit rows row stored None had is written stood = stood stored is
view_drawn commit rows row stored (Some w) had is written stood = written w refl

-- the number of a row that a transaction sees was drawn
view_of-drawn : (cat : Catalog) (history : List Database) (rows numbers : ℕ) (writes : Writes) (events : List Event) → HistoryStands cat history rows → WorkStands cat history rows numbers writes events
    → (row : ℕ) (stored : Stored) → at row (view_of history writes) ≡ Some stored → row ≤ rows
view_of-drawn cat history rows numbers writes events stands work row stored is =
    view_drawn (length history) rows row stored (at row writes) (at row (last_of history)) (sym (at-overlay (length history) writes (last_of history) row work.rise) ∙ is)
    (λ w written. (work.drawn row w written).row_drawn) (stands.drawn row)

-- a row of the table that the transaction sees, with its events
pub deletes : (cat : Catalog) (history : List Database) (rows numbers : ℕ) (writes : Writes) (events : List Event) (table row : ℕ) (stored : Stored)
    → ForeignKeysAreEnforced cat → HistoryStands cat history rows → WorkStands cat history rows numbers writes events
    → at row (view_of history writes) ≡ Some stored → stored.table ≡ table
    → WorkStands cat history rows (numbers + 1) (with_at row (record { table = table; image = None; number = numbers + 1 }) writes)
    (events ++ delete_events cat table row (numbers + 1) stored.values)
deletes cat history rows numbers writes events table row stored enforced stands work stood in_table =
    let write : Write = record { table = table; image = None; number = numbers + 1 } in
    let after : Writes = with_at row write writes in
    let removes = Removes-overlay (length history) row table (numbers + 1) writes (last_of history) work.rise in
    let view = view_of history writes in
    let view_after = view_of history after in
    record {
      rise = KeysRise-with_at row write writes work.rise;
      drawn = λ r w is. drawn_with rows rows numbers row write writes refl (view_of-drawn cat history rows numbers writes events stands work row stored stood) (omega arith) work.drawn r w is;
      keys = λ k c m q one other m_stands q_stands one_in other_in same.
          work.keys k c m q one other (Removes-left row view view_after removes m one m_stands).1 (Removes-left row view view_after removes q other q_stands).1 one_in other_in same;
      not_null = λ number one one_stands t of_table col c. work.not_null number one (Removes-left row view view_after removes number one one_stands).1 t of_table col c;
      references = references_without cat row write stored writes view view_after events (delete_events cat table row (numbers + 1) stored.values) stood removes work.references
          (parent_is_queued cat table row (numbers + 1) stored events enforced in_table);
      fit = events_fit numbers row write writes events (delete_events cat table row (numbers + 1) stored.values) refl (λ r w is. (work.drawn r w is).number_drawn) work.fit
          (delete_events-of_change cat table row (numbers + 1) stored.values);
    }

-- ---- event

-- the check that is done has found the row's parent
check_done : (cat : Catalog) (world : World) (work : Work) (event : Event) (events : List Event)
    → KeysRise (last_of world.history) → WorkStands cat world.history world.rows world.writes work.writes events → Contains events event
    → event_plan cat world work event ≡ Does_all (Finishes ∷ [])
    → (fk : ℕ) (f : ForeignKey) (row : ℕ) (child : Stored) → Refers cat (view_of world.history work.writes) fk f row child
    → (waits : CheckWaits cat fk row work.writes events) → event ≡ waits.event
    → HasParent f (values_at f.child_cols child.values) (view_of world.history work.writes)
check_done cat world work event events rise stands c done fk f row child refers waits same =
    by_check (child_check-cases f event fits.write work.writes view (KeysRise-overlay commit work.writes (last_of world.history) rise) fits.written live (ap has_no_null key ∙ refers.no_null))
  where
    commit : ℕ
    commit = length world.history

    view : Database
    view = view_of world.history work.writes

    fits : EventFits work.writes event
    fits = stands.fit event c

    of_row : at event.row work.writes ≡ at row work.writes
    of_row = ap (λ e. at e.row work.writes) same ∙ ap (λ r. at r work.writes) waits.of_row

    live : fits.write.number ≡ event.write
    live = ap (λ w. w.number) (same_Some fits.write waits.write (sym fits.written ∙ of_row ∙ waits.written)) ∙ waits.live ∙ ap (λ e. e.write) (sym same)

    stored : stored_by commit fits.write.table fits.write.image ≡ Some child
    stored =
        let seen = at-overlay commit work.writes (last_of world.history) row stands.rise in
        let newest_is = ap (λ w. newest commit w (at row (last_of world.history))) (sym of_row ∙ fits.written) in
        sym newest_is ∙ sym seen ∙ refers.stands

    key : key_in f.child_cols event.new ≡ values_at f.child_cols child.values
    key = ap (key_in f.child_cols) (sym (fits.image live) ∙ stored_by-image commit fits.write.table fits.write.image child stored)

    plan : event_plan cat world work event ≡ check_plan (child_check f event work.writes view)
    plan = event_plan-check cat world work event waits.trigger fk f (ap (λ e. slice_get cat.triggers e.trigger) same ∙ waits.of_trigger) waits.checks refers.key

    by_check : HasParent f (key_in f.child_cols event.new) view ⊎ (child_check f event work.writes view ≡ Violated (Missing f (key_in f.child_cols event.new)))
        → HasParent f (values_at f.child_cols child.values) view
    by_check (inl parent) = subst (λ k. HasParent f k view) key parent
    by_check (inr violated) =
        let refused : Does_all (Finishes ∷ []) ≡ Fails [] (Missing f (key_in f.child_cols event.new)) = sym done ∙ plan ∙ ap check_plan violated in
        absurd (cc)

-- a row that refers by the key would be found
not_without_child : (f : ForeignKey) (key : Row) (view : Database) (row : ℕ) (child : Stored) → at row view ≡ Some child → child.table ≡ f.child
    → has_no_null (values_at f.child_cols child.values) ≡ true → key ≡ values_at f.child_cols child.values → HasNoChild f key view → ⊥
not_without_child f key view row child stands in_child no_null same none =
    let own = values_at f.child_cols child.values in
    false≢true (sym (none.none row child stands) ∙ and_from _ _ (eq-eqb child.table f.child in_child) (ap (keys_match own) same ∙ keys_match-self own no_null))

-- the look for children that is done has found another parent
look_done : (cat : Catalog) (world : World) (work : Work) (event : Event) (events : List Event)
    → KeysRise (last_of world.history) → event_plan cat world work event ≡ Does_all (Finishes ∷ [])
    → (fk : ℕ) (f : ForeignKey) (row : ℕ) (child : Stored) → Refers cat (view_of world.history work.writes) fk f row child
    → (waits : ParentWaits cat fk f (values_at f.child_cols child.values) events) → event ≡ waits.event
    → HasParent f (values_at f.child_cols child.values) (view_of world.history work.writes)
look_done cat world work event events rise done fk f row child refers waits same =
    by_check (parent_check-cases f event view (KeysRise-overlay (length world.history) work.writes (last_of world.history) rise))
  where
    view : Database
    view = view_of world.history work.writes

    key : key_in f.parent_cols event.old ≡ values_at f.child_cols child.values
    key = ap (λ e. key_in f.parent_cols e.old) same ∙ waits.old_key

    plan : event_plan cat world work event ≡ check_plan (parent_check f event view)
    plan = event_plan-parent cat world work event waits.trigger fk f (ap (λ e. slice_get cat.triggers e.trigger) same ∙ waits.of_trigger) waits.looks refers.key

    by_check : ParentCases f event view → HasParent f (values_at f.child_cols child.values) view
    by_check (Other_parent parent) = subst (λ k. HasParent f k view) key parent
    by_check (No_child none) = absurd (not_without_child f (key_in f.parent_cols event.old) view row child refers.stands refers.in_child refers.no_null key none)
    by_check (Left_child violated) =
        let refused : Does_all (Finishes ∷ []) ≡ Fails [] (Referenced f (key_in f.parent_cols event.old)) = sym done ∙ plan ∙ ap check_plan violated in
        absurd (cc)

-- an event that is done was not needed, or the row has a parent now
pub finishes : (cat : Catalog) (world : World) (work : Work) (event : Event) (events : List Event)
    → KeysRise (last_of world.history) → WorkStands cat world.history world.rows world.writes work.writes (event ∷ events)
    → event_plan cat world work event ≡ Does_all (Finishes ∷ [])
    → WorkStands cat world.history world.rows world.writes work.writes events
finishes cat world work event events rise stands done =
    record {
      rise = stands.rise;
      drawn = stands.drawn;
      keys = stands.keys;
      not_null = stands.not_null;
      references = λ fk f row child refers. still fk f row child refers (stands.references fk f row child refers);
      fit = λ other c. stands.fit other (Contains-later event other events c);
    }
  where
    view : Database
    view = view_of world.history work.writes

    by_check : (fk : ℕ) (f : ForeignKey) (row : ℕ) (child : Stored) → Refers cat view fk f row child
        → (waits : CheckWaits cat fk row work.writes (event ∷ events)) → (event ≡ waits.event) ⊎ Contains events waits.event
        → ReferenceStands cat view work.writes events fk f row (values_at f.child_cols child.values)
    by_check fk f row child refers waits (inl first) = Covered (check_done cat world work event (event ∷ events) rise stands (Contains-first event events) done fk f row child refers waits first)
    by_check fk f row child refers waits (inr later) = Check_to_come (check_among cat fk row work.writes (event ∷ events) events waits later)

    by_look : (fk : ℕ) (f : ForeignKey) (row : ℕ) (child : Stored) → Refers cat view fk f row child
        → (waits : ParentWaits cat fk f (values_at f.child_cols child.values) (event ∷ events)) → (event ≡ waits.event) ⊎ Contains events waits.event
        → ReferenceStands cat view work.writes events fk f row (values_at f.child_cols child.values)
    by_look fk f row child refers waits (inl first) = Covered (look_done cat world work event (event ∷ events) rise done fk f row child refers waits first)
    by_look fk f row child refers waits (inr later) = Parent_to_come (parent_among cat fk f (values_at f.child_cols child.values) (event ∷ events) events waits later)

    still : (fk : ℕ) (f : ForeignKey) (row : ℕ) (child : Stored) → Refers cat view fk f row child
        → ReferenceStands cat view work.writes (event ∷ events) fk f row (values_at f.child_cols child.values)
        → ReferenceStands cat view work.writes events fk f row (values_at f.child_cols child.values)
    still fk f row child refers (Covered parent) = Covered parent
    still fk f row child refers (Check_to_come waits) = by_check fk f row child refers waits (Contains-cons_cases event waits.event events waits.waits)
    still fk f row child refers (Parent_to_come waits) = by_look fk f row child refers waits (Contains-cons_cases event waits.event events waits.waits)

-- ---- commit

-- with no event left to fire, what the transaction sees stands
committed_stands : (cat : Catalog) (history : List Database) (rows numbers : ℕ) (writes : Writes) → KeysRise (last_of history)
    → WorkStands cat history rows numbers writes [] → DatabaseStands cat (view_of history writes)
committed_stands cat history rows numbers writes rise work =
    record { numbers = KeysRise-overlay (length history) writes (last_of history) rise; references = references; keys = work.keys; not_null = work.not_null }
  where
    covered : (fk : ℕ) (f : ForeignKey) (row : ℕ) (key : Row) → ReferenceStands cat (view_of history writes) writes [] fk f row key → HasParent f key (view_of history writes)
    covered fk f row key (Covered parent) = parent
    covered fk f row key (Check_to_come waits) = absurd (Contains-none waits.event waits.waits)
    covered fk f row key (Parent_to_come waits) = absurd (Contains-none waits.event waits.waits)

    references : ReferencesHold cat.fks (view_of history writes)
    references f c row child stands in_child no_null =
        let place = slice_get-Contains cat.fks f c in
        covered place.0 f row (values_at f.child_cols child.values) (work.references place.0 f row child (record { key = place.1; stands = stands; in_child = in_child; no_null = no_null }))

pub commits : (cat : Catalog) (history : List Database) (rows numbers : ℕ) (writes : Writes) → HistoryStands cat history rows → WorkStands cat history rows numbers writes []
    → HistoryStands cat (history ++ view_of history writes ∷ []) rows
commits cat history rows numbers writes stands work =
    let view = view_of history writes in
    let now = committed_stands cat history rows numbers writes stands.rise work in
    let last = last_of-push history view in
    record {
      all = λ db c. ⊎_elim (stands.all db) (λ same. subst (DatabaseStands cat) same now) (Contains-push_cases history view db c);
      last = subst (DatabaseStands cat) (sym last) now;
      rise = subst KeysRise (sym last) (KeysRise-overlay (length history) writes (last_of history) stands.rise);
      drawn = λ row stored is. view_of-drawn cat history rows numbers writes [] stands work row stored (sym (ap (λ db. at row db) last) ∙ is);
    }
