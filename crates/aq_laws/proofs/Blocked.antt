-- A row step or a check that would wait has somebody in its way.
use Rattle.std.proofs.Common.{◌≡◌, ℕ, Bool, true, false, List, [], ◌∷◌, Option, Some, None, Result, Ok, Err, refl, sym, ap}
use Rattle.std.specs.Prelude.{if◌then◌else◌, slice_get, unwrap_or, ◌&&◌}
use Rattle.aq_base.specs.Values.{Row, values_at, has_no_null}
use Rattle.aq_base.specs.Maps.{at}
use Rattle.aq_base.specs.Blockers.{Ask, row_blockers}
use Rattle.aq_base.specs.Blockers.Ask.{For_row, For_key}
use Rattle.aq_base.specs.Databases.{Database, Stored, rows_with_key}
use Rattle.aq_base.specs.Events.{Event}
use Rattle.aq_base.specs.References.{is_reference, is_mixture}
use Rattle.aq_base.specs.declared.data.LockMode.{LockMode}
use Rattle.aq_base.specs.declared.data.LockMode.TheVariants as modes
use Rattle.aq_base.specs.declared.script.Kind.{Kind}
use Rattle.aq_base.specs.declared.fault.SqlFault.{SqlFault}
use Rattle.aq_base.specs.declared.catalog.Op.TheVariants as ops
use Rattle.aq_base.specs.declared.catalog.UniqueKey.{UniqueKey}
use Rattle.aq_base.specs.declared.catalog.ForeignKey.{ForeignKey}
use Rattle.aq_catalog.specs.Catalogs.{Catalog, keys_of}
use Rattle.aq_outcomes.specs.Schemas.{Schema}
use Rattle.aq_outcomes.specs.Parties.{Around, Party, ask_blockers, latest, seen, has_changed_since}
use Rattle.aq_outcomes.specs.Queued.{key_in}
use Rattle.aq_outcomes.specs.Rows.{Change, Outcome, Wish, unless_waiting, unless_changed, still_wanted, on_test, on_newest, wished, with_new, putting, unless_null, null_column, keys_probed, key_probed, unless_taken, is_taken, row_step, insert_step, mode_of, mode_for, changed_keys}
use Rattle.aq_outcomes.specs.Rows.Outcome.{Done, Waits}
use Rattle.aq_outcomes.specs.Rows.Wish.{To_delete, To_update, To_lock}
use Rattle.aq_outcomes.specs.Faults.{duplicate_key}
use Rattle.aq_outcomes.specs.References.{Checked, child_check, no_action_check, restrict_check, locking, is_live, unless_held, unless_gone, has_gone, on_parents, look_for_parent, where_reference, unless_mixed, where_live, check_key, with_child, with_other_parent, old_key}
use Rattle.aq_outcomes.specs.References.Checked.{Passes, Pair, Waits_for}
use Rattle.aq_run.specs.Waits.{is_empty}

-- somebody stands in the way
abbrev pub Is_blocked : Catalog → Around → ℕ → Ask → Type 0
Is_blocked cat others s ask = is_empty (ask_blockers cat others s ask) ≡ false

abbrev pub Waits_blocked : Catalog → Around → ℕ → Outcome → Type 0
Waits_blocked cat others s (Waits ask) = Is_blocked cat others s ask
Waits_blocked cat others s _ = Unit {0}

module _ (schema : Schema) (others : Around) (me : Party) where
  abbrev Fine : Outcome → Type 0
  Fine outcome = Waits_blocked schema.catalog others me.session outcome

  unless_waiting-blocked : (bs : List ℕ) (ask : Ask) (next : Outcome) → bs ≡ ask_blockers schema.catalog others me.session ask → Fine next → Fine (unless_waiting bs ask next)
  unless_waiting-blocked [] ask next is fine = fine
  unless_waiting-blocked (b ∷ bs) ask next is fine = ap is_empty (sym is)

  unless_changed-blocked : (changed : Bool) (next : Outcome) → Fine next → Fine (unless_changed changed next)
  unless_changed-blocked true next fine = tt
  unless_changed-blocked false next fine = fine

  on_test-blocked : (test : Result Bool Kind) (next : Outcome) → Fine next → Fine (on_test test next)
  on_test-blocked (Ok true) next fine = fine
  on_test-blocked (Ok false) next fine = tt
  on_test-blocked (Err kind) next fine = tt

  unless_null-blocked : (table : ℕ) (new : Row) (column : Option ℕ) (next : Outcome) → Fine next → Fine (unless_null schema table new column next)
  unless_null-blocked table new None next fine = fine
  unless_null-blocked table new (Some column) next fine = tt

  unless_taken-blocked : (taken : Bool) (fault : SqlFault) (next : Outcome) → Fine next → Fine (unless_taken taken fault next)
  unless_taken-blocked true fault next fine = tt
  unless_taken-blocked false fault next fine = fine

  if-blocked : (b : Bool) (one other : Outcome) → Fine one → Fine other → Fine (if b then one else other)
  if-blocked true one other fine fine' = fine
  if-blocked false one other fine fine' = fine'

  key_probed-blocked : (apart : Option ℕ) (new : Row) (number : ℕ) (key : Option UniqueKey) (next : Outcome) → Fine next → Fine (key_probed schema others me apart new number key next)
  key_probed-blocked apart new number None next fine = fine
  key_probed-blocked apart new number (Some key) next fine =
      if-blocked (has_no_null (values_at key.cols new)) _ _
      (unless_waiting-blocked (ask_blockers schema.catalog others me.session (For_key number (values_at key.cols new) apart)) (For_key number (values_at key.cols new) apart) _ refl
      (unless_taken-blocked (is_taken (latest others me) apart key (values_at key.cols new)) (duplicate_key schema key (values_at key.cols new)) _ fine))
      fine

  keys_probed-blocked : (apart : Option ℕ) (new : Row) (keys : List ℕ) (next : Outcome) → Fine next → Fine (keys_probed schema others me apart new keys next)
  keys_probed-blocked apart new [] next fine = fine
  keys_probed-blocked apart new (number ∷ numbers) next fine =
      key_probed-blocked apart new number (slice_get schema.catalog.keys number) _ (keys_probed-blocked apart new numbers next fine)

  putting-blocked : (keys : List ℕ) (change : Change) (lock : Option LockMode) (new : Row) → Fine (putting schema others me keys change lock new)
  putting-blocked keys change lock new =
      unless_null-blocked change.table new (null_column schema change.table new) _ (keys_probed-blocked change.row new keys (Done change lock) tt)

  pub insert_step-blocked : (table : ℕ) (new : Row) → Fine (insert_step schema others me table new)
  unfolding insert_step
  insert_step-blocked table new =
      putting-blocked (keys_of schema.catalog table) (record { table = table; row = None; op = ops.Insert; old = None; new = Some new }) None new

  with_new-blocked : (table row : ℕ) (old : Row) (new : Result Row Kind) → Fine (with_new schema others me table row old new)
  with_new-blocked table row old (Err kind) = tt
  with_new-blocked table row old (Ok new) =
      unless_waiting-blocked (ask_blockers schema.catalog others me.session (For_row row (mode_for (changed_keys schema.catalog table old new)))) (For_row row (mode_for (changed_keys schema.catalog table old new))) _ refl
      (putting-blocked (changed_keys schema.catalog table old new) (record { table = table; row = Some row; op = ops.Update; old = Some old; new = Some new }) (Some (mode_for (changed_keys schema.catalog table old new))) new)

  wished-blocked : (table row : ℕ) (old : Row) (wish : Wish) → Fine (wished schema others me table row old wish)
  wished-blocked table row old To_delete = tt
  wished-blocked table row old (To_update new_version) = with_new-blocked table row old (new_version old)
  wished-blocked table row old (To_lock mode) = tt

  on_newest-blocked : (table row : ℕ) (wish : Wish) (test : Row → Result Bool Kind) (stored : Option Stored) → Fine (on_newest schema others me table row wish test stored)
  on_newest-blocked table row wish test None = tt
  on_newest-blocked table row wish test (Some stored) = on_test-blocked (still_wanted me.fixed test stored.values) _ (wished-blocked table row stored.values wish)

  pub row_step-blocked : (table : ℕ) (wish : Wish) (test : Row → Result Bool Kind) (row : ℕ) → Fine (row_step schema others me table wish test row)
  unfolding row_step
  row_step-blocked table wish test row =
      unless_waiting-blocked (ask_blockers schema.catalog others me.session (For_row row (mode_of wish))) (For_row row (mode_of wish)) _ refl
      (unless_changed-blocked (has_changed_since others me row) _ (on_newest-blocked table row wish test (at row (latest others me))))

-- ---- checks

abbrev pub Check_blocked : Catalog → Around → ℕ → Checked → Type 0
Check_blocked cat others s (Waits_for ask) = Is_blocked cat others s ask
Check_blocked cat others s _ = Unit {0}

module _ (cat : Catalog) (others : Around) (me : Party) where
  abbrev Good : Checked → Type 0
  Good checked = Check_blocked cat others me.session checked

  unless_held-blocked : (bs : List ℕ) (row : ℕ) (next : Checked) → bs ≡ row_blockers me.session others.holdings row modes.KeyShare → Good next → Good (unless_held bs row next)
  unless_held-blocked [] row next is good = good
  unless_held-blocked (b ∷ bs) row next is good = ap is_empty (sym is)

  locking-blocked : (row : ℕ) (next : Checked) → Good next → Good (locking others me row next)
  locking-blocked row next good = unless_held-blocked (row_blockers me.session others.holdings row modes.KeyShare) row next refl good

  unless_gone-blocked : (gone : Bool) (next : Checked) → Good next → Good (unless_gone gone next)
  unless_gone-blocked true next good = tt
  unless_gone-blocked false next good = good

  on_parents-blocked : (f : ForeignKey) (key : Row) (parents : Database) → Good (on_parents others me f key parents)
  on_parents-blocked f key [] = tt
  on_parents-blocked f key (parent ∷ rest) =
      locking-blocked parent.0 (unless_gone (has_gone others me f key parent.0 me.fixed) (Passes (Some parent.0)))
      (unless_gone-blocked (has_gone others me f key parent.0 me.fixed) (Passes (Some parent.0)) tt)

  where_reference-blocked : (refers : Bool) (next : Checked) → Good next → Good (where_reference refers next)
  where_reference-blocked true next good = good
  where_reference-blocked false next good = tt

  unless_mixed-blocked : (mixed : Bool) (next : Checked) → Good next → Good (unless_mixed mixed next)
  unless_mixed-blocked true next good = tt
  unless_mixed-blocked false next good = good

  where_live-blocked : (live : Bool) (next : Checked) → Good next → Good (where_live live next)
  where_live-blocked true next good = good
  where_live-blocked false next good = tt

  pub child_check-blocked : (f : ForeignKey) (event : Event) → Good (child_check others me f event)
  unfolding child_check
  child_check-blocked f event =
      where_live-blocked (is_live me event) (check_key others me f (key_in f.child_cols event.new))
      (unless_mixed-blocked (f.full && is_mixture (key_in f.child_cols event.new)) (where_reference (is_reference f.full (key_in f.child_cols event.new)) (look_for_parent others me f (key_in f.child_cols event.new)))
      (where_reference-blocked (is_reference f.full (key_in f.child_cols event.new)) (look_for_parent others me f (key_in f.child_cols event.new))
      (on_parents-blocked f (key_in f.child_cols event.new) (rows_with_key f.parent f.parent_cols (key_in f.child_cols event.new) (seen others me)))))

  with_child-blocked : (f : ForeignKey) (event : Event) (key : Row) (children : Database) → Good (with_child others me f event key children)
  with_child-blocked f event key [] = tt
  with_child-blocked f event key (child ∷ rest) = locking-blocked child.0 (Pair (unwrap_or event.row 0) child.0 key) tt

  with_other_parent-blocked : (f : ForeignKey) (event : Event) (key : Row) (parents : Database) → Good (with_other_parent others me f event key parents)
  with_other_parent-blocked f event key [] = with_child-blocked f event key (rows_with_key f.child f.child_cols key (latest others me))
  with_other_parent-blocked f event key (parent ∷ rest) = locking-blocked parent.0 (Passes (Some parent.0)) tt

  pub no_action_check-blocked : (f : ForeignKey) (event : Event) → Good (no_action_check others me f event)
  unfolding no_action_check
  no_action_check-blocked f event = with_other_parent-blocked f event (old_key f event) (rows_with_key f.parent f.parent_cols (old_key f event) (latest others me))

  pub restrict_check-blocked : (f : ForeignKey) (event : Event) → Good (restrict_check others me f event)
  unfolding restrict_check
  restrict_check-blocked f event = with_child-blocked f event (old_key f event) (rows_with_key f.child f.child_cols (old_key f event) (latest others me))
