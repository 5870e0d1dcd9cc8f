-- What a check that passes has found.
use Rattle.std.proofs.Common.{◌≡◌, ℕ, true, false, cond, ◌⊎◌, inl, inr, Some, ◌∙◌, ap}
use Rattle.std.proofs.lemmas.Bool.{eq-eqb, cases_Bool}
use Rattle.aq_base.specs.Values.{Row, has_no_null}
use Rattle.aq_base.specs.Maps.{at}
use Rattle.aq_first_base.specs.Databases.{Database, Stored, has_key}
use Rattle.aq_first_base.specs.References.{HasParent}
use Rattle.aq_first_base.specs.Writes.{Write, Writes}
use Rattle.aq_first_base.specs.Works.{Event}
use Rattle.aq_first_base.specs.declared.catalog.ForeignKey.{ForeignKey}
use Rattle.aq_base.proofs.Maps.{KeysRise, Passing-any, passes_none}
use Rattle.aq_first_outcomes.specs.Faults.Fault.{Missing, Referenced}
use Rattle.aq_first_outcomes.specs.References.{is_live, has_parent, look_for_parent, key_in, child_check, has_child, parent_check}
use Rattle.aq_first_outcomes.specs.References.Checked.{Passed, Skipped, Violated}

pub HasParent-found : (f : ForeignKey) (key : Row) (view : Database) → KeysRise view → has_parent f key view ≡ true → HasParent f key view
HasParent-found f key view rise found =
    let passing = Passing-any (has_key f.parent f.parent_cols key) view rise found in
    record { number = passing.number; row = passing.value; stands = passing.stands; has = passing.passes }

-- the check of a live event whose key has no null finds a parent, or is violated
pub child_check-cases : (f : ForeignKey) (event : Event) (write : Write) (writes : Writes) (view : Database) → KeysRise view → at event.row writes ≡ Some write → write.number ≡ event.write
    → has_no_null (key_in f.child_cols event.new) ≡ true → HasParent f (key_in f.child_cols event.new) view ⊎ (child_check f event writes view ≡ Violated (Missing f (key_in f.child_cols event.new)))
child_check-cases f event write writes view rise written live no_null = by_test (cases_Bool (has_parent f key view))
  where
    key : Row
    key = key_in f.child_cols event.new

    looks : child_check f event writes view ≡ look_for_parent f key view
    looks = ap (λ o. cond (is_live event o) (look_for_parent f key view) Skipped) written ∙ ap (λ b. cond b (look_for_parent f key view) Skipped) (eq-eqb write.number event.write live)

    finds : look_for_parent f key view ≡ cond (has_parent f key view) Passed (Violated (Missing f key))
    finds = ap (λ b. cond b (cond (has_parent f key view) Passed (Violated (Missing f key))) Passed) no_null

    by_test : (has_parent f key view ≡ true) ⊎ (has_parent f key view ≡ false) → HasParent f key view ⊎ (child_check f event writes view ≡ Violated (Missing f key))
    by_test (inl found) = inl (HasParent-found f key view rise found)
    by_test (inr missing) = inr (looks ∙ finds ∙ ap (λ b. cond b Passed (Violated (Missing f key))) missing)

-- no row of the child table has the key
pub record HasNoChild (f : ForeignKey) (key : Row) (view : Database) : Type 0 where
  pub none : (number : ℕ) (row : Stored) → at number view ≡ Some row → has_key f.child f.child_cols key row ≡ false

-- what the look for children of a parent row that went may find
pub data ParentCases (f : ForeignKey) (event : Event) (view : Database) : Type 0 where
  Other_parent : (parent : HasParent f (key_in f.parent_cols event.old) view) → ParentCases f event view
  No_child : (none : HasNoChild f (key_in f.parent_cols event.old) view) → ParentCases f event view
  Left_child : (violated : parent_check f event view ≡ Violated (Referenced f (key_in f.parent_cols event.old))) → ParentCases f event view

pub parent_check-cases : (f : ForeignKey) (event : Event) (view : Database) → KeysRise view → ParentCases f event view
parent_check-cases f event view rise = by_test (cases_Bool (has_parent f key view)) (cases_Bool (has_child f key view))
  where
    key : Row
    key = key_in f.parent_cols event.old

    looks : has_parent f key view ≡ false → parent_check f event view ≡ cond (has_child f key view) (Violated (Referenced f key)) Passed
    looks missing = ap (λ b. cond b Passed (cond (has_child f key view) (Violated (Referenced f key)) Passed)) missing

    by_test : (has_parent f key view ≡ true) ⊎ (has_parent f key view ≡ false) → (has_child f key view ≡ true) ⊎ (has_child f key view ≡ false) → ParentCases f event view
    by_test (inl found) child = Other_parent (HasParent-found f key view rise found)
    by_test (inr missing) (inl child) = Left_child (looks missing ∙ ap (λ b. cond b (Violated (Referenced f key)) Passed) child)
    by_test (inr missing) (inr free) = No_child (record { none = passes_none (has_key f.child f.child_cols key) view free })
