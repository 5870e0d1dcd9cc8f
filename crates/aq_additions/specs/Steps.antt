-- The steps by which a statement changes the catalog, and what they leave as it was.
use Rattle.std.specs.Prelude.{ℕ, ◌≡◌, Bool, if◌then◌else◌, List, [], ◌∷◌, Option, Some, None, length, map, take, unwrap_or}
use Rattle.std.specs.List.{flat_map}
use Rattle.aq_base.specs.Names.{Text}
use Rattle.aq_base.specs.declared.catalog.Op.TheVariants as ops
use Rattle.aq_base.specs.declared.catalog.Table.{Table}
use Rattle.aq_base.specs.declared.catalog.ForeignKey.{ForeignKey}
use Rattle.aq_base.specs.declared.catalog.Trigger.{Trigger}
use Rattle.aq_base.specs.declared.catalog.Does.TheVariants.{Check, Parent}
use Rattle.aq_catalog.specs.Catalogs.{Catalog, columns_at, number_of_table, number_of_column}
use Rattle.aq_setup.specs.References.{parent_cols, set_numbers}
use Rattle.aq_setup.specs.Tables.{Referring, without_nulls, reference_trigger, parent_trigger_name, child_trigger_name, action_con, is_full}

-- what stood in the catalog stands there still, of the tables the first n
pub record Follows (n : ℕ) (old new : Catalog) : Type 0 where
  pub tables : take n new.tables ≡ take n old.tables
  pub keys : take (length old.keys) new.keys ≡ old.keys
  pub primaries : take (length old.primaries) new.primaries ≡ old.primaries
  pub fks : take (length old.fks) new.fks ≡ old.fks
  pub constraints : take (length old.constraints) new.constraints ≡ old.constraints
  pub functions : take (length old.functions) new.functions ≡ old.functions
  pub triggers : take (length old.triggers) new.triggers ≡ old.triggers

-- the same of all tables
unfoldable pub Extends : Catalog → Catalog → Type 0
Extends old new = (n : ℕ) → Follows n old new

-- the columns that hold no null in a table, with others
abbrev pub nulls_in : Option Table → List Text → List ℕ
nulls_in None names = []
nulls_in (Some t) names = (without_nulls (map (number_of_column t.cols) names) t).not_null

-- the places that pass a test
abbrev pub among_places : {A : Type 0} → (ℕ → Bool) → List (ℕ × A) → List ℕ
among_places test entries = flat_map (λ entry. if test entry.0 then entry.0 ∷ [] else []) entries

-- a foreign key
abbrev pub made_fk : ℕ → Referring → Catalog → ForeignKey
made_fk child f cat =
    record {
      name = f.name;
      child = child;
      child_cols = map (number_of_column (columns_at cat child)) f.cols;
      parent = number_of_table cat f.reference.table;
      parent_cols = unwrap_or (parent_cols cat f.reference) [];
      full = is_full f.reference.matching;
      on_delete = f.reference.on_delete;
      on_update = f.reference.on_update;
      con = length cat.constraints;
      set_cols = set_numbers (columns_at cat child) f.cols f.reference.set_columns;
    }

-- its triggers
abbrev pub made_triggers : ℕ → Referring → Catalog → List Trigger
made_triggers child f cat =
    let fk : ℕ = length cat.fks in
    let con : ℕ = length cat.constraints in
    let parent : ℕ = number_of_table cat f.reference.table in
    reference_trigger (parent_trigger_name fk) parent (ops.Delete ∷ []) (action_con f.reference.on_delete con) (Parent fk)
    ∷ reference_trigger (parent_trigger_name fk) parent (ops.Update ∷ []) (action_con f.reference.on_update con) (Parent fk)
    ∷ reference_trigger (child_trigger_name fk) child (ops.Insert ∷ ops.Update ∷ []) (Some con) (Check fk)
    ∷ []
