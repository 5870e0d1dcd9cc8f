-- CREATE TABLE and ALTER TABLE ADD: the faults in their order, and the catalog that is made (PostgreSQL manual, pages CREATE TABLE and ALTER
-- TABLE). Within one line of the order faults stand in the order of the text.
use Rattle.std.specs.Prelude.{ℕ, ◌+◌, Bool, true, false, List, [], ◌∷◌, ◌++◌, codes, Option, Some, None, if◌then◌else◌, filter, is_some, length, map, nat_le, nat_lt, slice_get, slice_set, unwrap_or, replicate, ◌-◌, ◌||◌}
use Rattle.std.specs.List.{list_any, flat_map}
use Rattle.std.specs.Fmt.{decimal}
use Rattle.aq_base.specs.Names.{Text, is_short}
use Rattle.aq_base.specs.declared.fault.SqlFault.{SqlFault}
use Rattle.aq_base.specs.declared.value.Value.{Value}
use Rattle.aq_base.specs.declared.value.Value.TheVariants as values
use Rattle.aq_base.specs.declared.script.Kind.{Kind}
use Rattle.aq_base.specs.declared.catalog.Decl.{Decl}
use Rattle.aq_base.specs.declared.catalog.Op.{Op}
use Rattle.aq_base.specs.declared.catalog.Op.TheVariants as ops
use Rattle.aq_base.specs.declared.constraint.Match.{Match}
use Rattle.aq_base.specs.declared.constraint.Match.TheVariants as matches
use Rattle.aq_base.specs.declared.constraint.Action.{Action}
use Rattle.aq_base.specs.declared.constraint.Action.TheVariants as actions
use Rattle.aq_base.specs.declared.constraint.Reference.{Reference}
use Rattle.aq_base.specs.declared.constraint.ColumnConstraint.{ColumnConstraint}
use Rattle.aq_base.specs.declared.constraint.ColumnConstraint.TheVariants as on_columns
use Rattle.aq_base.specs.declared.constraint.TableConstraint.{TableConstraint}
use Rattle.aq_base.specs.declared.constraint.TableConstraint.TheVariants as on_tables
use Rattle.aq_base.specs.declared.table.TableItem.{TableItem}
use Rattle.aq_base.specs.declared.table.TableItem.TheVariants as items
use Rattle.aq_base.specs.declared.table.CreateTable.{CreateTable}
use Rattle.aq_base.specs.declared.table.AlterTable.{AlterTable}
use Rattle.aq_base.specs.declared.trigger.Each.TheVariants as each
use Rattle.aq_base.specs.declared.catalog.Column.{Column}
use Rattle.aq_base.specs.declared.catalog.Table.{Table}
use Rattle.aq_base.specs.declared.catalog.Trigger.{Trigger}
use Rattle.aq_base.specs.declared.catalog.Does.{Does}
use Rattle.aq_base.specs.declared.catalog.Does.TheVariants.{Check, Parent}
use Rattle.aq_catalog.specs.Catalogs.{Catalog, table_number, table_columns, columns_at, places, is_number_in, has_primary, names_taken, number_of_table, number_of_column}
use Rattle.aq_setup.specs.Scopes.{repeats, repeats_behind}
use Rattle.aq_setup.specs.Names.{unknown, table_faults}
use Rattle.aq_setup.specs.Kinds.{same_kind, constant_kind}
use Rattle.aq_setup.specs.Constraints.{of_item, constrained_columns, reference_of, is_primary, NamedConstraint, named}
use Rattle.aq_setup.specs.References.{parent_cols, set_numbers, count_faults, key_faults, primary_faults, set_faults, kind_faults}
use Rattle.aq_setup.specs.Order.{SetupFaults, faultless}
use Rattle.aq_refusals.specs.Faults.{no_column, column_twice, over_limit, long_name, relation_exists, constraint_exists, many_primary_keys, wrong_default}

-- ---- columns

abbrev pub default_in : List ColumnConstraint → Value
default_in [] = values.Null
default_in (on_columns.Default value ∷ others) = value
default_in (other ∷ others) = default_in others

abbrev pub is_not_null : ColumnConstraint → Bool
is_not_null on_columns.NotNull = true
is_not_null _ = false

abbrev pub item_columns : TableItem → List Column
item_columns (items.Column name kind found) = record { name = name; kind = kind; default = default_in found } ∷ []
item_columns (items.Constraint constraint) = []

abbrev pub item_nulls : TableItem → List Bool
item_nulls (items.Column name kind found) = list_any is_not_null found ∷ []
item_nulls (items.Constraint constraint) = []

abbrev pub declared_columns : List TableItem → List Column
declared_columns found = flat_map item_columns found

abbrev pub declared_table : CreateTable → Table
declared_table s = record { name = s.table; cols = declared_columns s.items; not_null = places (λ b. b) (flat_map item_nulls s.items) }

-- ---- constraints that are added to a table

pub record Added : Type 0 where
  pub table : Text
  -- none where the table is not there
  pub number : Option ℕ
  -- the catalog with the table, and without the constraints
  pub before : Catalog
  pub constraints : List NamedConstraint

abbrev pub added : Text → Option ℕ → Catalog → List TableConstraint → Added
added table number cat constraints =
    record { table = table; number = number; before = cat; constraints = named (names_taken cat number) table constraints }

abbrev pub created : Catalog → CreateTable → Added
created cat s = added s.table (Some (length cat.tables)) (record cat { tables = cat.tables ++ declared_table s ∷ [] }) (flat_map of_item s.items)

abbrev pub altered : Catalog → AlterTable → Added
altered cat s = added s.table (table_number cat s.table) cat (s.constraint ∷ [])

abbrev pub number_in : Added → ℕ
number_in a = unwrap_or a.number 0

-- the foreign keys among them
pub record Referring : Type 0 where
  pub name : Text
  pub cols : List Text
  pub reference : Reference

abbrev pub referring_of : NamedConstraint → List Referring
referring_of n =
    elim (reference_of n.constraint) [ None ↦ [] | Some r ↦ record { name = n.name; cols = constrained_columns n.constraint; reference = r } ∷ [] ]

abbrev pub referring : Added → List Referring
referring a = flat_map referring_of a.constraints

-- ---- the catalog that is made: the table, then its keys, then its foreign keys

abbrev pub never_deferred : Decl
never_deferred = record { deferrable = false; deferred = false }

abbrev pub with_key : ℕ → Text → List Text → Catalog → Catalog
with_key table name cols cat =
    record cat {
      keys = cat.keys ++ record { name = name; table = table; cols = map (number_of_column (columns_at cat table)) cols } ∷ [];
      constraints = cat.constraints ++ record { name = name; table = table; decl = never_deferred } ∷ [];
    }

-- the columns of a primary key hold no null
abbrev pub without_nulls : List ℕ → Table → Table
without_nulls cols table =
    record table { not_null = places (λ b. b) (map (λ n. is_number_in table.not_null n || is_number_in cols n) (places (λ col. true) table.cols)) }

abbrev pub with_not_null : ℕ → List Text → Catalog → Catalog
with_not_null table names cat =
    elim (slice_get cat.tables table) [
      | None ↦ cat
      | Some t ↦ record cat { tables = slice_set cat.tables table (without_nulls (map (number_of_column t.cols) names) t) }
    ]

abbrev pub with_constraint_key : ℕ → Text → TableConstraint → Catalog → Catalog
with_constraint_key table name (on_tables.PrimaryKey given cols) cat =
    with_not_null table cols (with_key table name cols (record cat { primaries = cat.primaries ++ length cat.keys ∷ [] }))
with_constraint_key table name (on_tables.Unique given cols) cat = with_key table name cols cat
with_constraint_key table name (on_tables.ForeignKey given cols reference) cat = cat

abbrev pub with_keys : ℕ → List NamedConstraint → Catalog → Catalog
with_keys table [] cat = cat
with_keys table (n ∷ others) cat = with_keys table others (with_constraint_key table n.name n.constraint cat)

abbrev pub keyed : Added → Catalog
keyed a = with_keys (number_in a) a.constraints a.before

-- a number in ten digits
abbrev pub ten_digits : ℕ → Text
ten_digits n = replicate (10 - length (decimal n)) 48 ++ decimal n

-- `RI_ConstraintTrigger_a_N` on the parent table, `RI_ConstraintTrigger_c_N` on the child table, with the foreign keys counted from 1
abbrev pub parent_trigger_name : ℕ → Text
parent_trigger_name fk = codes "RI_ConstraintTrigger_a_" ++ ten_digits (fk + 1)

abbrev pub child_trigger_name : ℕ → Text
child_trigger_name fk = codes "RI_ConstraintTrigger_c_" ++ ten_digits (fk + 1)

abbrev pub reference_trigger : Text → ℕ → List Op → Option ℕ → Does → Trigger
reference_trigger name table fired con does =
    record { name = name; table = table; ops = fired; cols = []; level = each.Row; condition = None; con = con; does = does; old_table = None; new_table = None }

-- NO ACTION alone waits as its constraint says; every other action is immediate
abbrev pub action_con : Action → ℕ → Option ℕ
action_con actions.NoAction con = Some con
action_con _ con = None

abbrev pub is_full : Match → Bool
is_full matches.Simple = false
is_full matches.Full = true

-- the foreign key, its constraint, and its three triggers: for a DELETE of the parent table, for an UPDATE of it, and for the child table
abbrev pub with_reference : ℕ → Referring → Catalog → Catalog
with_reference child f cat =
    let fk : ℕ = length cat.fks in
    let con : ℕ = length cat.constraints in
    let parent : ℕ = number_of_table cat f.reference.table in
    record cat {
      fks =
          cat.fks
          ++ record {
            name = f.name;
            child = child;
            child_cols = map (number_of_column (columns_at cat child)) f.cols;
            parent = parent;
            parent_cols = unwrap_or (parent_cols cat f.reference) [];
            full = is_full f.reference.matching;
            on_delete = f.reference.on_delete;
            on_update = f.reference.on_update;
            con = con;
            set_cols = set_numbers (columns_at cat child) f.cols f.reference.set_columns;
          }
          ∷ [];
      constraints = cat.constraints ++ record { name = f.name; table = child; decl = f.reference.timing } ∷ [];
      triggers =
          cat.triggers
          ++ reference_trigger (parent_trigger_name fk) parent (ops.Delete ∷ []) (action_con f.reference.on_delete con) (Parent fk)
          ∷ reference_trigger (parent_trigger_name fk) parent (ops.Update ∷ []) (action_con f.reference.on_update con) (Parent fk)
          ∷ reference_trigger (child_trigger_name fk) child (ops.Insert ∷ ops.Update ∷ []) (Some con) (Check fk)
          ∷ [];
    }

abbrev pub with_references : ℕ → List Referring → Catalog → Catalog
with_references child [] cat = cat
with_references child (f ∷ others) cat = with_references child others (with_reference child f cat)

abbrev pub with_added : Added → Catalog
with_added a = with_references (number_in a) (referring a) (keyed a)

-- ---- faults of the added constraints, one line of the order after the other

-- 54000 and 42622
abbrev pub reference_limit : Added → List SqlFault
reference_limit a =
    if nat_le (length a.before.fks + length (referring a)) 128 then [] else over_limit (codes "128 foreign keys") ∷ []

abbrev pub long_names : Added → List SqlFault
long_names a = flat_map (λ n. if is_short n.name then [] else long_name n.name ∷ []) a.constraints

-- 42710: a name that a constraint of the table has that stands before
abbrev pub constraints_exist : Added → List SqlFault
constraints_exist a = map (constraint_exists a.table) (repeats_behind (names_taken a.before a.number) (map (λ n. n.name) a.constraints))

-- 42701: in the columns of a key, of a foreign key and of what it refers to
abbrev pub referred_names : Option Reference → List Text
referred_names None = []
referred_names (Some r) = unwrap_or r.columns []

abbrev pub listed_twice : TableConstraint → List SqlFault
listed_twice c = map column_twice (repeats (constrained_columns c) ++ repeats (referred_names (reference_of c)))

-- 42P16: the table has a primary key, or gets a second
abbrev pub second_primary : Added → List SqlFault
second_primary a =
    let had : ℕ = (if has_primary a.before a.number then 1 else 0) in
    if nat_le (had + length (filter (λ n. is_primary n.constraint) a.constraints)) 1 then [] else many_primary_keys a.table ∷ []

-- 42P01, then 42703
abbrev pub missing_parents : Added → List SqlFault
missing_parents a = flat_map (λ f. table_faults a.before f.reference.table) (referring a)

abbrev pub referred_unknown : Catalog → Option Reference → List Text
referred_unknown cat None = []
referred_unknown cat (Some r) = flat_map (unknown (table_columns cat r.table)) (unwrap_or r.columns [])

abbrev pub constraint_unknown : Catalog → Text → TableConstraint → List Text
constraint_unknown cat table c =
    flat_map (unknown (table_columns cat table)) (constrained_columns c) ++ referred_unknown cat (reference_of c)

abbrev pub missing_columns : Added → List SqlFault
missing_columns a = map no_column (flat_map (λ n. constraint_unknown a.before a.table n.constraint) a.constraints)

-- 42830: first every unequal number of columns, then every reference to no key
abbrev pub unreferable : Added → List SqlFault
unreferable a =
    flat_map (λ f. count_faults (keyed a) (length f.cols) f.reference) (referring a) ++ flat_map (λ f. key_faults (keyed a) f.reference) (referring a)

-- 42704
abbrev pub without_primary : Added → List SqlFault
without_primary a = flat_map (λ f. primary_faults (keyed a) f.reference) (referring a)

-- 42P10
abbrev pub outside_keys : Added → List SqlFault
outside_keys a = flat_map (λ f. set_faults f.cols f.reference) (referring a)

-- 42804 of foreign keys
abbrev pub unequal_references : Added → List SqlFault
unequal_references a = flat_map (λ f. kind_faults (keyed a) a.table f.name f.cols f.reference) (referring a)

-- ---- faults of the statements

abbrev pub table_limit : Catalog → List SqlFault
table_limit cat = if nat_lt (length cat.tables) 64 then [] else over_limit (codes "64 tables") ∷ []

abbrev pub column_limit : CreateTable → List SqlFault
column_limit s = if nat_le (length (declared_columns s.items)) 32 then [] else over_limit (codes "32 columns") ∷ []

abbrev pub table_exists : Catalog → Text → List SqlFault
table_exists cat table = if is_some (table_number cat table) then relation_exists table ∷ [] else []

-- 42701: a column that stands before, or a list of columns with one twice
abbrev pub items_twice : List Text → List TableItem → List SqlFault
items_twice before [] = []
items_twice before (item ∷ others) =
    let names : List Text = map (λ col. col.name) (item_columns item) in
    map column_twice (repeats_behind before names) ++ (flat_map listed_twice (of_item item) ++ items_twice (before ++ names) others)

-- 42804 of a DEFAULT
abbrev pub default_fits : Option Kind → Column → List SqlFault
default_fits None col = []
default_fits (Some found) col = if same_kind col.kind found then [] else wrong_default col.name col.kind found ∷ []

abbrev pub default_faults : Column → List SqlFault
default_faults col = default_fits (constant_kind col.default) col

abbrev pub create_table_faults : Catalog → CreateTable → SetupFaults
create_table_faults cat s =
    let a : Added = created cat s in
    record faultless {
      limits = table_limit cat ++ (column_limit s ++ (reference_limit a ++ long_names a));
      exists = table_exists cat s.table ++ constraints_exist a;
      twice = items_twice [] s.items ++ second_primary a;
      missing = missing_parents a ++ missing_columns a;
      referred = unreferable a;
      unkeyed = without_primary a;
      outside = outside_keys a;
      kinds = unequal_references a ++ flat_map default_faults (declared_columns s.items);
    }

abbrev pub alter_table_faults : Catalog → AlterTable → SetupFaults
alter_table_faults cat s =
    let a : Added = altered cat s in
    record faultless {
      limits = reference_limit a ++ long_names a;
      exists = constraints_exist a;
      twice = listed_twice s.constraint ++ second_primary a;
      missing = table_faults cat s.table ++ (missing_parents a ++ missing_columns a);
      referred = unreferable a;
      unkeyed = without_primary a;
      outside = outside_keys a;
      kinds = unequal_references a;
    }
