-- What a setup makes: tables, keys, constraints, functions and triggers, each under a number (PostgreSQL manual, chapter "System Catalogs",
-- pages pg_class, pg_attribute, pg_constraint, pg_proc and pg_trigger).
use Rattle.std.specs.Prelude.{ℕ, Bool, true, false, ◌&&◌, ◌==◌, List, [], ◌∷◌, Option, Some, None, if◌then◌else◌, filter, find, is_some, map, position, option_map, slice_get, unwrap_or}
use Rattle.std.specs.List.{list_any, enumerate_from, flat_map}
use Rattle.std.specs.Ordering.{nat_cmp, is_lt}
use Rattle.std.specs.Cmp.Lexicographic.{slice_cmp}
use Rattle.aq_base.specs.Names.{Text, same_text}
use Rattle.aq_base.specs.declared.script.Kind.{Kind}
use Rattle.aq_base.specs.declared.catalog.Op.{Op}
use Rattle.aq_base.specs.declared.catalog.Op.TheVariants as ops
use Rattle.aq_base.specs.declared.catalog.Column.{Column}
use Rattle.aq_base.specs.declared.catalog.Table.{Table}
use Rattle.aq_base.specs.declared.catalog.UniqueKey.{UniqueKey}
use Rattle.aq_base.specs.declared.catalog.ForeignKey.{ForeignKey}
use Rattle.aq_base.specs.declared.catalog.Constraint.{Constraint}
use Rattle.aq_base.specs.declared.catalog.Function.{Function}
use Rattle.aq_base.specs.declared.catalog.Trigger.{Trigger}
use Rattle.aq_base.specs.declared.catalog.NativeName.{NativeName}

-- each list in creation order: a number is a place in it
pub record Catalog : Type 0 where
  pub tables : List Table
  pub keys : List UniqueKey
  -- the numbers of the keys that are primary keys
  pub primaries : List ℕ
  pub fks : List ForeignKey
  pub constraints : List Constraint
  pub functions : List Function
  pub triggers : List Trigger

abbrev pub no_tables : Catalog
no_tables = record { tables = []; keys = []; primaries = []; fks = []; constraints = []; functions = []; triggers = [] }

-- ---- what has a name

-- the places of what passes a test, counted from 0
abbrev pub places : {A : Type 0} → (A → Bool) → List A → List ℕ
places test xs = flat_map (λ entry. if test entry.1 then entry.0 ∷ [] else []) (enumerate_from 0 xs)

abbrev pub table_number : Catalog → Text → Option ℕ
table_number cat name = position (λ table. same_text table.name name) cat.tables

abbrev pub table_named : Catalog → Text → Option Table
table_named cat name = find (λ table. same_text table.name name) cat.tables

-- the columns of a table; none where there is no such table
abbrev pub columns_of : Option Table → List Column
columns_of None = []
columns_of (Some table) = table.cols

abbrev pub table_columns : Catalog → Text → List Column
table_columns cat name = columns_of (table_named cat name)

abbrev pub columns_at : Catalog → ℕ → List Column
columns_at cat table = columns_of (slice_get cat.tables table)

abbrev pub column_number : List Column → Text → Option ℕ
column_number cols name = position (λ col. same_text col.name name) cols

abbrev pub column_kind : List Column → Text → Option Kind
column_kind cols name = option_map (λ col. col.kind) (find (λ col. same_text col.name name) cols)

abbrev pub function_named : Catalog → Text → Option Function
function_named cat name = find (λ function. same_text function.name name) cat.functions

abbrev pub native_named : List NativeName → Text → Option NativeName
native_named natives name = find (λ native. same_text native.name name) natives

-- a name stands for every constraint that has it, whatever its table
abbrev pub constraints_named : Catalog → Text → List ℕ
constraints_named cat name = places (λ con. same_text con.name name) cat.constraints

-- ---- the numbers of names that are there

abbrev pub number_of_table : Catalog → Text → ℕ
number_of_table cat name = unwrap_or (table_number cat name) 0

abbrev pub number_of_column : List Column → Text → ℕ
number_of_column cols name = unwrap_or (column_number cols name) 0

-- ---- what a table has

abbrev pub keys_of : Catalog → ℕ → List ℕ
keys_of cat table = places (λ key. key.table == table) cat.keys

abbrev pub is_number_in : List ℕ → ℕ → Bool
is_number_in numbers n = list_any (λ m. m == n) numbers

-- the columns of a table's primary key
abbrev pub primary_cols : Catalog → ℕ → Option (List ℕ)
primary_cols cat table =
    option_map (λ entry. entry.1.cols) (find (λ entry. is_number_in cat.primaries entry.0 && entry.1.table == table) (enumerate_from 0 cat.keys))

abbrev pub has_primary : Catalog → Option ℕ → Bool
has_primary cat None = false
has_primary cat (Some table) = is_some (primary_cols cat table)

-- the names of a table's constraints
abbrev pub names_in : List Constraint → ℕ → List Text
names_in constraints table = map (λ con. con.name) (filter (λ con. con.table == table) constraints)

abbrev pub constraint_names : Catalog → ℕ → List Text
constraint_names cat table = names_in cat.constraints table

-- those of a table that may be missing
abbrev pub names_taken : Catalog → Option ℕ → List Text
names_taken cat None = []
names_taken cat (Some table) = constraint_names cat table

abbrev pub trigger_names : Catalog → ℕ → List Text
trigger_names cat table = map (λ trigger. trigger.name) (filter (λ trigger. trigger.table == table) cat.triggers)

-- ---- the triggers that a change of a table fires, in byte order of their names

abbrev pub same_op : Op → Op → Bool
same_op ops.Insert ops.Insert = true
same_op ops.Update ops.Update = true
same_op ops.Delete ops.Delete = true
same_op _ _ = false

abbrev pub fires_on : ℕ → Op → Trigger → Bool
fires_on table op trigger = trigger.table == table && list_any (same_op op) trigger.ops

abbrev pub stands_before : Text → Text → Bool
stands_before a b = is_lt (slice_cmp nat_cmp a b)

-- a numbered trigger among those that are in order, behind those of its name
abbrev pub in_its_place : ℕ × Trigger → List (ℕ × Trigger) → List (ℕ × Trigger)
in_its_place entry [] = entry ∷ []
in_its_place entry (next ∷ others) =
    if stands_before entry.1.name next.1.name then entry ∷ next ∷ others else next ∷ in_its_place entry others

-- those that are in order, with others, one after the other
abbrev pub in_name_order : List (ℕ × Trigger) → List (ℕ × Trigger) → List (ℕ × Trigger)
in_name_order sorted [] = sorted
in_name_order sorted (entry ∷ others) = in_name_order (in_its_place entry sorted) others

abbrev pub triggers_of : Catalog → ℕ → Op → List ℕ
triggers_of cat table op =
    map (λ entry. entry.0) (in_name_order [] (filter (λ entry. fires_on table op entry.1) (enumerate_from 0 cat.triggers)))
