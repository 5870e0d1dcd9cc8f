-- What a foreign key refers to, and its faults (PostgreSQL manual, page CREATE TABLE, REFERENCES; PostgreSQL source, tablecmds.c,
-- ATAddForeignKeyConstraint). The catalog is the one with the keys of the statement itself.
use Rattle.std.specs.Prelude.{ℕ, Bool, true, ◌&&◌, ◌==◌, List, [], ◌∷◌, ◌++◌, Option, Some, None, if◌then◌else◌, fold, map, length, option_map, slice_get, unwrap_or, zip}
use Rattle.std.specs.List.{list_all, list_any, flat_map}
use Rattle.aq_base.specs.Names.{Text, same_text}
use Rattle.aq_base.specs.declared.fault.SqlFault.{SqlFault}
use Rattle.aq_base.specs.declared.script.Kind.{Kind}
use Rattle.aq_base.specs.declared.constraint.Reference.{Reference}
use Rattle.aq_base.specs.declared.catalog.Column.{Column}
use Rattle.aq_catalog.specs.Catalogs.{Catalog, table_columns, primary_cols, is_number_in, number_of_table, number_of_column}
use Rattle.aq_setup.specs.Kinds.{same_kind}
use Rattle.aq_refusals.specs.Faults.{unequal_columns, no_such_key, no_primary_key, no_key_column, unequal_kinds}

-- the columns that are named, or else those of the primary key. None where the table has none.
abbrev pub referred_cols : Catalog → Text → Option (List Text) → Option (List ℕ)
referred_cols cat table None = primary_cols cat (number_of_table cat table)
referred_cols cat table (Some names) = Some (map (number_of_column (table_columns cat table)) names)

abbrev pub parent_cols : Catalog → Reference → Option (List ℕ)
parent_cols cat r = referred_cols cat r.table r.columns

-- numbers with one more behind them, if it is none of them
abbrev pub with_number : List ℕ → ℕ → List ℕ
with_number numbers n = if is_number_in numbers n then numbers else numbers ++ n ∷ []

-- each number once, where it stands first
abbrev pub each_once : List ℕ → List ℕ
each_once numbers = fold with_number [] numbers

-- the columns that an ON DELETE SET NULL or SET DEFAULT sets: those of its list, each counted once, or else all of the foreign key
abbrev pub set_numbers : List Column → List Text → Option (List Text) → List ℕ
set_numbers child cols None = map (number_of_column child) cols
set_numbers child cols (Some names) = each_once (map (number_of_column child) names)

-- some columns, of which none stands twice, are some others in any order
abbrev pub same_columns : List ℕ → List ℕ → Bool
same_columns a b = length a == length b && list_all (is_number_in b) a

abbrev pub is_key : Catalog → ℕ → List ℕ → Bool
is_key cat table cols = list_any (λ key. key.table == table && same_columns key.cols cols) cat.keys

-- ---- faults, of a foreign key with so many columns

abbrev pub count_faults : Catalog → ℕ → Reference → List SqlFault
count_faults cat count r = elim (parent_cols cat r) [ None ↦ [] | Some cols ↦ if length cols == count then [] else unequal_columns ∷ [] ]

abbrev pub key_faults : Catalog → Reference → List SqlFault
key_faults cat r =
    elim (parent_cols cat r) [ None ↦ [] | Some cols ↦ if is_key cat (number_of_table cat r.table) cols then [] else no_such_key r.table ∷ [] ]

abbrev pub primary_faults : Catalog → Reference → List SqlFault
primary_faults cat r = elim (parent_cols cat r) [ None ↦ no_primary_key r.table ∷ [] | Some cols ↦ [] ]

-- the columns of the list behind ON DELETE that are none of the foreign key, whether the table has them or not
abbrev pub set_faults : List Text → Reference → List SqlFault
set_faults cols r =
    flat_map (λ name. if list_any (same_text name) cols then [] else no_key_column name ∷ []) (unwrap_or r.set_columns [])

abbrev pub kinds_at : List Column → List ℕ → List (Option Kind)
kinds_at cols numbers = map (λ n. option_map (λ col. col.kind) (slice_get cols n)) numbers

abbrev pub kinds_fit : Option Kind → Option Kind → Bool
kinds_fit (Some a) (Some b) = same_kind a b
kinds_fit (Some a) None = true
kinds_fit None b = true

-- each column has the kind of the one that it refers to; integer and bigint fit each other
abbrev pub all_kinds_fit : List Column → List Text → List Column → List ℕ → Bool
all_kinds_fit child names parent numbers =
    list_all (λ pair. kinds_fit pair.0 pair.1) (zip (kinds_at child (map (number_of_column child) names)) (kinds_at parent numbers))

abbrev pub kind_faults : Catalog → Text → Text → List Text → Reference → List SqlFault
kind_faults cat table name cols r =
    elim (parent_cols cat r) [
      | None ↦ []
      | Some numbers ↦ if all_kinds_fit (table_columns cat table) cols (table_columns cat r.table) numbers then [] else unequal_kinds name ∷ []
    ]
