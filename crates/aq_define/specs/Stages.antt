-- The faults of CREATE TABLE and ALTER TABLE in the stages in which the catalog changes: without the table, with it, and with the keys.
use Rattle.std.specs.Prelude.{ℕ, ◌+◌, ◌≡◌, codes, if◌then◌else◌, map, nat_le, List, [], ◌∷◌, ◌++◌, Option, Some, length}
use Rattle.std.specs.List.{flat_map}
use Rattle.aq_base.specs.declared.fault.SqlFault.{SqlFault}
use Rattle.aq_base.specs.declared.table.CreateTable.{CreateTable}
use Rattle.aq_base.specs.declared.table.AlterTable.{AlterTable}
use Rattle.aq_catalog.specs.Catalogs.{Catalog, table_number, number_of_table}
use Rattle.aq_setup.specs.Constraints.{NamedConstraint}
use Rattle.aq_base.specs.Names.{Text, is_short}
use Rattle.aq_refusals.specs.Faults.{over_limit, long_name, no_column}
use Rattle.aq_setup.specs.Names.{table_faults}
use Rattle.aq_setup.specs.Tables.{Added, created, altered, referring_of, table_limit, column_limit, reference_limit, long_names, table_exists, constraints_exist, items_twice, listed_twice, second_primary, missing_parents, missing_columns, constraint_unknown, with_keys, with_references, default_faults, declared_columns}
use Rattle.aq_catalog.specs.Marks.{mark_of, shortened}
use Rattle.aq_tables.specs.References.{reference_faults}

-- the catalog of before is got back at its mark
unfoldable pub IsBehind : Catalog → Catalog → Type 0
IsBehind old new = shortened (mark_of old) new ≡ old

-- ---- of constraints with their names

abbrev pub limits_of : Catalog → ℕ → List NamedConstraint → List SqlFault
limits_of cat count all =
    table_limit cat
    ++ ((if nat_le count 32 then [] else over_limit (codes "32 columns") ∷ [])
    ++ ((if nat_le (length cat.fks + length (flat_map referring_of all)) 128 then [] else over_limit (codes "128 foreign keys") ∷ [])
    ++ flat_map (λ n. if is_short n.name then [] else long_name n.name ∷ []) all))

abbrev pub missing_of : Catalog → Text → List NamedConstraint → List SqlFault
missing_of cat table all =
    flat_map (λ f. table_faults cat f.reference.table) (flat_map referring_of all)
    ++ map no_column (flat_map (λ n. constraint_unknown cat table n.constraint) all)

abbrev pub create_first : Catalog → CreateTable → List NamedConstraint → List SqlFault
create_first cat s all =
    let a : Added = record { table = s.table; number = Some (length cat.tables); before = cat; constraints = all } in
    (table_limit cat ++ (column_limit s ++ (reference_limit a ++ long_names a))) ++ table_exists cat s.table

abbrev pub create_second : Catalog → ℕ → CreateTable → List NamedConstraint → List SqlFault
create_second cat number s all =
    let a : Added = record { table = s.table; number = Some number; before = cat; constraints = all } in
    constraints_exist a ++ ((items_twice [] s.items ++ second_primary a) ++ (missing_parents a ++ missing_columns a))

abbrev pub create_third : Catalog → CreateTable → List NamedConstraint → List SqlFault
create_third keyed s all =
    reference_faults keyed s.table (flat_map referring_of all) ++ flat_map default_faults (declared_columns s.items)

abbrev pub exist_of : Catalog → Option ℕ → Text → List NamedConstraint → List SqlFault
exist_of cat number table all =
    let a : Added = record { table = table; number = number; before = cat; constraints = all } in
    constraints_exist a

abbrev pub primary_of : Catalog → Option ℕ → Text → List NamedConstraint → List SqlFault
primary_of cat number table all =
    let a : Added = record { table = table; number = number; before = cat; constraints = all } in
    second_primary a

-- of the catalog with the table, which has that number
abbrev pub create_rest : Catalog → ℕ → CreateTable → List NamedConstraint → List SqlFault
create_rest cat number s all = create_second cat number s all ++ create_third (with_keys number all cat) s all

abbrev pub filled : Catalog → ℕ → List NamedConstraint → Catalog
filled cat number all = with_references number (flat_map referring_of all) (with_keys number all cat)

abbrev pub create_faults : Catalog → CreateTable → List SqlFault
create_faults cat s =
    create_first cat s (created cat s).constraints ++ create_rest (created cat s).before (length cat.tables) s (created cat s).constraints

abbrev pub alter_at : Catalog → Option ℕ → AlterTable → List NamedConstraint → List SqlFault
alter_at cat number s all =
    let a : Added = record { table = s.table; number = number; before = cat; constraints = all } in
    (reference_limit a ++ long_names a)
    ++ (constraints_exist a ++ ((listed_twice s.constraint ++ second_primary a) ++ (table_faults cat s.table ++ (missing_parents a ++ missing_columns a))))

abbrev pub alter_first : Catalog → AlterTable → List NamedConstraint → List SqlFault
alter_first cat s all = alter_at cat (table_number cat s.table) s all

abbrev pub alter_limits_of : Catalog → List NamedConstraint → List SqlFault
alter_limits_of cat all =
    (if nat_le (length cat.fks + length (flat_map referring_of all)) 128 then [] else over_limit (codes "128 foreign keys") ∷ [])
    ++ flat_map (λ n. if is_short n.name then [] else long_name n.name ∷ []) all

abbrev pub alter_faults : Catalog → AlterTable → List SqlFault
alter_faults cat s =
    let all : List NamedConstraint = (altered cat s).constraints in
    alter_first cat s all ++ reference_faults (with_keys (number_of_table cat s.table) all cat) s.table (flat_map referring_of all)
