-- The order of the faults of a CREATE TABLE, and of an ALTER TABLE, is that in which they are told.
use Rattle.std.proofs.Common.{◌≡◌, List, [], ◌++◌, append_assoc}
use Rattle.std.specs.List.{flat_map}
use Rattle.std.proofs.lemmas.List.{append-nil}
use Rattle.aq_base.specs.declared.fault.SqlFault.{SqlFault}
use Rattle.aq_base.specs.declared.table.CreateTable.{CreateTable}
use Rattle.aq_catalog.specs.Catalogs.{Catalog}
use Rattle.aq_base.specs.declared.table.AlterTable.{AlterTable}
use Rattle.aq_setup.specs.Names.{table_faults}
use Rattle.aq_setup.specs.Order.{in_order}
use Rattle.aq_setup.specs.Tables.{Added, created, altered, create_table_faults, alter_table_faults, listed_twice, table_limit, column_limit, reference_limit, long_names, table_exists, constraints_exist, items_twice, second_primary, missing_parents, missing_columns, unreferable, without_primary, outside_keys, unequal_references, default_faults, declared_columns}
use Rattle.aq_define.specs.Stages.{create_faults, alter_faults}

in_stages : (l e1 e2 t m u w o k1 k2 : List SqlFault) → l ++ ((e1 ++ e2) ++ (t ++ (m ++ (u ++ (w ++ (o ++ ((k1 ++ k2) ++ ([] ++ ([] ++ ([] ++ [])))))))))) ≡ (l ++ e1) ++ ((e2 ++ (t ++ m)) ++ ((u ++ (w ++ (o ++ k1))) ++ k2))
in_stages l e1 e2 t m u w o k1 k2 = simp (append_assoc, append-nil)

pub created_in_order : (cat : Catalog) (s : CreateTable) → in_order (create_table_faults cat s) ≡ create_faults cat s
created_in_order cat s =
    let a : Added = created cat s in
    in_stages
    (table_limit cat ++ (column_limit s ++ (reference_limit a ++ long_names a)))
    (table_exists cat s.table)
    (constraints_exist a)
    (items_twice [] s.items ++ second_primary a)
    (missing_parents a ++ missing_columns a)
    (unreferable a)
    (without_primary a)
    (outside_keys a)
    (unequal_references a)
    (flat_map default_faults (declared_columns s.items))

alter_stages : (l e t m u w o k : List SqlFault) → l ++ (e ++ (t ++ (m ++ (u ++ (w ++ (o ++ (k ++ ([] ++ ([] ++ ([] ++ [])))))))))) ≡ (l ++ (e ++ (t ++ m))) ++ (u ++ (w ++ (o ++ k)))
alter_stages l e t m u w o k = simp (append_assoc, append-nil)

pub altered_in_order : (cat : Catalog) (s : AlterTable) → in_order (alter_table_faults cat s) ≡ alter_faults cat s
altered_in_order cat s =
    let a : Added = altered cat s in
    alter_stages
    (reference_limit a ++ long_names a)
    (constraints_exist a)
    (listed_twice s.constraint ++ second_primary a)
    (table_faults cat s.table ++ (missing_parents a ++ missing_columns a))
    (unreferable a)
    (without_primary a)
    (outside_keys a)
    (unequal_references a)
