-- The constraints that a CREATE TABLE or an ALTER TABLE adds, and their names (PostgreSQL manual, page CREATE TABLE; PostgreSQL source,
-- indexcmds.c, ChooseIndexName; tablecmds.c, ChooseForeignKeyConstraintNameAddition).
use Rattle.std.specs.Prelude.{ℕ, ◌+◌, Bool, true, false, List, [], ◌∷◌, ◌++◌, codes, Option, Some, None, find, unwrap_or}
use Rattle.std.specs.List.{flat_map}
use Rattle.std.specs.Fmt.{decimal}
use Rattle.aq_base.specs.Names.{Text, is_apart_from, primary_key_name}
use Rattle.aq_base.specs.declared.constraint.Reference.{Reference}
use Rattle.aq_base.specs.declared.constraint.ColumnConstraint.{ColumnConstraint}
use Rattle.aq_base.specs.declared.constraint.ColumnConstraint.TheVariants as on_columns
use Rattle.aq_base.specs.declared.constraint.TableConstraint.{TableConstraint}
use Rattle.aq_base.specs.declared.constraint.TableConstraint.TheVariants as on_tables
use Rattle.aq_base.specs.declared.table.TableItem.{TableItem}
use Rattle.aq_base.specs.declared.table.TableItem.TheVariants as items

-- a constraint behind a column is one of the table, of that column alone
abbrev pub of_column : Text → ColumnConstraint → List TableConstraint
of_column column on_columns.NotNull = []
of_column column (on_columns.Default value) = []
of_column column (on_columns.PrimaryKey name) = on_tables.PrimaryKey name (column ∷ []) ∷ []
of_column column (on_columns.Unique name) = on_tables.Unique name (column ∷ []) ∷ []
of_column column (on_columns.References name reference) = on_tables.ForeignKey name (column ∷ []) reference ∷ []

abbrev pub of_item : TableItem → List TableConstraint
of_item (items.Column name kind found) = flat_map (of_column name) found
of_item (items.Constraint constraint) = constraint ∷ []

abbrev pub given_name : TableConstraint → Option Text
given_name (on_tables.PrimaryKey name cols) = name
given_name (on_tables.Unique name cols) = name
given_name (on_tables.ForeignKey name cols reference) = name

abbrev pub constrained_columns : TableConstraint → List Text
constrained_columns (on_tables.PrimaryKey name cols) = cols
constrained_columns (on_tables.Unique name cols) = cols
constrained_columns (on_tables.ForeignKey name cols reference) = cols

abbrev pub reference_of : TableConstraint → Option Reference
reference_of (on_tables.PrimaryKey name cols) = None
reference_of (on_tables.Unique name cols) = None
reference_of (on_tables.ForeignKey name cols reference) = Some reference

abbrev pub is_primary : TableConstraint → Bool
is_primary (on_tables.PrimaryKey name cols) = true
is_primary (on_tables.Unique name cols) = false
is_primary (on_tables.ForeignKey name cols reference) = false

-- ---- names

abbrev pub underscored : List Text → Text
underscored names = flat_map (λ name. codes "_" ++ name) names

abbrev pub default_name : Text → TableConstraint → Text
default_name table (on_tables.PrimaryKey name cols) = primary_key_name table
default_name table (on_tables.Unique name cols) = table ++ underscored cols ++ codes "_key"
default_name table (on_tables.ForeignKey name cols reference) = table ++ underscored cols ++ codes "_fkey"

-- the name with numbers behind it that rise from n, one for each of some names
abbrev pub numbered : Text → ℕ → List Text → List Text
numbered name n [] = []
numbered name n (other ∷ others) = (name ++ decimal n) ∷ numbered name (n + 1) others

-- the name where it is free, or else the first that is, of those with 1, 2 and so on behind it
abbrev pub free_name : List Text → Text → Text
free_name taken name = unwrap_or (find (is_apart_from taken) (name ∷ numbered name 1 taken)) name

abbrev pub name_of : List Text → Text → TableConstraint → Text
name_of taken table constraint = unwrap_or (given_name constraint) (free_name taken (default_name table constraint))

pub record NamedConstraint : Type 0 where
  pub name : Text
  pub constraint : TableConstraint

-- constraints with their names: a name by default keeps away from the names of the table's constraints that stand before
abbrev pub named : List Text → Text → List TableConstraint → List NamedConstraint
named taken table [] = []
named taken table (constraint ∷ others) =
    let name : Text = name_of taken table constraint in
    record { name = name; constraint = constraint } ∷ named (taken ++ name ∷ []) table others
