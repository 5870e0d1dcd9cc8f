-- Setups and statements whose answers were computed by hand.
use Rattle.std.proofs.Common.{◌≡◌, refl, pos, false, List, [], ◌∷◌, Option, Some, None, codes, map}
use Rattle.std.specs.Prelude.{Ok, Err}
use Rattle.std.specs.Fmt.{digits}
use Rattle.aq_base.specs.Names.{Text}
use Rattle.aq_base.specs.declared.value.Value.TheVariants as values
use Rattle.aq_base.specs.declared.expr.Expr.{Expr}
use Rattle.aq_base.specs.declared.expr.BinaryOperator.TheVariants.{Add}
use Rattle.aq_base.specs.declared.expr.Expr.TheVariants.{Constant, Column, Binary}
use Rattle.aq_base.specs.declared.catalog.Op.TheVariants as ops
use Rattle.aq_base.specs.declared.constraint.Match.TheVariants as matches
use Rattle.aq_base.specs.declared.constraint.Action.TheVariants as actions
use Rattle.aq_base.specs.declared.constraint.Reference.{Reference}
use Rattle.aq_base.specs.declared.constraint.ColumnConstraint.{ColumnConstraint}
use Rattle.aq_base.specs.declared.constraint.ColumnConstraint.TheVariants as on_columns
use Rattle.aq_base.specs.declared.constraint.TableConstraint.TheVariants as on_tables
use Rattle.aq_base.specs.declared.data.Given.TheVariants as givens
use Rattle.aq_base.specs.declared.data.Source.TheVariants as sources
use Rattle.aq_base.specs.declared.script.Kind.{Kind}
use Rattle.aq_base.specs.declared.script.Kind.TheVariants as kinds
use Rattle.aq_base.specs.declared.table.TableItem.{TableItem}
use Rattle.aq_base.specs.declared.table.TableItem.TheVariants as items
use Rattle.aq_base.specs.declared.trigger.TriggerEvent.TheVariants as events
use Rattle.aq_base.specs.declared.trigger.Each.TheVariants as each
use Rattle.aq_base.specs.declared.statement.Statement.{Statement}
use Rattle.aq_base.specs.declared.statement.Statement.TheVariants as statements
use Rattle.aq_catalog.specs.Catalogs.{Catalog, no_tables, triggers_of}
use Rattle.aq_refusals.specs.Faults.{no_relation, no_column, no_such_key, no_primary_key, no_key_column, unequal_kinds, unequal_rows, wrong_value, no_operator, assigned_twice, long_name, constraint_exists, trigger_reserved}
use Rattle.aq_setup.specs.Constraints.{named}
use Rattle.aq_setup.specs.Binding.{bind}
use Rattle.aq_setup.specs.Setup.{define, defined, setup}
use Rattle.aq_setup.proofs.Expressions.{constant_names, column_names, binary_names, constant_kinded, column_kinded, binary_kinded}

abbrev column : Text → List ColumnConstraint → TableItem
column name constraints = items.Column name kinds.Integer constraints

abbrev to : Text → Option (List Text) → Reference
to table columns =
    record {
      table = table;
      columns = columns;
      matching = matches.Simple;
      on_delete = actions.Cascade;
      set_columns = None;
      on_update = actions.NoAction;
      timing = record { deferrable = false; deferred = false };
    }

-- a name by default that is taken gets 1, one that is taken with 1 gets 2
taken_names : map (λ n. n.name) (named (codes "t_a_key" ∷ codes "t_a_key1" ∷ []) (codes "t") (on_tables.Unique None (codes "a" ∷ []) ∷ on_tables.Unique None (codes "a" ∷ []) ∷ on_tables.PrimaryKey None (codes "a" ∷ codes "b" ∷ []) ∷ on_tables.ForeignKey None (codes "a" ∷ codes "b" ∷ []) (to (codes "t") None) ∷ []))
    ≡ codes "t_a_key2" ∷ codes "t_a_key3" ∷ codes "t_pkey" ∷ codes "t_a_b_fkey" ∷ []
unfolding digits
taken_names = refl

-- CREATE TABLE p (a integer PRIMARY KEY, b integer); CREATE TABLE c (a integer, b integer REFERENCES p ON DELETE CASCADE)
abbrev parent : Statement
parent = statements.CreateTable (record { table = codes "p"; items = column (codes "a") (on_columns.PrimaryKey None ∷ []) ∷ column (codes "b") [] ∷ [] })

abbrev child : Statement
child =
    statements.CreateTable (record {
      table = codes "c";
      items = column (codes "a") [] ∷ column (codes "b") (on_columns.References None (to (codes "p") None) ∷ []) ∷ [];
    })

abbrev two_tables : Catalog
two_tables = defined (defined no_tables parent) child

parent_is_accepted : define [] no_tables parent ≡ Ok (defined no_tables parent)
parent_is_accepted = refl

child_is_accepted : define [] (defined no_tables parent) child ≡ Ok two_tables
child_is_accepted = refl

-- a parent table has a trigger for each of DELETE and UPDATE, and the child table one
reference_triggers : map (λ t. t.name) two_tables.triggers ≡ codes "RI_ConstraintTrigger_a_0000000001" ∷ codes "RI_ConstraintTrigger_a_0000000001" ∷ codes "RI_ConstraintTrigger_c_0000000001" ∷ []
unfolding digits
reference_triggers = refl

-- CASCADE is immediate whatever the constraint says; NO ACTION and the check have the constraint's mode
reference_modes : map (λ t. t.con) two_tables.triggers ≡ None ∷ Some 1 ∷ Some 1 ∷ []
unfolding digits
reference_modes = refl

-- FOREIGN KEY (nosuch) REFERENCES nowhere: a table that is not there comes before a column
table_before_column : define [] no_tables (statements.CreateTable (record {
  table = codes "t";
  items = items.Constraint (on_tables.ForeignKey None (codes "nosuch" ∷ []) (to (codes "nowhere") None)) ∷ column (codes "a") [] ∷ [];
})) ≡ Err (no_relation (codes "nowhere"))
table_before_column = refl

-- b of p is no key
no_key : define [] two_tables (statements.AlterTable (record {
  table = codes "c";
  constraint = on_tables.ForeignKey None (codes "a" ∷ []) (to (codes "p") (Some (codes "b" ∷ [])));
})) ≡ Err (no_such_key (codes "p"))
unfolding digits
no_key = refl

-- a key may stand behind the reference to it
later_key : define [] no_tables (statements.CreateTable (record {
  table = codes "t";
  items =
      column (codes "a") (on_columns.References None (to (codes "t") (Some (codes "b" ∷ []))) ∷ [])
      ∷ column (codes "b") (on_columns.Unique None ∷ []) ∷ [];
})) ≡ Ok (defined no_tables (statements.CreateTable (record {
  table = codes "t";
  items =
      column (codes "a") (on_columns.References None (to (codes "t") (Some (codes "b" ∷ []))) ∷ [])
      ∷ column (codes "b") (on_columns.Unique None ∷ []) ∷ [];
})))
unfolding digits
later_key = refl

-- CREATE TABLE pair (a integer, b integer, PRIMARY KEY (a, b))
abbrev pair : Statement
pair =
    statements.CreateTable (record {
      table = codes "pair";
      items = column (codes "a") [] ∷ column (codes "b") [] ∷ items.Constraint (on_tables.PrimaryKey None (codes "a" ∷ codes "b" ∷ [])) ∷ [];
    })

-- CREATE TABLE kid (x K, y integer, z integer, FOREIGN KEY (x, y) REFERENCES pair ON DELETE SET NULL, with or without a list)
abbrev kid : Kind → Option (List Text) → Statement
kid kind listed =
    statements.CreateTable (record {
      table = codes "kid";
      items =
          items.Column (codes "x") kind [] ∷ column (codes "y") [] ∷ column (codes "z") []
          ∷ items.Constraint (on_tables.ForeignKey None (codes "x" ∷ codes "y" ∷ []) (record {
            table = codes "pair";
            columns = None;
            matching = matches.Simple;
            on_delete = actions.SetNull;
            set_columns = listed;
            on_update = actions.NoAction;
            timing = record { deferrable = false; deferred = false };
          }))
          ∷ [];
    })

abbrev with_kid : Option (List Text) → Catalog
with_kid listed = defined (defined no_tables pair) (kid kinds.Integer listed)

-- SET NULL without a list is of all columns of the foreign key
all_of_the_key : map (λ fk. fk.set_cols) (with_kid None).fks ≡ (0 ∷ 1 ∷ []) ∷ []
unfolding digits
all_of_the_key = refl

-- SET NULL (y, x, y): a column that is named twice counts once, at its first place
once_each : map (λ fk. fk.set_cols) (with_kid (Some (codes "y" ∷ codes "x" ∷ codes "y" ∷ []))).fks ≡ (1 ∷ 0 ∷ []) ∷ []
unfolding digits
once_each = refl

-- SET NULL (y)
one_of_the_key : map (λ fk. fk.set_cols) (with_kid (Some (codes "y" ∷ []))).fks ≡ (1 ∷ []) ∷ []
unfolding digits
one_of_the_key = refl

-- SET NULL (y, z): z is none of the foreign key
outside_the_key : define [] (defined no_tables pair) (kid kinds.Integer (Some (codes "y" ∷ codes "z" ∷ []))) ≡ Err (no_key_column (codes "z"))
unfolding digits
outside_the_key = refl

-- SET NULL (nosuch): the same of a column that the table doesn't have, and before x, which is a text and refers to an integer
outside_before_kinds : define [] (defined no_tables pair) (kid kinds.Text (Some (codes "nosuch" ∷ []))) ≡ Err (no_key_column (codes "nosuch"))
unfolding digits
outside_before_kinds = refl

kinds_alone : define [] (defined no_tables pair) (kid kinds.Text (Some (codes "y" ∷ []))) ≡ Err (unequal_kinds (codes "kid_x_y_fkey"))
unfolding digits
kinds_alone = refl

-- where pair has no primary key, that comes first
primary_before_outside : define [] (defined no_tables (statements.CreateTable (record { table = codes "pair"; items = column (codes "a") [] ∷ [] })))
    (kid kinds.Text (Some (codes "nosuch" ∷ [])))
    ≡ Err (no_primary_key (codes "pair"))
unfolding digits
primary_before_outside = refl

abbrev one : Expr
one = Constant (values.Int (pos 1))

-- UPDATE p SET a = 1, a = nosuch: names come before the column that is assigned twice
assigned_unknown : bind two_tables (statements.Update (record {
  table = codes "p";
  assignments =
      record { column = codes "a"; value = givens.Value one } ∷ record { column = codes "a"; value = givens.Value (Column (codes "nosuch")) } ∷ [];
  condition = None;
})) ≡ Err (no_column (codes "nosuch"))
assigned_unknown = rw (constant_names, column_names) refl

assigned_again : bind two_tables (statements.Update (record {
  table = codes "p";
  assignments =
      record { column = codes "a"; value = givens.Value one } ∷ record { column = codes "a"; value = givens.Value (Column (codes "b")) } ∷ [];
  condition = None;
})) ≡ Err (assigned_twice (codes "a"))
assigned_again = rw (constant_names, column_names) refl

-- INSERT INTO p VALUES (1), (1, 1)
unequal : bind two_tables (statements.Insert (record {
  table = codes "p";
  columns = None;
  source = sources.Values ((givens.Value one ∷ []) ∷ (givens.Value one ∷ givens.Value one ∷ []) ∷ []);
})) ≡ Err unequal_rows
unequal = rw constant_names refl

-- DELETE FROM p WHERE a + 'x'
no_sum : bind two_tables (statements.Delete (record { table = codes "p"; condition = Some (Binary (Column (codes "a")) Add (Constant (values.Text (codes "x")))) }))
    ≡ Err (no_operator kinds.Integer (codes "+") kinds.Text)
no_sum = rw (binary_names, constant_names, column_names, binary_kinded, constant_kinded, column_kinded) refl

-- INSERT INTO p VALUES ('x')
text_in_integer : bind two_tables (statements.Insert (record {
  table = codes "p";
  columns = None;
  source = sources.Values ((givens.Value (Constant (values.Text (codes "x"))) ∷ []) ∷ []);
})) ≡ Err (wrong_value (codes "a") kinds.Integer kinds.Text)
text_in_integer = rw (constant_names, constant_kinded) refl

-- a table's name of 59 bytes: its primary key would have a name of 64
long_default : define [] no_tables (statements.CreateTable (record {
  table = codes "abcdefghijabcdefghijabcdefghijabcdefghijabcdefghijabcdefghi";
  items = column (codes "a") (on_columns.PrimaryKey None ∷ []) ∷ [];
})) ≡ Err (long_name (codes "abcdefghijabcdefghijabcdefghijabcdefghijabcdefghijabcdefghi_pkey"))
long_default = refl

-- CONSTRAINT c_b_fkey on a table that has one by default
name_by_default_again : define [] two_tables (statements.AlterTable (record { table = codes "c"; constraint = on_tables.Unique (Some (codes "c_b_fkey")) (codes "a" ∷ []) }))
    ≡ Err (constraint_exists (codes "c") (codes "c_b_fkey"))
unfolding digits
name_by_default_again = refl

abbrev on_insert : Text → Statement
on_insert name =
    statements.CreateTrigger (record {
      name = name;
      events = events.Insert ∷ [];
      table = codes "c";
      transitions = None;
      each = each.Row;
      condition = None;
      function = codes "f";
    })

abbrev with_function_f : Catalog
with_function_f = defined two_tables (statements.CreateFunction (record { name = codes "f"; body = record { statements = []; handlers = [] } }))

-- capital letters come first: A, then the check of the reference, then a, then b
in_name_order : triggers_of (defined (defined (defined with_function_f (on_insert (codes "b"))) (on_insert (codes "a"))) (on_insert (codes "A"))) 1 ops.Insert
    ≡ 5 ∷ 2 ∷ 4 ∷ 3 ∷ []
unfolding digits
in_name_order = refl

-- the line of the first statement that is refused
refused_line : setup [] (record {
  setup =
      record { line = 2; statement = parent } ∷ record { line = 3; statement = on_insert (codes "x") } ∷ record { line = 4; statement = parent } ∷ [];
  sessions = [];
  schedule = None;
}) ≡ Err (record { line = 3; fault = no_relation (codes "c") })
refused_line = refl

reserved_name : define [] with_function_f (on_insert (codes "RI_ConstraintTrigger_x")) ≡ Err (trigger_reserved (codes "RI_ConstraintTrigger_x"))
unfolding digits
reserved_name = refl
