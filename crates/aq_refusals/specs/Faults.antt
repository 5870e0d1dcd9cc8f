-- The faults of statements that are bound and of setups, with their codes and texts, in the order in which they are tried
-- (PostgreSQL manual, appendix "PostgreSQL Error Codes").
use Rattle.std.specs.Prelude.{[], ◌∷◌, ◌++◌, None, codes}
use Rattle.aq_base.specs.Names.{Text}
use Rattle.aq_base.specs.declared.fault.SqlFault.{SqlFault}
use Rattle.aq_base.specs.declared.script.Kind.{Kind}
use Rattle.aq_base.specs.declared.script.Kind.TheVariants as kinds

abbrev pub fault : Text → Text → SqlFault
fault code text = record { code = record { 0 = code }; text = text; detail = None }

-- a name between quotes
abbrev pub quoted : Text → Text
quoted name = 34 ∷ (name ++ 34 ∷ [])

abbrev pub kind_name : Kind → Text
kind_name kinds.Integer = codes "integer"
kind_name kinds.Bigint = codes "bigint"
kind_name kinds.Boolean = codes "boolean"
kind_name kinds.Text = codes "text"

-- ---- of a statement: names, then lengths, then kinds

abbrev pub no_relation : Text → SqlFault
no_relation table = fault (codes "42P01") (codes "relation " ++ quoted table ++ codes " does not exist")

abbrev pub no_target : Text → Text → SqlFault
no_target table column =
    fault (codes "42703") (codes "column " ++ quoted column ++ codes " of relation " ++ quoted table ++ codes " does not exist")

abbrev pub no_column : Text → SqlFault
no_column column = fault (codes "42703") (codes "column " ++ quoted column ++ codes " does not exist")

abbrev pub column_twice : Text → SqlFault
column_twice column = fault (codes "42701") (codes "column " ++ quoted column ++ codes " specified more than once")

abbrev pub assigned_twice : Text → SqlFault
assigned_twice column = fault (codes "42601") (codes "multiple assignments to same column " ++ quoted column)

abbrev pub unequal_rows : SqlFault
unequal_rows = fault (codes "42601") (codes "VALUES lists must all be the same length")

abbrev pub many_values : SqlFault
many_values = fault (codes "42601") (codes "INSERT has more expressions than target columns")

abbrev pub few_values : SqlFault
few_values = fault (codes "42601") (codes "INSERT has more target columns than expressions")

abbrev pub wrong_value : Text → Kind → Kind → SqlFault
wrong_value column wanted found =
    fault (codes "42804") (codes "column " ++ quoted column ++ codes " is of type " ++ kind_name wanted ++ codes " but expression is of type " ++ kind_name found)

-- of WHERE, AND, OR, NOT, WHEN or IF
abbrev pub no_boolean : Text → Kind → SqlFault
no_boolean word found =
    fault (codes "42804") (codes "argument of " ++ word ++ codes " must be type boolean, not type " ++ kind_name found)

abbrev pub no_operator : Kind → Text → Kind → SqlFault
no_operator left sign right =
    fault (codes "42883") (codes "operator does not exist: " ++ kind_name left ++ codes " " ++ sign ++ codes " " ++ kind_name right)

abbrev pub no_negation : Kind → SqlFault
no_negation operand = fault (codes "42883") (codes "operator does not exist: - " ++ kind_name operand)

-- ---- of SET CONSTRAINTS

abbrev pub no_constraint : Text → SqlFault
no_constraint name = fault (codes "42704") (codes "constraint " ++ quoted name ++ codes " does not exist")

abbrev pub not_deferrable : Text → SqlFault
not_deferrable name = fault (codes "42809") (codes "constraint " ++ quoted name ++ codes " is not deferrable")

-- ---- of a setup, where they are not those of a statement

abbrev pub over_limit : Text → SqlFault
over_limit text = fault (codes "54000") (codes "more than " ++ text)

abbrev pub long_name : Text → SqlFault
long_name name = fault (codes "42622") (codes "name " ++ quoted name ++ codes " is too long")

abbrev pub relation_exists : Text → SqlFault
relation_exists table = fault (codes "42P07") (codes "relation " ++ quoted table ++ codes " already exists")

abbrev pub function_exists : Text → SqlFault
function_exists name =
    fault (codes "42723") (codes "function " ++ quoted name ++ codes " already exists with same argument types")

abbrev pub trigger_exists : Text → Text → SqlFault
trigger_exists table name =
    fault (codes "42710") (codes "trigger " ++ quoted name ++ codes " for relation " ++ quoted table ++ codes " already exists")

abbrev pub constraint_exists : Text → Text → SqlFault
constraint_exists table name =
    fault (codes "42710") (codes "constraint " ++ quoted name ++ codes " for relation " ++ quoted table ++ codes " already exists")

abbrev pub many_primary_keys : Text → SqlFault
many_primary_keys table =
    fault (codes "42P16") (codes "multiple primary keys for table " ++ quoted table ++ codes " are not allowed")

abbrev pub no_function : Text → SqlFault
no_function name = fault (codes "42883") (codes "function " ++ name ++ codes "() does not exist")

abbrev pub unequal_columns : SqlFault
unequal_columns = fault (codes "42830") (codes "number of referencing and referenced columns for foreign key disagree")

abbrev pub no_such_key : Text → SqlFault
no_such_key table =
    fault (codes "42830") (codes "there is no unique constraint matching given keys for referenced table " ++ quoted table)

abbrev pub no_primary_key : Text → SqlFault
no_primary_key table = fault (codes "42704") (codes "there is no primary key for referenced table " ++ quoted table)

abbrev pub no_key_column : Text → SqlFault
no_key_column column =
    fault (codes "42P10") (codes "column " ++ quoted column ++ codes " referenced in ON DELETE SET action must be part of foreign key")

abbrev pub unequal_kinds : Text → SqlFault
unequal_kinds name = fault (codes "42804") (codes "foreign key constraint " ++ quoted name ++ codes " cannot be implemented")

abbrev pub wrong_default : Text → Kind → Kind → SqlFault
wrong_default column wanted found =
    fault (codes "42804") (codes "column " ++ quoted column ++ codes " is of type " ++ kind_name wanted ++ codes " but default expression is of type " ++ kind_name found)

abbrev pub transition_events : SqlFault
transition_events =
    fault (codes "0A000") (codes "transition tables cannot be specified for triggers with more than one event")

abbrev pub transition_columns : SqlFault
transition_columns =
    fault (codes "0A000") (codes "transition tables cannot be specified for triggers with column lists")

abbrev pub no_old_table : SqlFault
no_old_table = fault (codes "42P17") (codes "OLD TABLE can only be specified for a DELETE or UPDATE trigger")

abbrev pub no_new_table : SqlFault
no_new_table = fault (codes "42P17") (codes "NEW TABLE can only be specified for an INSERT or UPDATE trigger")

abbrev pub no_old_or_new : Text → SqlFault
no_old_or_new trigger = fault (codes "42P17") (codes "trigger " ++ quoted trigger ++ codes " cannot use OLD or NEW here")

abbrev pub native_misused : Text → SqlFault
native_misused check = fault (codes "42P17") (codes "native check " ++ quoted check ++ codes " cannot be used here")

abbrev pub trigger_reserved : Text → SqlFault
trigger_reserved name = fault (codes "42939") (codes "trigger name " ++ quoted name ++ codes " is reserved")
