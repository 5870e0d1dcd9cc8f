-- CREATE TABLE and ALTER TABLE (PostgreSQL manual, pages of these names).
--     create     = CREATE TABLE table ( item {, item} )          alter = ALTER TABLE [ONLY] table ADD table_constraint
--     item       = column kind {constraint} | table_constraint
--     kind       = integer | int | int4 | bigint | int8 | boolean | bool | text
--     constraint = NOT NULL | DEFAULT constant | [CONSTRAINT name] (PRIMARY KEY | UNIQUE | REFERENCES reference), one DEFAULT at the most
--     constant   = NULL | TRUE | FALSE | text | [-] number
--     table_constraint = [CONSTRAINT name] (PRIMARY KEY (columns) | UNIQUE (columns) | FOREIGN KEY (columns) REFERENCES reference)
--     reference  = table [(columns)] [MATCH SIMPLE | MATCH FULL] {ON DELETE deletion | ON UPDATE action} [timing], each ON once at the most
--     action     = NO ACTION | RESTRICT | CASCADE | SET NULL | SET DEFAULT
--     deletion   = NO ACTION | RESTRICT | CASCADE | (SET NULL | SET DEFAULT) [(columns)]
--     timing     = NOT DEFERRABLE [INITIALLY IMMEDIATE] | DEFERRABLE [INITIALLY (IMMEDIATE | DEFERRED)] | INITIALLY (IMMEDIATE | DEFERRED)
-- A column's NOT behind its REFERENCES begins NOT NULL or NOT DEFERRABLE. So that the next token always tells how to go on, what comes
-- behind a column's constraint is one form: the timing and the constraints that follow.
use Rattle.std.specs.Prelude.{ℤ, pos, neg_ℤ, Bool, true, false, List, [], ◌∷◌, Option, Some, None, codes}
use Rattle.aq_base.specs.Names.{Text as Bytes}
use Rattle.aq_base.specs.declared.catalog.Decl.{Decl}
use Rattle.aq_base.specs.declared.value.Value.{Value}
use Rattle.aq_base.specs.declared.value.Value.TheVariants.{Null, Bool as Truth, Int, Text as Words}
use Rattle.aq_lex.specs.declared.token.Symbol.TheVariants.{OpenParen, Minus}
use Rattle.aq_grammar.specs.Terminals.{Terminal, Keyword, Number, Literal, Sign, text_of, number_of}
use Rattle.aq_grammar.specs.Rules.{Rule, Refusal, Done, Token, Both, Either, Call, Unless, ColumnConstraints, ReferenceEnd}
use Rattle.aq_grammar.specs.Forms.{word, sign, ◌▸◌, mapped, says, optional, listed, in_parentheses, name, names, public_name, refuse, refuse_word}
use Rattle.aq_grammar.specs.Changes.{column_list, end_without}
use Rattle.aq_base.specs.declared.script.Kind.{Kind}
use Rattle.aq_base.specs.declared.constraint.Match.{Match}
use Rattle.aq_base.specs.declared.constraint.Action.{Action}
use Rattle.aq_base.specs.declared.constraint.Reference.{Reference}
use Rattle.aq_base.specs.declared.constraint.ColumnConstraint.{ColumnConstraint}
use Rattle.aq_base.specs.declared.constraint.TableConstraint.{TableConstraint}
use Rattle.aq_base.specs.declared.table.TableItem.{TableItem}
use Rattle.aq_base.specs.declared.statement.Statement.{Statement}
use Rattle.aq_base.specs.declared.script.Kind.TheVariants.{Integer, Bigint, Boolean, Text as TextKind}
use Rattle.aq_base.specs.declared.constraint.Match.TheVariants.{Simple, Full}
use Rattle.aq_base.specs.declared.constraint.Action.TheVariants.{NoAction, Restrict, Cascade, SetNull, SetDefault}
use Rattle.aq_base.specs.declared.constraint.ColumnConstraint.TheVariants.{NotNull, Default, PrimaryKey, Unique, References}
use Rattle.aq_base.specs.declared.constraint.TableConstraint.TheVariants.{PrimaryKey as PrimaryKey_of, Unique as Unique_of, ForeignKey as ForeignKey_of}
use Rattle.aq_base.specs.declared.table.TableItem.TheVariants.{Column as Column_item, Constraint as Constraint_item}
use Rattle.aq_base.specs.declared.statement.Statement.TheVariants.{CreateTable, AlterTable}

abbrev pub not_valid : Refusal
not_valid = refuse (Keyword (codes "not") ∷ Keyword (codes "valid") ∷ []) (codes "NOT VALID is not supported")

abbrev pub deferrable_keys : Bytes
deferrable_keys = codes "deferrable unique keys are not supported"

-- behind PRIMARY KEY or UNIQUE
abbrev pub behind_key : List Refusal
behind_key =
    not_valid ∷ refuse (Keyword (codes "not") ∷ Keyword (codes "deferrable") ∷ []) deferrable_keys ∷ refuse_word (codes "deferrable") deferrable_keys
    ∷ refuse_word (codes "initially") deferrable_keys ∷ []

abbrev pub check : Refusal
check = refuse_word (codes "check") (codes "CHECK constraints are not supported")

abbrev pub exclusion : Bytes
exclusion = codes "exclusion constraints are not supported"

-- constraints of kinds that no table has
abbrev pub other_constraints : List Refusal
other_constraints = check ∷ refuse_word (codes "exclude") exclusion ∷ []

-- `exclude` is a column's name, unless it begins a constraint
abbrev pub other_items : List Refusal
other_items =
    check ∷ refuse (Keyword (codes "exclude") ∷ Sign OpenParen ∷ []) exclusion ∷ refuse (Keyword (codes "exclude") ∷ Keyword (codes "using") ∷ []) exclusion ∷ []

abbrev pub kind_word : Bytes → Kind → Rule Kind → Rule Kind
kind_word text kind others = Either (Keyword text ∷ []) (says text kind) others

unfoldable pub kind : Rule Kind
kind =
    kind_word (codes "integer") Integer (kind_word (codes "int") Integer (kind_word (codes "int4") Integer (kind_word (codes "bigint") Bigint
    (kind_word (codes "int8") Bigint (kind_word (codes "boolean") Boolean (kind_word (codes "bool") Boolean (says (codes "text") TextKind)))))))

abbrev pub number : Rule ℤ
number = Token Number (λ token. pos (number_of token))

-- a number with a minus sign before it
abbrev pub negative : Rule Value
negative = sign Minus ▸ mapped (λ number. Int (neg_ℤ number)) number

unfoldable pub constant : Rule Value
constant =
    Either (Keyword (codes "null") ∷ []) (says (codes "null") Null)
    (Either (Keyword (codes "true") ∷ []) (says (codes "true") (Truth true))
    (Either (Keyword (codes "false") ∷ []) (says (codes "false") (Truth false))
    (Either (Literal ∷ []) (mapped Words (Token Literal text_of)) (Either (Sign Minus ∷ []) negative (mapped (λ number. Int number) number)))))

-- true: it waits for the commit
unfoldable pub initially : Rule Bool
initially =
    word (codes "initially") ▸ Either (Keyword (codes "immediate") ∷ []) (says (codes "immediate") false) (says (codes "deferred") true)

abbrev pub decl : Bool → Bool → Decl
decl deferrable deferred = record { deferrable = deferrable; deferred = deferred }

abbrev pub waits : Option Bool → Bool
waits None = false
waits (Some deferred) = deferred

-- behind DEFERRABLE
unfoldable pub behind_deferrable : Rule Decl
behind_deferrable = mapped (λ said. decl true (waits said)) (optional (Keyword (codes "initially") ∷ []) initially)

-- behind NOT DEFERRABLE
unfoldable pub behind_not_deferrable : Rule Decl
behind_not_deferrable =
    mapped (λ said. decl false false) (optional (Keyword (codes "initially") ∷ []) (word (codes "initially") ▸ word (codes "immediate")))

-- INITIALLY DEFERRED alone is deferrable, INITIALLY IMMEDIATE alone is not
unfoldable pub initially_alone : Rule Decl
initially_alone = mapped (λ deferred. decl deferred deferred) initially

-- DEFERRABLE, or INITIALLY alone
unfoldable pub deferring : Rule Decl
deferring = Either (Keyword (codes "deferrable") ∷ []) (word (codes "deferrable") ▸ behind_deferrable) initially_alone

unfoldable pub given_timing : Rule Decl
given_timing = Either (Keyword (codes "not") ∷ []) (word (codes "not") ▸ word (codes "deferrable") ▸ behind_not_deferrable) deferring

abbrev pub timing_begins : List Terminal
timing_begins = Keyword (codes "not") ∷ Keyword (codes "deferrable") ∷ Keyword (codes "initially") ∷ []

-- where nothing is said it is checked at once
abbrev pub immediate : Decl
immediate = decl false false

-- a timing that may be left out, with what may not stand behind one that is given
unfoldable pub perhaps_timing : List Refusal → Rule Decl
perhaps_timing refusals = Either timing_begins (end_without refusals given_timing) (Done immediate)

-- when a foreign key or a constraint trigger is checked, with what may stand neither before nor behind it
unfoldable pub timing_without : List Refusal → Rule Decl
timing_without refusals = Unless refusals (perhaps_timing refusals)

abbrev pub partial_match : Refusal
partial_match = refuse (Keyword (codes "match") ∷ Keyword (codes "partial") ∷ []) (codes "MATCH PARTIAL is not supported")

unfoldable pub matching : Rule Match
matching =
    Unless (partial_match ∷ [])
    (Either (Keyword (codes "match") ∷ []) (word (codes "match") ▸ Either (Keyword (codes "simple") ∷ []) (says (codes "simple") Simple) (says (codes "full") Full)) (Done Simple))

unfoldable pub setting : Rule Action
setting = word (codes "set") ▸ Either (Keyword (codes "null") ∷ []) (says (codes "null") SetNull) (says (codes "default") SetDefault)

-- an action that sets no column
unfoldable pub plain_action : Rule Action
plain_action =
    Either (Keyword (codes "no") ∷ []) (word (codes "no") ▸ says (codes "action") NoAction)
    (Either (Keyword (codes "restrict") ∷ []) (says (codes "restrict") Restrict) (says (codes "cascade") Cascade))

-- what a deletion does, and the list of the columns that it sets
unfoldable pub deletion : Rule (Action × Option (List Bytes))
deletion =
    Either (Keyword (codes "set") ∷ []) (Both (λ action columns. (action, columns)) setting column_list) (mapped (λ action. (action, None)) plain_action)

-- a list of columns stands behind ON DELETE alone
abbrev pub update_list : Bytes → List Refusal
update_list text = refuse (Sign OpenParen ∷ []) text ∷ []

abbrev pub null_list : Bytes
null_list = codes "a column list with SET NULL is only supported for ON DELETE actions"

abbrev pub default_list : Bytes
default_list = codes "a column list with SET DEFAULT is only supported for ON DELETE actions"

unfoldable pub update_setting : Rule Action
update_setting =
    word (codes "set")
    ▸ Either (Keyword (codes "null") ∷ []) (end_without (update_list null_list) (says (codes "null") SetNull))
    (end_without (update_list default_list) (says (codes "default") SetDefault))

unfoldable pub action : Rule Action
action = Either (Keyword (codes "set") ∷ []) update_setting plain_action

-- what the other change does, where it is given
abbrev pub action_on : {A : Type 0} → Bytes → Rule A → A → Rule A
action_on change action otherwise = Either (Keyword (codes "on") ∷ []) (word (codes "on") ▸ word change ▸ action) (Done otherwise)

-- on delete, with the list of the columns that it sets, and on update
pub record Actions : Type 0 where
  pub on_delete : Action
  pub set_columns : Option (List Bytes)
  pub on_update : Action

abbrev pub actions_of : Action × Option (List Bytes) → Action → Actions
actions_of deletion on_update = record { on_delete = deletion.0; set_columns = deletion.1; on_update = on_update }

unfoldable pub actions : Rule Actions
actions =
    Either (Keyword (codes "on") ∷ [])
    (word (codes "on")
    ▸ Either (Keyword (codes "delete") ∷ []) (word (codes "delete") ▸ Both actions_of deletion (action_on (codes "update") action NoAction))
    (word (codes "update") ▸ Both (λ on_update deletion. actions_of deletion on_update) action (action_on (codes "delete") deletion (NoAction, None))))
    (Done (actions_of (NoAction, None) NoAction))

-- a reference without its timing
pub record Target : Type 0 where
  pub table : Bytes
  pub columns : Option (List Bytes)
  pub matching : Match
  pub actions : Actions

abbrev pub target_of : Bytes → Option (List Bytes) × (Match × Actions) → Target
target_of table (columns, (matching, actions)) = record { table = table; columns = columns; matching = matching; actions = actions }

unfoldable pub target : Rule Target
target =
    word (codes "references")
    ▸ Both target_of public_name (Both (λ columns others. (columns, others)) column_list (Both (λ matching actions. (matching, actions)) matching actions))

abbrev pub reference_of : Target → Decl → Reference
reference_of target timing =
    record {
      table = target.table;
      columns = target.columns;
      matching = target.matching;
      on_delete = target.actions.on_delete;
      set_columns = target.actions.set_columns;
      on_update = target.actions.on_update;
      timing = timing;
    }

abbrev pub constraint_name : Rule Bytes
constraint_name = word (codes "constraint") ▸ name

-- further constraints of a column
abbrev pub constraints : Bool → Rule (List ColumnConstraint)
constraints has_default = Call (ColumnConstraints has_default) (λ others. others)

unfoldable pub not_null : Bool → Rule (List ColumnConstraint)
not_null has_default = word (codes "null") ▸ mapped (λ others. NotNull ∷ others) (constraints has_default)

abbrev pub references_then : Option Bytes → Target → Decl × List ColumnConstraint → List ColumnConstraint
references_then named target (timing, others) = References named (reference_of target timing) ∷ others

-- a constraint that may have a name, with those behind it
unfoldable pub named_constraint : Bool → Rule (Option Bytes → List ColumnConstraint)
named_constraint has_default =
    Either (Keyword (codes "primary") ∷ [])
    (word (codes "primary") ▸ word (codes "key") ▸ Unless behind_key (mapped (λ others named. PrimaryKey named ∷ others) (constraints has_default)))
    (Either (Keyword (codes "unique") ∷ []) (word (codes "unique") ▸ Unless behind_key (mapped (λ others named. Unique named ∷ others) (constraints has_default)))
    (Both (λ target others named. references_then named target others) target (Call (ReferenceEnd has_default) (λ others. others))))

-- a DEFAULT, where there is none yet
abbrev pub default_or : Bool → Rule (List ColumnConstraint) → Rule (List ColumnConstraint)
default_or true others = others
default_or false others =
    Either (Keyword (codes "default") ∷ []) (word (codes "default") ▸ Both (λ value others. Default value ∷ others) constant (constraints true)) others

-- a constraint that begins otherwise than with NOT, with those behind it
unfoldable pub others_then : Bool → Rule (List ColumnConstraint)
others_then has_default =
    default_or has_default
    (Either (Keyword (codes "constraint") ∷ []) (Both (λ text named. named (Some text)) constraint_name (Unless other_constraints (named_constraint has_default)))
    (mapped (λ named. named None) (named_constraint has_default)))

-- a constraint with a name or without one
abbrev pub named_begins : List Terminal
named_begins = Keyword (codes "constraint") ∷ Keyword (codes "primary") ∷ Keyword (codes "unique") ∷ Keyword (codes "references") ∷ []

-- constraints begin so, otherwise than with NOT
abbrev pub other_begins : Bool → List Terminal
other_begins true = named_begins
other_begins false = Keyword (codes "default") ∷ named_begins

abbrev pub constraint_begins : Bool → List Terminal
constraint_begins has_default = Keyword (codes "not") ∷ other_begins has_default

unfoldable pub column_constraints : Bool → Rule (List ColumnConstraint)
column_constraints has_default =
    Unless other_constraints
    (Either (constraint_begins has_default) (Either (Keyword (codes "not") ∷ []) (word (codes "not") ▸ not_null has_default) (others_then has_default)) (Done []))

-- constraints that begin otherwise than with NOT
unfoldable pub other_column_constraints : Bool → Rule (List ColumnConstraint)
other_column_constraints has_default = Either (other_begins has_default) (others_then has_default) (Done [])

abbrev pub with_timing : Decl → List ColumnConstraint → Decl × List ColumnConstraint
with_timing timing others = (timing, others)

-- the constraints behind a timing, where NOT VALID may not stand
abbrev pub behind_timing : Rule Decl → Bool → Rule (Decl × List ColumnConstraint)
behind_timing timing has_default = Both with_timing timing (Unless (not_valid ∷ []) (constraints has_default))

unfoldable pub reference_end : Bool → Rule (Decl × List ColumnConstraint)
reference_end has_default =
    Unless (not_valid ∷ other_constraints)
    (Either (Keyword (codes "not") ∷ [])
    (word (codes "not")
    ▸ Either (Keyword (codes "null") ∷ []) (mapped (with_timing immediate) (not_null has_default))
    (behind_timing (word (codes "deferrable") ▸ behind_not_deferrable) has_default))
    (Either (Keyword (codes "deferrable") ∷ Keyword (codes "initially") ∷ []) (behind_timing deferring has_default)
    (mapped (with_timing immediate) (other_column_constraints has_default))))

unfoldable pub column_item : Rule TableItem
column_item =
    Both (λ text (described : Kind × List ColumnConstraint). Column_item text described.0 described.1) name
    (Both (λ kind constraints. (kind, constraints)) kind (constraints false))

-- constraints of a table behind their names
unfoldable pub table_primary_key : Rule (Option Bytes → TableConstraint)
table_primary_key =
    word (codes "primary") ▸ word (codes "key") ▸ mapped (λ columns named. PrimaryKey_of named columns) (end_without behind_key (in_parentheses names))

unfoldable pub table_unique : Rule (Option Bytes → TableConstraint)
table_unique = word (codes "unique") ▸ mapped (λ columns named. Unique_of named columns) (end_without behind_key (in_parentheses names))

unfoldable pub table_foreign_key : Rule (Option Bytes → TableConstraint)
table_foreign_key =
    word (codes "foreign") ▸ word (codes "key")
    ▸ Both (λ columns reference named. ForeignKey_of named columns reference) (in_parentheses names) (Both reference_of target (timing_without (not_valid ∷ [])))

unfoldable pub bare_table_constraint : Rule (Option Bytes → TableConstraint)
bare_table_constraint = Either (Keyword (codes "primary") ∷ []) table_primary_key (Either (Keyword (codes "unique") ∷ []) table_unique table_foreign_key)

unfoldable pub table_constraint : Rule TableConstraint
table_constraint =
    Either (Keyword (codes "constraint") ∷ []) (Both (λ text named. named (Some text)) constraint_name (Unless other_constraints bare_table_constraint))
    (mapped (λ named. named None) bare_table_constraint)

unfoldable pub item : Rule TableItem
item =
    Unless other_items
    (Either (Keyword (codes "constraint") ∷ Keyword (codes "primary") ∷ Keyword (codes "unique") ∷ Keyword (codes "foreign") ∷ [])
    (mapped Constraint_item table_constraint) column_item)

abbrev pub behind_items : List Refusal
behind_items = refuse_word (codes "partition") (codes "partitions are not supported") ∷ refuse_word (codes "inherits") (codes "inheritance is not supported") ∷ []

unfoldable pub items : Rule (List TableItem)
items = listed item

unfoldable pub create_table : Rule Statement
create_table =
    word (codes "table")
    ▸ Both (λ table items. CreateTable (record { table = table; items = items })) public_name (end_without behind_items (in_parentheses items))

unfoldable pub added : Rule TableConstraint
added = word (codes "add") ▸ Unless other_constraints table_constraint

-- ONLY may be left out
abbrev pub perhaps_only : Rule (Unit {0})
perhaps_only = Either (Keyword (codes "only") ∷ []) (word (codes "only")) (Done tt)

unfoldable pub alter_table : Rule Statement
alter_table =
    word (codes "alter") ▸ word (codes "table") ▸ perhaps_only
    ▸ Both (λ table constraint. AlterTable (record { table = table; constraint = constraint })) public_name added
