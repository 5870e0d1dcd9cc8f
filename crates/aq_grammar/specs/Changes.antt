-- INSERT, UPDATE, DELETE, SELECT and SET CONSTRAINTS (PostgreSQL manual, pages of these names).
--     insert    = INSERT INTO table [(columns)] (VALUES values {, values} | SELECT expression {, expression} FROM table [WHERE expression])
--     values    = ( given {, given} )                        given  = expression | DEFAULT
--     update    = UPDATE table SET column = given {, column = given} [WHERE expression]
--     delete    = DELETE FROM table [WHERE expression]
--     select    = SELECT (* | columns) FROM table [WHERE expression] [FOR (UPDATE | NO KEY UPDATE | SHARE | KEY SHARE)]
--     set       = SET CONSTRAINTS (ALL | constraint {, constraint}) (DEFERRED | IMMEDIATE)
use Rattle.std.specs.Prelude.{List, [], ◌∷◌, Option, codes}
use Rattle.aq_base.specs.Names.{Text as Bytes}
use Rattle.aq_lex.specs.declared.token.Symbol.TheVariants.{OpenParen, Comma, Times, Equal}
use Rattle.aq_grammar.specs.Terminals.{Keyword, Sign}
use Rattle.aq_grammar.specs.Rules.{Rule, Refusal, Both, Either, Unless}
use Rattle.aq_grammar.specs.declared.scope.Scope.{Scope}
use Rattle.aq_grammar.specs.Forms.{word, sign, ◌▸◌, ◌◂◌, mapped, nothing, says, optional, listed, in_parentheses, name, names, public_name, refuse, refuse_word}
use Rattle.aq_grammar.specs.Expressions.{whole_expression}
use Rattle.aq_base.specs.declared.expr.Expr.{Expr}
use Rattle.aq_base.specs.declared.data.Given.{Given}
use Rattle.aq_base.specs.declared.data.Source.{Source}
use Rattle.aq_base.specs.declared.data.Insert.{Insert}
use Rattle.aq_base.specs.declared.data.Assignment.{Assignment}
use Rattle.aq_base.specs.declared.data.Update.{Update}
use Rattle.aq_base.specs.declared.data.Delete.{Delete}
use Rattle.aq_base.specs.declared.data.Columns.{Columns}
use Rattle.aq_base.specs.declared.data.LockMode.{LockMode}
use Rattle.aq_base.specs.declared.data.Select.{Select}
use Rattle.aq_base.specs.declared.modes.ConstraintMode.{ConstraintMode}
use Rattle.aq_base.specs.declared.modes.Constraints.{Constraints}
use Rattle.aq_base.specs.declared.modes.SetConstraints.{SetConstraints}
use Rattle.aq_base.specs.declared.data.Given.TheVariants.{Value as Value_given, Default as Default_given}
use Rattle.aq_base.specs.declared.data.Source.TheVariants.{Values, Query}
use Rattle.aq_base.specs.declared.data.Columns.TheVariants.{All as All_columns, Named as Named_columns}
use Rattle.aq_base.specs.declared.data.LockMode.TheVariants.{Update as For_update, NoKeyUpdate as For_no_key_update, Share as For_share, KeyShare as For_key_share}
use Rattle.aq_base.specs.declared.modes.ConstraintMode.TheVariants.{Deferred, Immediate}
use Rattle.aq_base.specs.declared.modes.Constraints.TheVariants.{All as All_constraints, Named as Named_constraints}

-- one table stands behind FROM
abbrev pub joins : List Refusal
joins = refuse (Sign Comma ∷ []) (codes "joins are not supported") ∷ refuse_word (codes "join") (codes "joins are not supported") ∷ []

abbrev pub returning : Refusal
returning = refuse_word (codes "returning") (codes "RETURNING is not supported")

abbrev pub on_conflict : Refusal
on_conflict = refuse (Keyword (codes "on") ∷ Keyword (codes "conflict") ∷ []) (codes "ON CONFLICT is not supported")

-- no such words behind a whole statement
abbrev pub end_without : {A : Type 0} → List Refusal → Rule A → Rule A
end_without refusals a = a ◂ Unless refusals nothing

unfoldable pub where_part : Scope → Rule (Option Expr)
where_part scope = optional (Keyword (codes "where") ∷ []) (word (codes "where") ▸ whole_expression scope)

unfoldable pub given : Scope → Rule Given
given scope = Either (Keyword (codes "default") ∷ []) (says (codes "default") Default_given) (mapped Value_given (whole_expression scope))

unfoldable pub row_values : Scope → Rule (List Given)
row_values scope = in_parentheses (listed (given scope))

-- a table, and which of its rows
unfoldable pub from_table : Scope → Rule (Bytes × Option Expr)
from_table scope = word (codes "from") ▸ Both (λ table condition. (table, condition)) public_name (Unless joins (where_part scope))

abbrev pub query : List Expr → Bytes × Option Expr → Source
query values (table, condition) = Query values table condition

unfoldable pub source : Scope → Rule Source
source scope =
    Either (Keyword (codes "values") ∷ []) (word (codes "values") ▸ mapped Values (listed (row_values scope)))
    (word (codes "select") ▸ Both query (listed (whole_expression scope)) (from_table scope))

unfoldable pub column_list : Rule (Option (List Bytes))
column_list = optional (Sign OpenParen ∷ []) (in_parentheses names)

abbrev pub insert_of : Bytes → Option (List Bytes) × Source → Insert
insert_of table (columns, source) = record { table = table; columns = columns; source = source }

unfoldable pub insert : Scope → Rule Insert
insert scope =
    word (codes "insert") ▸ word (codes "into")
    ▸ end_without (returning ∷ on_conflict ∷ []) (Both insert_of public_name (Both (λ columns source. (columns, source)) column_list (source scope)))

unfoldable pub assignment : Scope → Rule Assignment
assignment scope = Both (λ column value. record { column = column; value = value }) name (sign Equal ▸ given scope)

abbrev pub update_of : Bytes → List Assignment × Option Expr → Update
update_of table (assignments, condition) = record { table = table; assignments = assignments; condition = condition }

unfoldable pub update : Scope → Rule Update
update scope =
    word (codes "update")
    ▸ end_without (returning ∷ [])
    (Both update_of public_name (word (codes "set") ▸ Both (λ assignments condition. (assignments, condition)) (listed (assignment scope)) (where_part scope)))

abbrev pub delete_of : Bytes × Option Expr → Delete
delete_of (table, condition) = record { table = table; condition = condition }

unfoldable pub delete : Scope → Rule Delete
delete scope = word (codes "delete") ▸ end_without (returning ∷ []) (mapped delete_of (from_table scope))

unfoldable pub columns : Rule Columns
columns = Either (Sign Times ∷ []) (mapped (λ star. All_columns) (sign Times)) (mapped Named_columns names)

-- behind a lock: it waits for others
abbrev pub no_wait : List Refusal
no_wait = refuse_word (codes "nowait") (codes "NOWAIT is not supported") ∷ refuse_word (codes "skip") (codes "SKIP LOCKED is not supported") ∷ []

unfoldable pub lock_mode : Rule LockMode
lock_mode =
    Either (Keyword (codes "update") ∷ []) (says (codes "update") For_update)
    (Either (Keyword (codes "no") ∷ []) (word (codes "no") ▸ word (codes "key") ▸ says (codes "update") For_no_key_update)
    (Either (Keyword (codes "share") ∷ []) (says (codes "share") For_share) (word (codes "key") ▸ says (codes "share") For_key_share)))

unfoldable pub lock : Rule (Option LockMode)
lock = optional (Keyword (codes "for") ∷ []) (word (codes "for") ▸ end_without no_wait lock_mode)

abbrev pub select_of : Columns → Bytes × (Option Expr × Option LockMode) → Select
select_of columns (table, (condition, lock)) = record { columns = columns; table = table; condition = condition; lock = lock }

unfoldable pub select : Scope → Rule Select
select scope =
    word (codes "select")
    ▸ Both select_of columns
    (word (codes "from") ▸ Both (λ table others. (table, others)) public_name (Unless joins (Both (λ condition lock. (condition, lock)) (where_part scope) lock)))

unfoldable pub constraints : Rule Constraints
constraints = Either (Keyword (codes "all") ∷ []) (says (codes "all") All_constraints) (mapped Named_constraints (listed public_name))

unfoldable pub constraint_mode : Rule ConstraintMode
constraint_mode = Either (Keyword (codes "deferred") ∷ []) (says (codes "deferred") Deferred) (says (codes "immediate") Immediate)

unfoldable pub set_constraints : Rule SetConstraints
set_constraints =
    word (codes "set") ▸ word (codes "constraints") ▸ Both (λ constraints mode. record { constraints = constraints; mode = mode }) constraints constraint_mode
