-- The data of each form of a bound tree, from those of its parts.
use Rattle.std.proofs.Common.{◌≡◌, ℕ, List, [], ◌∷◌, map, option_map, Option, Some, None, sym, ap, ◌∙◌}
use Rattle.aq_base.specs.Names.{Text}
use Rattle.aq_base.specs.declared.value.Value.{Value}
use Rattle.aq_base.specs.declared.expr.UnaryOperator.{UnaryOperator}
use Rattle.aq_base.specs.declared.expr.BinaryOperator.{BinaryOperator}
use Rattle.aq_base.specs.declared.body.Returned.{Returned}
use Rattle.aq_base.specs.declared.modes.SetConstraints.{SetConstraints}
use Rattle.aq_base.specs.declared.bound_expr.BoundExpr.{BoundExpr, fold-roll-BoundExpr}
use Rattle.aq_base.specs.declared.bound_expr.BoundExpr.TheVariants as exprs
use Rattle.aq_base.specs.declared.bound_data.BoundInsert.{BoundInsert}
use Rattle.aq_base.specs.declared.bound_data.BoundUpdate.{BoundUpdate}
use Rattle.aq_base.specs.declared.bound_data.BoundDelete.{BoundDelete}
use Rattle.aq_base.specs.declared.bound_body.BoundBodyStatement.{BoundBodyStatement, fold-roll-BoundBodyStatement}
use Rattle.aq_base.specs.declared.bound_body.BoundBodyStatement.TheVariants as bodies
use Rattle.aq_base.specs.declared.bound_body.BoundElseIf.{BoundElseIf, fold-BoundElseIf, fold-roll-BoundElseIf, rolls-BoundElseIf'}
use Rattle.aq_base.specs.declared.bound_body.BoundHandler.{BoundHandler, fold-roll-BoundHandler, rolls-BoundHandler'}
use Rattle.aq_base.specs.Terms.{Term, term_of, term_step}
use Rattle.aq_base.specs.Terms.Term.{Constant, Column, Old, New, Operation, Unary, Binary}
use Rattle.aq_base.specs.Statements.{insert_of, update_of, delete_of}
use Rattle.aq_base.specs.Statements.Change_of_rows.{Inserts, Updates, Deletes}
use Rattle.aq_base.specs.Codes.{Code, Handler, code_step, else_if_step, handler_step, statement_code, handler_code, block_code, choice_code, choices_code, joined, joined_in}
use Rattle.aq_base.specs.Codes.Instruction.{Changes, Raises, Returns, Sets}

pub constant_term : (value : Value) → term_of (exprs.Constant value) ≡ Constant value
constant_term value = ap term_of (sym (exprs.rolls-Constant value)) ∙ fold-roll-BoundExpr Term term_step _

pub column_term : (column : ℕ) → term_of (exprs.Column column) ≡ Column column
column_term column = ap term_of (sym (exprs.rolls-Column column)) ∙ fold-roll-BoundExpr Term term_step _

pub old_term : (column : ℕ) → term_of (exprs.Old column) ≡ Old column
old_term column = ap term_of (sym (exprs.rolls-Old column)) ∙ fold-roll-BoundExpr Term term_step _

pub new_term : (column : ℕ) → term_of (exprs.New column) ≡ New column
new_term column = ap term_of (sym (exprs.rolls-New column)) ∙ fold-roll-BoundExpr Term term_step _

pub operation_term : term_of (exprs.Operation) ≡ Operation
operation_term = ap term_of (sym (exprs.rolls-Operation)) ∙ fold-roll-BoundExpr Term term_step _

pub unary_term : (operator : UnaryOperator) (a : BoundExpr) → term_of (exprs.Unary operator a) ≡ Unary operator (term_of a)
unary_term operator a = ap term_of (sym (exprs.rolls-Unary operator a)) ∙ fold-roll-BoundExpr Term term_step _

pub binary_term : (a : BoundExpr) (operator : BinaryOperator) (b : BoundExpr) → term_of (exprs.Binary a operator b) ≡ Binary (term_of a) operator (term_of b)
binary_term a operator b = ap term_of (sym (exprs.rolls-Binary a operator b)) ∙ fold-roll-BoundExpr Term term_step _

-- ---- bodies

abbrev pub else_if_code : BoundElseIf → Term × Code
else_if_code = fold-BoundElseIf Code (Term × Code) Handler code_step else_if_step handler_step

pub if_code : (condition : BoundExpr) (then_ : List BoundBodyStatement) (else_ifs : List BoundElseIf) (otherwise : Option (List BoundBodyStatement)) →
    statement_code (bodies.If condition then_ else_ifs otherwise) ≡ choice_code (term_of condition) (joined (map statement_code then_)) (choices_code (map else_if_code else_ifs) (joined_in (option_map (map statement_code) otherwise)))
if_code condition then_ else_ifs None =
    ap statement_code (sym (bodies.rolls-If condition then_ else_ifs None)) ∙ fold-roll-BoundBodyStatement Code (Term × Code) Handler code_step else_if_step handler_step _
if_code condition then_ else_ifs (Some last) =
    ap statement_code (sym (bodies.rolls-If condition then_ else_ifs (Some last))) ∙ fold-roll-BoundBodyStatement Code (Term × Code) Handler code_step else_if_step handler_step _

pub raise_code : (text : Text) → statement_code (bodies.Raise text) ≡ Raises text ∷ []
raise_code text =
    ap statement_code (sym (bodies.rolls-Raise text)) ∙ fold-roll-BoundBodyStatement Code (Term × Code) Handler code_step else_if_step handler_step _

pub return_code : (what : Returned) → statement_code (bodies.Return what) ≡ Returns ∷ []
return_code what =
    ap statement_code (sym (bodies.rolls-Return what)) ∙ fold-roll-BoundBodyStatement Code (Term × Code) Handler code_step else_if_step handler_step _

pub insert_code : (s : BoundInsert) → statement_code (bodies.Insert s) ≡ Changes (Inserts (insert_of s)) ∷ []
insert_code s =
    ap statement_code (sym (bodies.rolls-Insert s)) ∙ fold-roll-BoundBodyStatement Code (Term × Code) Handler code_step else_if_step handler_step _

pub update_code : (s : BoundUpdate) → statement_code (bodies.Update s) ≡ Changes (Updates (update_of s)) ∷ []
update_code s =
    ap statement_code (sym (bodies.rolls-Update s)) ∙ fold-roll-BoundBodyStatement Code (Term × Code) Handler code_step else_if_step handler_step _

pub delete_code : (s : BoundDelete) → statement_code (bodies.Delete s) ≡ Changes (Deletes (delete_of s)) ∷ []
delete_code s =
    ap statement_code (sym (bodies.rolls-Delete s)) ∙ fold-roll-BoundBodyStatement Code (Term × Code) Handler code_step else_if_step handler_step _

pub set_code : (s : SetConstraints) → statement_code (bodies.SetConstraints s) ≡ Sets s ∷ []
set_code s =
    ap statement_code (sym (bodies.rolls-SetConstraints s)) ∙ fold-roll-BoundBodyStatement Code (Term × Code) Handler code_step else_if_step handler_step _

pub block_statement_code : (statements : List BoundBodyStatement) (handlers : List BoundHandler) → statement_code (bodies.Block statements handlers) ≡ block_code (joined (map statement_code statements)) (map handler_code handlers)
block_statement_code statements handlers =
    ap statement_code (sym (bodies.rolls-Block statements handlers)) ∙ fold-roll-BoundBodyStatement Code (Term × Code) Handler code_step else_if_step handler_step _

pub handler_code_is : (handler : BoundHandler) → handler_code handler ≡ (handler.conditions, joined (map statement_code handler.statements))
handler_code_is handler =
    ap handler_code (sym (rolls-BoundHandler' (record { conditions = handler.conditions; statements = handler.statements })))
    ∙ fold-roll-BoundHandler Code (Term × Code) Handler code_step else_if_step handler_step _

pub else_if_code_is : (branch : BoundElseIf) → else_if_code branch ≡ (term_of branch.condition, joined (map statement_code branch.then))
else_if_code_is branch =
    ap else_if_code (sym (rolls-BoundElseIf' (record { condition = branch.condition; then = branch.then })))
    ∙ fold-roll-BoundElseIf Code (Term × Code) Handler code_step else_if_step handler_step _
