-- Statements whose names are numbers, form by form.
use Rattle.std.proofs.Common.{◌≡◌, ℕ, List, sym, ap, ◌∙◌, map, Option, Some, None, option_map}
use Rattle.aq_base.specs.declared.expr.Expr.{Expr}
use Rattle.aq_base.specs.declared.body.BodyStatement.{BodyStatement, fold-roll-BodyStatement}
use Rattle.aq_base.specs.declared.body.BodyStatement.TheVariants as bodies
use Rattle.aq_base.specs.declared.body.ElseIf.{ElseIf}
use Rattle.aq_base.specs.declared.bound_expr.BoundExpr.{BoundExpr}
use Rattle.aq_base.specs.declared.bound_data.BoundSource.{BoundSource}
use Rattle.aq_base.specs.declared.bound_data.BoundInsert.{BoundInsert}
use Rattle.aq_base.specs.declared.bound_body.BoundBodyStatement.{BoundBodyStatement}
use Rattle.aq_base.specs.declared.bound_body.BoundBodyStatement.TheVariants as bound_bodies
use Rattle.aq_base.specs.declared.bound_body.BoundElseIf.{BoundElseIf}
use Rattle.aq_base.specs.declared.bound_body.BoundHandler.{BoundHandler}
use Rattle.aq_setup.specs.Scopes.{Setting, no_row}
use Rattle.aq_setup.specs.Binding.{bound_expression}
use Rattle.aq_setup.specs.Bodies.{body_bound_step, else_if_bound_step, handler_bound_step, bound_body_statement, bound_else_if}

pub if_bound : (setting : Setting) (condition : Expr) (first : List BodyStatement) (others : List ElseIf) (last : Option (List BodyStatement))
    → bound_body_statement setting (bodies.If condition first others last)
    ≡ bound_bodies.If (bound_expression (no_row setting.changed) condition) (map (bound_body_statement setting) first) (map (bound_else_if setting) others) (option_map (map (bound_body_statement setting)) last)
if_bound setting condition first others None =
    ap (bound_body_statement setting) (sym (bodies.rolls-If condition first others None))
    ∙ fold-roll-BodyStatement BoundBodyStatement BoundElseIf BoundHandler (body_bound_step setting) (else_if_bound_step setting) handler_bound_step _
if_bound setting condition first others (Some found) =
    ap (bound_body_statement setting) (sym (bodies.rolls-If condition first others (Some found)))
    ∙ fold-roll-BodyStatement BoundBodyStatement BoundElseIf BoundHandler (body_bound_step setting) (else_if_bound_step setting) handler_bound_step _

abbrev insert_of : ℕ → Option (List ℕ) → BoundSource → BoundInsert
insert_of table columns source = record { table = table; columns = columns; source = source }

-- an INSERT of equal parts
pub same_insert : (table other_table : ℕ) (columns other_columns : Option (List ℕ)) (source other_source : BoundSource)
    → table ≡ other_table → columns ≡ other_columns → source ≡ other_source → insert_of table columns source ≡ insert_of other_table other_columns other_source
same_insert table other_table columns other_columns source other_source a b c =
    ap (λ t. insert_of t columns source) a ∙ ap (λ cols. insert_of other_table cols source) b ∙ ap (λ s. insert_of other_table other_columns s) c

abbrev if_of : BoundExpr → List BoundBodyStatement → List BoundElseIf → Option (List BoundBodyStatement) → BoundBodyStatement
if_of condition first others last = bound_bodies.If condition first others last

-- an IF whose parts are bound
pub same_if : (setting : Setting) (s : BodyStatement) (condition : Expr) (first : List BodyStatement) (others : List ElseIf) (last : Option (List BodyStatement))
    (a : BoundExpr) (b : List BoundBodyStatement) (d : List BoundElseIf) (e : Option (List BoundBodyStatement))
    → s ≡ bodies.If condition first others last → a ≡ bound_expression (no_row setting.changed) condition → b ≡ map (bound_body_statement setting) first
    → d ≡ map (bound_else_if setting) others → e ≡ option_map (map (bound_body_statement setting)) last → bound_bodies.If a b d e ≡ bound_body_statement setting s
same_if setting s condition first others last a b d e is first_is then_is others_are last_is =
    ap (λ x. if_of x b d e) first_is ∙ ap (λ x. if_of (bound_expression (no_row setting.changed) condition) x d e) then_is
    ∙ ap (λ x. if_of (bound_expression (no_row setting.changed) condition) (map (bound_body_statement setting) first) x e) others_are
    ∙ ap (λ x. if_of (bound_expression (no_row setting.changed) condition) (map (bound_body_statement setting) first) (map (bound_else_if setting) others) x) last_is
    ∙ sym (if_bound setting condition first others last) ∙ ap (bound_body_statement setting) (sym is)
