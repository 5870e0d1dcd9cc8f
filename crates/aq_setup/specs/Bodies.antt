-- The bodies of trigger functions: their faults, and what they say once their names are numbers. Each statement, and each condition of an IF, has its
-- names before its kinds; statements go in the order of the text, through blocks too, where those of the handlers stand behind those of the block
-- (PostgreSQL manual, chapter "PL/pgSQL").
use Rattle.std.specs.Prelude.{List, [], ◌++◌, codes, Option, Some, None, map}
use Rattle.std.specs.List.{flat_map}
use Rattle.aq_base.specs.declared.fault.SqlFault.{SqlFault}
use Rattle.aq_base.specs.declared.expr.Expr.{Expr}
use Rattle.aq_base.specs.declared.body.Body.{Body}
use Rattle.aq_base.specs.declared.body.BodyStatement.{BodyStatement, BodyStatement-F, fold-BodyStatement}
use Rattle.aq_base.specs.declared.body.BodyStatement.TheOpen as bodies
use Rattle.aq_base.specs.declared.body.ElseIf.{ElseIf, ElseIf-F, fold-ElseIf}
use Rattle.aq_base.specs.declared.body.Handler.{Handler, Handler-F, fold-Handler}
use Rattle.aq_base.specs.declared.bound_body.BoundBody.{BoundBody}
use Rattle.aq_base.specs.declared.bound_body.BoundBodyStatement.{BoundBodyStatement}
use Rattle.aq_base.specs.declared.bound_body.BoundBodyStatement.TheVariants as bound_bodies
use Rattle.aq_base.specs.declared.bound_body.BoundElseIf.{BoundElseIf}
use Rattle.aq_base.specs.declared.bound_body.BoundHandler.{BoundHandler}
use Rattle.aq_setup.specs.Scopes.{Setting, no_row}
use Rattle.aq_setup.specs.Binding.{condition_faults, bound_expression, insert_faults, update_faults, delete_faults, bound_insert, bound_update, bound_delete}

-- ---- faults

-- the condition of IF or ELSIF
abbrev pub if_faults : Setting → Expr → List SqlFault
if_faults setting condition = condition_faults (codes "IF") (no_row setting.changed) condition

abbrev pub all_faults : List (List SqlFault) → List SqlFault
all_faults found = flat_map (λ faults. faults) found

abbrev pub faults_of_option : Option (List (List SqlFault)) → List SqlFault
faults_of_option None = []
faults_of_option (Some found) = all_faults found

abbrev Faults : Type 0
Faults = List SqlFault

abbrev pub else_if_faults_step : Setting → ElseIf-F Faults Faults Faults → Faults
else_if_faults_step setting branch = if_faults setting branch.condition ++ all_faults branch.then

abbrev pub handler_faults_step : Handler-F Faults Faults Faults → Faults
handler_faults_step handler = all_faults handler.statements

abbrev pub body_faults_step : Setting → BodyStatement-F Faults Faults Faults → Faults
body_faults_step setting (bodies.If condition first others last) =
    if_faults setting condition ++ (all_faults first ++ (all_faults others ++ faults_of_option last))
body_faults_step setting (bodies.Raise text) = []
body_faults_step setting (bodies.Return what) = []
body_faults_step setting (bodies.Insert s) = insert_faults setting s
body_faults_step setting (bodies.Update s) = update_faults setting s
body_faults_step setting (bodies.Delete s) = delete_faults setting s
body_faults_step setting (bodies.SetConstraints s) = []
body_faults_step setting (bodies.Block statements handlers) = all_faults statements ++ all_faults handlers

abbrev pub faults_in : Setting → BodyStatement → List SqlFault
faults_in setting s =
    fold-BodyStatement Faults Faults Faults (body_faults_step setting) (else_if_faults_step setting) handler_faults_step s

abbrev pub else_if_faults : Setting → ElseIf → List SqlFault
else_if_faults setting branch =
    fold-ElseIf Faults Faults Faults (body_faults_step setting) (else_if_faults_step setting) handler_faults_step branch

abbrev pub handler_faults : Setting → Handler → List SqlFault
handler_faults setting handler =
    fold-Handler Faults Faults Faults (body_faults_step setting) (else_if_faults_step setting) handler_faults_step handler

-- the statements of a block, and then those of its handlers
abbrev pub block_faults : Setting → List BodyStatement → List Handler → List SqlFault
block_faults setting statements handlers = flat_map (faults_in setting) statements ++ flat_map (handler_faults setting) handlers

abbrev pub body_faults : Setting → Body → List SqlFault
body_faults setting body = block_faults setting body.statements body.handlers

-- ---- numbers for names: a statement is bound as itself; the names of SET CONSTRAINTS are looked up when it runs

abbrev pub else_if_bound_step : Setting → ElseIf-F BoundBodyStatement BoundElseIf BoundHandler → BoundElseIf
else_if_bound_step setting branch =
    record { condition = bound_expression (no_row setting.changed) branch.condition; then = branch.then }

abbrev pub handler_bound_step : Handler-F BoundBodyStatement BoundElseIf BoundHandler → BoundHandler
handler_bound_step handler = record { conditions = handler.conditions; statements = handler.statements }

abbrev pub body_bound_step : Setting → BodyStatement-F BoundBodyStatement BoundElseIf BoundHandler → BoundBodyStatement
body_bound_step setting (bodies.If condition first others last) =
    bound_bodies.If (bound_expression (no_row setting.changed) condition) first others last
body_bound_step setting (bodies.Raise text) = bound_bodies.Raise text
body_bound_step setting (bodies.Return what) = bound_bodies.Return what
body_bound_step setting (bodies.Insert s) = bound_bodies.Insert (bound_insert setting s)
body_bound_step setting (bodies.Update s) = bound_bodies.Update (bound_update setting s)
body_bound_step setting (bodies.Delete s) = bound_bodies.Delete (bound_delete setting s)
body_bound_step setting (bodies.SetConstraints s) = bound_bodies.SetConstraints s
body_bound_step setting (bodies.Block statements handlers) = bound_bodies.Block statements handlers

abbrev pub bound_body_statement : Setting → BodyStatement → BoundBodyStatement
bound_body_statement setting s =
    fold-BodyStatement BoundBodyStatement BoundElseIf BoundHandler (body_bound_step setting) (else_if_bound_step setting) handler_bound_step s

abbrev pub bound_else_if : Setting → ElseIf → BoundElseIf
bound_else_if setting branch =
    fold-ElseIf BoundBodyStatement BoundElseIf BoundHandler (body_bound_step setting) (else_if_bound_step setting) handler_bound_step branch

abbrev pub bound_handler : Setting → Handler → BoundHandler
bound_handler setting handler =
    fold-Handler BoundBodyStatement BoundElseIf BoundHandler (body_bound_step setting) (else_if_bound_step setting) handler_bound_step handler

abbrev pub bound_body : Setting → Body → BoundBody
bound_body setting body =
    record { statements = map (bound_body_statement setting) body.statements; handlers = map (bound_handler setting) body.handlers }
