-- Bodies with blocks whose faults and whose bound form were computed by hand.
use Rattle.std.proofs.Common.{◌≡◌, List, [], ◌∷◌, ◌++◌, None, codes, map, sym, ap, ◌∙◌}
use Rattle.aq_base.specs.Names.{Text}
use Rattle.aq_base.specs.declared.fault.SqlFault.{SqlFault}
use Rattle.aq_base.specs.declared.data.Delete.{Delete}
use Rattle.aq_base.specs.declared.body.Body.{Body}
use Rattle.aq_base.specs.declared.body.BodyStatement.{BodyStatement, fold-roll-BodyStatement}
use Rattle.aq_base.specs.declared.body.BodyStatement.TheVariants as bodies
use Rattle.aq_base.specs.declared.body.Condition.TheVariants as conditions
use Rattle.aq_base.specs.declared.body.Handler.{Handler, fold_out-Handler}
use Rattle.aq_base.specs.declared.bound_body.BoundBodyStatement.{BoundBodyStatement}
use Rattle.aq_base.specs.declared.bound_body.BoundBodyStatement.TheVariants as bound_bodies
use Rattle.aq_base.specs.declared.bound_body.BoundElseIf.{BoundElseIf}
use Rattle.aq_base.specs.declared.bound_body.BoundHandler.{BoundHandler}
use Rattle.aq_catalog.specs.Catalogs.{no_tables}
use Rattle.aq_refusals.specs.Faults.{no_relation}
use Rattle.aq_setup.specs.Scopes.{Setting, in_session}
use Rattle.aq_setup.specs.Binding.{delete_faults, bound_delete}
use Rattle.aq_setup.specs.Bodies.{all_faults, faults_in, handler_faults, body_faults, body_faults_step, else_if_faults_step, handler_faults_step, bound_body_statement, bound_handler, bound_body, body_bound_step, else_if_bound_step, handler_bound_step}

abbrev Faults : Type 0
Faults = List SqlFault

abbrev delete_from : Text → Delete
delete_from table = record { table = table; condition = None }

-- BEGIN BEGIN DELETE FROM a; EXCEPTION WHEN OTHERS THEN DELETE FROM b; END; DELETE FROM c; EXCEPTION WHEN raise_exception THEN DELETE FROM d; END
abbrev nested : Body
nested =
    record {
      statements =
          bodies.Block
          (bodies.Delete (delete_from (codes "a")) ∷ [])
          (record { conditions = conditions.Others ∷ []; statements = bodies.Delete (delete_from (codes "b")) ∷ [] } ∷ [])
          ∷ bodies.Delete (delete_from (codes "c")) ∷ [];
      handlers = record { conditions = conditions.RaiseException ∷ []; statements = bodies.Delete (delete_from (codes "d")) ∷ [] } ∷ [];
    }

delete_faulty : (setting : Setting) (s : Delete) → faults_in setting (bodies.Delete s) ≡ delete_faults setting s
delete_faulty setting s =
    ap (faults_in setting) (sym (bodies.rolls-Delete s))
    ∙ fold-roll-BodyStatement Faults Faults Faults (body_faults_step setting) (else_if_faults_step setting) handler_faults_step _

handler_faulty : (setting : Setting) (handler : Handler) → handler_faults setting handler ≡ all_faults (map (faults_in setting) handler.statements)
handler_faulty setting handler =
    fold_out-Handler Faults Faults Faults (body_faults_step setting) (else_if_faults_step setting) handler_faults_step handler

block_faulty : (setting : Setting) (statements : List BodyStatement) (handlers : List Handler)
    → faults_in setting (bodies.Block statements handlers)
    ≡ all_faults (map (faults_in setting) statements) ++ all_faults (map (handler_faults setting) handlers)
block_faulty setting statements handlers =
    ap (faults_in setting) (sym (bodies.rolls-Block statements handlers))
    ∙ fold-roll-BodyStatement Faults Faults Faults (body_faults_step setting) (else_if_faults_step setting) handler_faults_step _

-- in the order of the text: the block, its handler, what stands behind it, and the handler of the whole
faults_in_order : body_faults (in_session no_tables) nested
    ≡ no_relation (codes "a") ∷ no_relation (codes "b") ∷ no_relation (codes "c") ∷ no_relation (codes "d") ∷ []
faults_in_order = simp (block_faulty, handler_faulty, delete_faulty)

delete_bound : (setting : Setting) (s : Delete) → bound_body_statement setting (bodies.Delete s) ≡ bound_bodies.Delete (bound_delete setting s)
delete_bound setting s =
    ap (bound_body_statement setting) (sym (bodies.rolls-Delete s))
    ∙ fold-roll-BodyStatement BoundBodyStatement BoundElseIf BoundHandler (body_bound_step setting) (else_if_bound_step setting) handler_bound_step _

handler_bound : (setting : Setting) (handler : Handler)
    → bound_handler setting handler ≡ record { conditions = handler.conditions; statements = map (bound_body_statement setting) handler.statements }
handler_bound setting handler =
    fold_out-Handler BoundBodyStatement BoundElseIf BoundHandler (body_bound_step setting) (else_if_bound_step setting) handler_bound_step handler

block_bound : (setting : Setting) (statements : List BodyStatement) (handlers : List Handler)
    → bound_body_statement setting (bodies.Block statements handlers)
    ≡ bound_bodies.Block (map (bound_body_statement setting) statements) (map (bound_handler setting) handlers)
block_bound setting statements handlers =
    ap (bound_body_statement setting) (sym (bodies.rolls-Block statements handlers))
    ∙ fold-roll-BodyStatement BoundBodyStatement BoundElseIf BoundHandler (body_bound_step setting) (else_if_bound_step setting) handler_bound_step _

-- the number of a table that isn't there is 0
abbrev from_first : BoundBodyStatement
from_first = bound_bodies.Delete (record { table = 0; condition = None })

bound_with_handlers : bound_body (in_session no_tables) nested
    ≡ record {
      statements =
          bound_bodies.Block (from_first ∷ []) (record { conditions = conditions.Others ∷ []; statements = from_first ∷ [] } ∷ [])
          ∷ from_first ∷ [];
      handlers = record { conditions = conditions.RaiseException ∷ []; statements = from_first ∷ [] } ∷ [];
    }
bound_with_handlers = simp (block_bound, handler_bound, delete_bound)
