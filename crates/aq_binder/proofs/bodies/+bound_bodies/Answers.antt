use Rattle.std.proofs.Common.{◌≡◌, ap, sym, ◌∙◌, map, Some, option_map}
use Rattle.aq_setup.specs.Scopes.{Setting}
use Rattle.aq_setup.specs.Bodies.{bound_body_statement}
use Rattle.aq_binder.proofs.BoundBodies.{same_if}
use Rattle.aq_binder.proofs.bodies.+bound_bodies.Goals as goal
use Rattle.aq_binder.proofs.bodies.+bound_bodies.Goals.{bound_statement-in-None, bound_statement-in-Some+in_ok-bound_statements-in-Some}

pub bound_statement-returns-after-otherwise : goal.bound_statement-returns-after-otherwise
bound_statement-returns-after-otherwise t c =
    let setting : Setting = c.args.setting.now in
    let last_is : c.match-otherwise.result ≡ option_map (map (bound_body_statement setting)) c.in-If.otherwise =
    elim c.match-otherwise.branch [
      | bound_statement-in-None w ↦ w.result-is ∙ ap (option_map (map (bound_body_statement setting))) (sym w.in-None.is)
      | bound_statement-in-Some+in_ok-bound_statements-in-Some w ↦
          w.result-is ∙ ap Some w.in_ok-bound_statements-in-Some.ensures ∙ ap (option_map (map (bound_body_statement setting))) (sym w.in-Some.is)
    ] in
    same_if setting c.args.s.now c.in-If.condition c.in-If.then c.in-If.else_ifs c.in-If.otherwise _ _ _ _ c.in-If.is
    c.in_ok-bound_if-in-If.ensures c.in_ok-bound_statements-in-If.ensures c.in_ok-bound_else_ifs-in-If.ensures last_is
