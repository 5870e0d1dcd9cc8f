use Rattle.std.proofs.Common.{◌≡◌, map, take}
use Rattle.aq_setup.specs.Bodies.{bound_body_statement, bound_else_if, bound_handler}
use Rattle.aq_binder.proofs.bodies.+bound_bodies.Given as goal

abbrev pub invariant-bound_else_ifs-loop-else_if : goal.invariant-bound_else_ifs-loop-else_if
invariant-bound_else_ifs-loop-else_if l = l.made ≡ map (bound_else_if l.setting) (take l.else_if-index l.else_if-items)

abbrev pub invariant-bound_handlers-loop-handler : goal.invariant-bound_handlers-loop-handler
invariant-bound_handlers-loop-handler l = l.made ≡ map (bound_handler l.setting) (take l.handler-index l.handler-items)

abbrev pub invariant-bound_statements-loop-statement : goal.invariant-bound_statements-loop-statement
invariant-bound_statements-loop-statement l = l.made ≡ map (bound_body_statement l.setting) (take l.statement-index l.statement-items)
