use Rattle.std.proofs.Common.{◌≡◌, take}
use Rattle.aq_base.proofs.body.+copies.Given as goal

abbrev pub invariant-copy_statements-loop-statement : goal.invariant-copy_statements-loop-statement
invariant-copy_statements-loop-statement l = l.made ≡ take l.statement-index l.statement-items

abbrev pub invariant-copy_else_ifs-loop-else_if : goal.invariant-copy_else_ifs-loop-else_if
invariant-copy_else_ifs-loop-else_if l = l.made ≡ take l.else_if-index l.else_if-items

abbrev pub invariant-copy_handlers-loop-handler : goal.invariant-copy_handlers-loop-handler
invariant-copy_handlers-loop-handler l = l.made ≡ take l.handler-index l.handler-items
