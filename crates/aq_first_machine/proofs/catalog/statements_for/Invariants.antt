use Rattle.std.proofs.Common.{◌≡◌, ◌++◌, drop}
use Rattle.std.specs.List.{filter_map}
use Rattle.aq_first_base.specs.Setup.{bound, bound_statements}
use Rattle.aq_first_machine.proofs.catalog.statements_for.Given as goal

abbrev pub invariant-statements : goal.invariant-statements
invariant-statements l =
    l.statements ++ filter_map (λ placed. bound l.catalog placed.statement) (drop l.placed-index l.fn.session.statements) ≡ bound_statements l.fn.catalog l.fn.session
