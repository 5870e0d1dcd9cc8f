use Rattle.std.proofs.Common.{◌≡◌, drop}
use Rattle.aq_setup.specs.Tables.{default_in}
use Rattle.aq_additions.proofs.declared.default_in.Given as goal

abbrev pub invariant-loop-constraint : goal.invariant-loop-constraint
invariant-loop-constraint l = default_in (drop l.constraint-index l.found) ≡ default_in l.found
