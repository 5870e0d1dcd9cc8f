use Rattle.std.proofs.Common.{◌≡◌, Some, take}
use Rattle.aq_simple.specs.Forms.{all_of, simple_placed}
use Rattle.aq_simple.proofs.forms.simple_statements.Given as goal

abbrev pub invariant-loop-placed : goal.invariant-loop-placed
invariant-loop-placed l = all_of simple_placed (take l.placed-index l.statements) ≡ Some l.simple
