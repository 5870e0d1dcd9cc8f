use Rattle.std.proofs.Common.{◌≡◌, Some, take}
use Rattle.aq_simple.specs.Forms.{all_of, simple_given}
use Rattle.aq_simple.proofs.data.simple_row.Given as goal

abbrev pub invariant-loop-given : goal.invariant-loop-given
invariant-loop-given l = all_of simple_given (take l.given-index l.row) ≡ Some l.simple
