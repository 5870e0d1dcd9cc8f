use Rattle.std.proofs.Common.{◌≡◌, length}
use Rattle.aq_base.specs.Values.{keys_match}
use Rattle.aq_base.proofs.value.key_eq.Given as goal

abbrev pub invariant-values : goal.invariant-values
invariant-values l = keys_match l.left l.right ≡ keys_match l.fn.a l.fn.b

abbrev pub decreases-values : goal.decreases-values
decreases-values l = length l.left
