use Rattle.std.proofs.Common.{◌≡◌, length}
use Rattle.aq_base.specs.Values.{keys_match, values_at}
use Rattle.aq_first_machine.proofs.keys.row_has_key.Given as goal

abbrev pub invariant-values : goal.invariant-values
invariant-values l = keys_match (values_at l.cols_left l.row) l.values_left ≡ keys_match (values_at l.fn.cols l.fn.row) l.fn.key

abbrev pub decreases-values : goal.decreases-values
decreases-values l = length l.values_left
