use Rattle.std.proofs.Common.{◌≡◌, Some, take}
use Rattle.aq_simple.specs.Forms.{all_of, simple_row}
use Rattle.aq_simple.proofs.data.simple_rows.Given as goal

abbrev pub invariant-loop-row : goal.invariant-loop-row
invariant-loop-row l = all_of simple_row (take l.row-index l.rows) ≡ Some l.simple
