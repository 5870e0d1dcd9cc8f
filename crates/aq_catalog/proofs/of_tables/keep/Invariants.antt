use Rattle.std.proofs.Common.{◌≡◌, ◌++◌, map, take, drop}
use Rattle.aq_catalog.specs.Listed.{listed_below}
use Rattle.aq_catalog.proofs.of_tables.keep.Given as goal

abbrev pub invariant-loop-row : goal.invariant-loop-row
invariant-loop-row l = l.row-items ≡ map (listed_below l.keys l.triggers) (take l.row-index l.fn.rows.items) ++ drop l.row-index l.fn.rows.items
