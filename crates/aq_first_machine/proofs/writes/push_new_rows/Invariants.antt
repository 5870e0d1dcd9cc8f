use Rattle.std.proofs.Common.{◌≡◌, ◌++◌, map, drop, filter}
use Rattle.aq_first_machine.specs.Versions.{is_new_in}
use Rattle.aq_first_machine.proofs.writes.push_new_rows.Given as goal

abbrev pub invariant-writes : goal.invariant-writes
invariant-writes l =
    l.rows.items ++ map (λ w. w.row) (filter (is_new_in l.table) (drop l.w-index l.writes)) ≡ l.fn.rows.items ++ map (λ w. w.row) (filter (is_new_in l.fn.table) l.fn.writes)
