use Rattle.std.proofs.Common.{◌≡◌, ◌==◌, ◌&&◌, map, drop}
use Rattle.std.specs.Prelude.{find}
use Rattle.aq_first_outcomes.specs.Rows.{is_taken}
use Rattle.aq_first_machine.specs.Orders.{view_with}
use Rattle.aq_first_machine.specs.Versions.{write_entry}
use Rattle.aq_first_machine.proofs.checks.duplicate_fault_of.Given as goal

abbrev pub invariant-keys : goal.invariant-keys
invariant-keys l =
    find (λ key. key.table == l.table && is_taken (view_with l.world (map write_entry l.writes)) l.row key) (drop l.key-index l.keys)
    ≡ find (λ key. key.table == l.fn.table && is_taken (view_with l.fn.world (map write_entry l.fn.writes)) l.fn.row key) l.fn.catalog.keys
