use Rattle.std.proofs.Common.{◌≡◌, ◌++◌, map, drop, filter}
use Rattle.aq_first_machine.specs.Versions.{write_entry, is_left}
use Rattle.aq_first_machine.proofs.world.rows_left.Given as goal

abbrev pub invariant-versions : goal.invariant-versions
invariant-versions l =
    l.rows.items ++ map (λ v. v.row) (filter (is_left (map write_entry l.writes) l.table) (drop l.v-index l.versions))
    ≡ map (λ v. v.row) (filter (is_left (map write_entry l.fn.writes) l.fn.table) l.fn.versions)
