use Rattle.std.proofs.Common.{◌≡◌, ◌++◌, map, drop, filter}
use Rattle.aq_first_run.specs.Texts.{table_rows}
use Rattle.aq_first_machine.specs.Versions.{stored_entry, is_standing}
use Rattle.aq_first_machine.proofs.world.rows_among.Given as goal

abbrev pub invariant-versions : goal.invariant-versions
invariant-versions l =
    l.rows ++ table_rows l.t (map stored_entry (filter is_standing (drop l.v-index l.versions))) ≡ table_rows l.fn.t (map stored_entry (filter is_standing l.fn.versions))
