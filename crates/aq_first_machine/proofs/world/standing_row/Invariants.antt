use Rattle.std.proofs.Common.{◌≡◌, map, drop, filter}
use Rattle.aq_base.specs.Maps.{at}
use Rattle.aq_first_machine.specs.Versions.{stored_entry, is_standing}
use Rattle.aq_first_machine.proofs.world.standing_row.Given as goal

abbrev pub invariant-versions : goal.invariant-versions
invariant-versions l = at l.row (map stored_entry (filter is_standing (drop l.v-index l.versions))) ≡ at l.fn.row (map stored_entry (filter is_standing l.fn.versions))
