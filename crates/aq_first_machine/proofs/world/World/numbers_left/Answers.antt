use Rattle.std.proofs.Common.{map, rules}
use Rattle.aq_first_machine.specs.Versions.{write_entry}
use Rattle.aq_first_machine.proofs.Histories.{last_database-all, numbers-left}
use Rattle.aq_first_machine.proofs.world.World.numbers_left.Goals as goal

pub returns : goal.returns
returns c =
    rw (← c.self.view_is, last_database-all c.self.inside.commits c.self.inside.versions.items c.self.invariant, ← numbers-left (map write_entry c.args.writes.now) c.args.table c.self.inside.versions.items) (search rules)
