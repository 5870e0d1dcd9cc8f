use Rattle.std.proofs.Common.{rules}
use Rattle.aq_first_machine.proofs.Histories.{last_database-all}
use Rattle.aq_first_machine.proofs.world.World.table_rows.Goals as goal

pub returns : goal.returns
returns c = rw (← c.self.view_is, last_database-all c.self.inside.commits c.self.inside.versions.items c.self.invariant) (search rules)
