use Rattle.std.proofs.Common.{length, rules}
use Rattle.aq_first_run.specs.States.{last_database}
use Rattle.aq_first_machine.proofs.Views.{numbers-view}
use Rattle.aq_first_machine.proofs.view.rows_in_view.Goals as goal

pub returns : goal.returns
returns c = rw (numbers-view (length c.args.world.now.history) c.args.world.now.rows c.args.table (last_database c.args.world.now) c.args.writes.now c.requires) (search rules)
