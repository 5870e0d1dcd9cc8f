use Rattle.std.proofs.Common.{length, rules}
use Rattle.aq_first_run.specs.States.{last_database}
use Rattle.aq_first_machine.proofs.Views.{list_any-view}
use Rattle.aq_first_machine.proofs.view.view_has_row.Goals as goal

pub returns-then-has_row_left : goal.returns-then-has_row_left
returns-then-has_row_left c =
    rw (list_any-view (length c.args.world.now.history) c.args.world.now.rows c.args.table c.args.cols.now c.args.key.now (last_database c.args.world.now) c.args.writes.now c.requires) (search rules)

pub returns-else-has_row_left : goal.returns-else-has_row_left
returns-else-has_row_left c =
    rw (list_any-view (length c.args.world.now.history) c.args.world.now.rows c.args.table c.args.cols.now c.args.key.now (last_database c.args.world.now) c.args.writes.now c.requires) (search rules)
