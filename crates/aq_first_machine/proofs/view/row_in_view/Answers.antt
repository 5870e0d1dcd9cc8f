use Rattle.std.proofs.Common.{◌≡◌, length, map, Some, None, rules}
use Rattle.aq_base.specs.Maps.{at}
use Rattle.aq_first_run.specs.States.{last_database}
use Rattle.aq_first_machine.specs.Versions.{write_entry, write_shown}
use Rattle.aq_first_machine.proofs.Views.{at-view_unwritten, at-view_written}
use Rattle.aq_first_machine.proofs.view.row_in_view.Goals as goal

pub returns-in-None : goal.returns-in-None
returns-in-None c =
    let none : at c.args.row (map write_entry c.args.writes.now) ≡ None = search rules in
    rw (at-view_unwritten (length c.args.world.now.history) c.args.row c.args.world.now.rows (last_database c.args.world.now) (map write_entry c.args.writes.now) c.requires none) (search rules)

pub returns-in-Some : goal.returns-in-Some
returns-in-Some c =
    let written : at c.args.row (map write_entry c.args.writes.now) ≡ Some (write_shown c.in-Some.w.now) = search rules in
    rw (at-view_written (length c.args.world.now.history) c.args.row c.args.world.now.rows (last_database c.args.world.now) (map write_entry c.args.writes.now) (write_shown c.in-Some.w.now) c.requires written)
    (search rules)
