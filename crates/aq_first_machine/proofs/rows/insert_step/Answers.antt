use Rattle.std.proofs.Common.{◌≡◌, ◌+◌, ◌∷◌, map, rules}
use Rattle.aq_base.specs.Values.{Row}
use Rattle.aq_first_run.specs.States.{last_database}
use Rattle.aq_first_run.specs.States.Target.{New_row}
use Rattle.aq_first_machine.proofs.Orders.{IsOrdered-insert}
use Rattle.aq_first_machine.proofs.RowSteps.{first-and_rest, insert-goes}
use Rattle.aq_first_machine.proofs.rows.insert_step.Goals as goal

pub returns-clause-ok : goal.returns-clause-ok
returns-clause-ok c =
    let world = c.args.world.now in
    let work = c.args.work.now in
    let rows = c.args.rows.now in
    let values : Row = c.in-Some.values.now in
    let rest = c.pop_front.new.self.items in
    let first : rows.left.items ≡ values ∷ rest = first-and_rest rows.left.items rest values (search rules) (search rules) c.pop_front.ensures.rest in
    let done : c.in_ok-done.done ≡ rows.done + 1 = search rules in
    let went = rw c.in_default-2.is at c.in_ok-fault.ensures.ok in (
      rw (first, done, went.1, went.2) (insert-goes c.args.catalog.now world work rows.table rows.done values (map New_row rest) went.0),
      rw (went.1, went.2) (IsOrdered-insert (last_database world) work.writes world.rows rows.table (world.writes + 1) values c.requires.order),
      λ x. x,
    )
