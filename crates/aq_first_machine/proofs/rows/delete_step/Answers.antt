use Rattle.std.proofs.Common.{◌≡◌, ℕ, ◌+◌, ◌∷◌, map, Some, None, option_map, ap, sym, subst, rules}
use Rattle.aq_base.specs.Values.{Row}
use Rattle.aq_base.specs.Maps.{at}
use Rattle.aq_first_base.specs.Databases.{Stored}
use Rattle.aq_first_run.specs.States.{World, last_database, latest_view}
use Rattle.aq_first_run.specs.States.Target.{Old_row}
use Rattle.aq_first_run.specs.States.Operation.{Deleting}
use Rattle.aq_first_run.specs.States.Task.{Rows}
use Rattle.aq_first_machine.specs.Versions.{write_entry}
use Rattle.aq_first_machine.specs.Shown.{Held, in_level}
use Rattle.aq_first_machine.specs.Orders.{IsOrdered}
use Rattle.aq_first_machine.specs.Advances.{written, GoesFurther}
use Rattle.aq_first_machine.proofs.RowSteps.{first-and_rest, delete-goes, delete-passes, order-delete, without_old_row}
use Rattle.aq_first_machine.proofs.rows.delete_step.Goals as goal

pub returns-in_default-row_in_view-clause-ok : goal.returns-in_default-row_in_view-clause-ok
returns-in_default-row_in_view-clause-ok c =
    let world = c.args.world.now in
    let work = c.args.work.now in
    let rows = c.args.rows.now in
    let row : ℕ = c.in-Some.row.now in
    let rest = c.pop_front.new.self.items in
    let first : rows.left.items ≡ row ∷ rest = first-and_rest rows.left.items rest row (search rules) (search rules) c.pop_front.ensures.rest in
    let writes : map write_entry c.as_slice.result.now ≡ work.writes = rw c.as_slice.ensures.value (ap (λ (h : Held). h.writes) c.work.view_is) in
    let gone : option_map (λ (stored : Stored). stored.values) (at row (latest_view world (written work.writes))) ≡ None = sym (rw (c.in_default-row_in_view.is, writes) at c.row_in_view.ensures) in
    (rw first (delete-passes c.args.catalog.now world work rows.table row rows.done (map Old_row rest) gone), c.requires.order, λ x. x)

pub returns-clause-ok : goal.returns-clause-ok
returns-clause-ok c =
    let world = c.args.world.now in
    let work = c.args.work.now in
    let rows = c.args.rows.now in
    let row : ℕ = c.in-Some.row.now in
    let values : Row = c.in-Some-row_in_view.values.now in
    let rest = c.pop_front-2.new.self.items in
    let first : rows.left.items ≡ row ∷ rest = first-and_rest rows.left.items rest row (search rules) (search rules) c.pop_front-2.ensures.rest in
    let writes : map write_entry c.as_slice.result.now ≡ work.writes = rw c.as_slice.ensures.value (ap (λ (h : Held). h.writes) c.work.view_is) in
    let found : option_map (λ (stored : Stored). stored.values) (at row (latest_view world (written work.writes))) ≡ Some values = sym (rw (c.in-Some-row_in_view.is, writes) at c.row_in_view.ensures) in
    let done : c.in_ok-done.done ≡ rows.done + 1 = search rules in
    let number : c.in_ok-number.number ≡ world.writes + 1 = search rules in
    let copied : c.in_ok-copy.field-0 ≡ values = search rules in
    let left : c.change.new.work ≡ without_old_row c.args.catalog.now world rows.table row values work = rw (number, copied) at c.in_ok-change.ensures.ok in
    let after = ap (λ (w : World). record w { writes = c.in_ok-number.number }) c.world.view_is in
    let goes = delete-goes c.args.catalog.now world work rows.table row rows.done values (map Old_row rest) found in
    let order = order-delete world work.writes row rows.table (world.writes + 1) values c.requires.order found in (
      subst (λ (w : World). GoesFurther c.args.catalog.now world (in_level work (Rows (Deleting rows.table) (map Old_row rows.left.items) rows.done)) w (in_level c.change.new.work (Rows (Deleting rows.table) (map Old_row rest) c.in_ok-done.done))) (sym after)
          (rw (first, done, number, left) goes),
      subst (λ (w : World). IsOrdered (last_database w) c.change.new.work.writes w.rows) (sym after) (rw left order),
      λ x. x,
    )
