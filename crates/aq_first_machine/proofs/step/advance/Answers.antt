use Rattle.std.proofs.Common.{◌≡◌, [], subst, arith}
use Rattle.std.specs.Prelude.{IfOk}
use Rattle.std.proofs.lemmas.Grind.{common_steps}
use Rattle.std.proofs.lemmas.List.{nil_from_length}
use Rattle.aq_first_run.specs.States.Operation.{Inserting, Deleting}
use Rattle.aq_first_run.specs.States.Answer.{Inserted, Deleted}
use Rattle.aq_first_run.specs.States.Task.{Rounds, Committing}
use Rattle.aq_first_machine.specs.Shown.{InProgress, in_level, in_drain, inserting, deleting, answer_shown}
use Rattle.aq_first_machine.specs.Advances.{Advances, GoesFurther}
use Rattle.aq_first_machine.proofs.RowSteps.{rows-end}
use Rattle.aq_first_machine.proofs.step.advance.Goals as goal

pub returns-in-Inserting-clause-ok : goal.returns-in-Inserting-clause-ok
returns-in-Inserting-clause-ok c =
    let rows = c.in-Inserting.rows in
    let work = c.transaction.inside.work in
    let none : rows.left.items ≡ [] = nil_from_length rows.left.items (grind (arith, common_steps)) in
    let view = rw c.in-Inserting.is at c.transaction.view_is in
    let P : InProgress → Type 0 = λ t. GoesFurther c.args.catalog.now c.args.world.now t c.args.world.now (in_level work (Rounds (Inserted rows.done))) in
    let goes : P (in_level work (inserting rows)) = rw none (rows-end c.args.catalog.now c.args.world.now work (Inserting rows.table) rows.done) in
    (subst P view goes, (let order = rw (← view) at c.requires.order in order), λ _. tt)

pub returns-in-Deleting-clause-ok : goal.returns-in-Deleting-clause-ok
returns-in-Deleting-clause-ok c =
    let rows = c.in-Deleting.rows in
    let work = c.transaction.inside.work in
    let none : rows.left.items ≡ [] = nil_from_length rows.left.items (grind (arith, common_steps)) in
    let view = rw c.in-Deleting.is at c.transaction.view_is in
    let P : InProgress → Type 0 = λ t. GoesFurther c.args.catalog.now c.args.world.now t c.args.world.now (in_level work (Rounds (Deleted rows.done))) in
    let goes : P (in_level work (deleting rows)) = rw none (rows-end c.args.catalog.now c.args.world.now work (Deleting rows.table) rows.done) in
    (subst P view goes, (let order = rw (← view) at c.requires.order in order), λ _. tt)

pub returns-in-Committing-clause-ok : goal.returns-in-Committing-clause-ok
returns-in-Committing-clause-ok c =
    let view = rw c.in-Committing.is at c.transaction.view_is in
    subst (λ (t : InProgress). IfOk c.drain_step.result (Advances c.args.catalog.now c.args.world.now t c.args.world.now (in_drain c.drain_step.new.work (Committing (answer_shown c.in-Committing.answer))))) view c.drain_step.ensures.ok
