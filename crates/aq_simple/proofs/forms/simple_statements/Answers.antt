use Rattle.std.proofs.Common.{◌≡◌, Some, length, refl}
use Rattle.std.specs.List.{slice_get}
use Rattle.std.proofs.lemmas.Option.{slice_get_read}
use Rattle.std.proofs.lemmas.Result.{err_from_is_err_and}
use Rattle.aq_simple.specs.Forms.{simple_placed}
use Rattle.aq_simple.proofs.Lists.{all_of_more, all_of_fails}
use Rattle.aq_simple.proofs.forms.simple_statements.Goals as goal

pub returns-in_err-simple_placed : goal.returns-in_err-simple_placed
returns-in_err-simple_placed c =
    let p = err_from_is_err_and c.from_residual.result c.from_residual.ensures.1 in
    let here : slice_get c.args.statements.now c.loop-placed.placed-index ≡ Some c.placed-item.result = slice_get_read c.args.statements.now (length c.args.statements.now) c.loop-placed.placed-index c.placed-item.result refl c.loop-placed-test.true c.placed-item.is in
    rw (p.1, p.2) (all_of_fails c.in_err-simple_placed.field-0.0 simple_placed c.loop-placed.placed-index c.args.statements.now c.placed-item.result here c.in_err-simple_placed.ensures)

pub loop-placed-preserved : goal.loop-placed-preserved
loop-placed-preserved c =
    let here : slice_get c.args.statements.now c.loop-placed.placed-index ≡ Some c.placed-item.result = slice_get_read c.args.statements.now (length c.args.statements.now) c.loop-placed.placed-index c.placed-item.result refl c.loop-placed-test.true c.placed-item.is in
    rw c.in_ok-push.ensures.ok (all_of_more simple_placed c.loop-placed.placed-index c.args.statements.now c.loop-placed.simple c.placed-item.result c.in_ok-simple_placed.field-0 here c.loop-placed.invariant c.in_ok-simple_placed.ensures)
