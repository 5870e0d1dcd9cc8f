use Rattle.std.proofs.Common.{◌≡◌, Some, length, refl}
use Rattle.std.specs.List.{slice_get}
use Rattle.std.proofs.lemmas.Option.{slice_get_read}
use Rattle.std.proofs.lemmas.Result.{err_from_is_err_and}
use Rattle.aq_simple.specs.Forms.{simple_given}
use Rattle.aq_simple.proofs.Lists.{all_of_more, all_of_fails}
use Rattle.aq_simple.proofs.data.simple_row.Goals as goal

pub returns-in_err-simple_given : goal.returns-in_err-simple_given
returns-in_err-simple_given c =
    let p = err_from_is_err_and c.from_residual.result c.from_residual.ensures.1 in
    let here : slice_get c.args.row.now c.loop-given.given-index ≡ Some c.given-item.result = slice_get_read c.args.row.now (length c.args.row.now) c.loop-given.given-index c.given-item.result refl c.loop-given-test.true c.given-item.is in
    rw (p.1, p.2) (all_of_fails c.in_err-simple_given.field-0.0 simple_given c.loop-given.given-index c.args.row.now c.given-item.result here c.in_err-simple_given.ensures)

pub loop-given-preserved : goal.loop-given-preserved
loop-given-preserved c =
    let here : slice_get c.args.row.now c.loop-given.given-index ≡ Some c.given-item.result = slice_get_read c.args.row.now (length c.args.row.now) c.loop-given.given-index c.given-item.result refl c.loop-given-test.true c.given-item.is in
    rw c.in_ok-push.ensures.ok (all_of_more simple_given c.loop-given.given-index c.args.row.now c.loop-given.simple c.given-item.result c.in_ok-simple_given.field-0 here c.loop-given.invariant c.in_ok-simple_given.ensures)
