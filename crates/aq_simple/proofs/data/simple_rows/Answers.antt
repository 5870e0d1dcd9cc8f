use Rattle.std.proofs.Common.{◌≡◌, Some, length, refl}
use Rattle.std.specs.List.{slice_get}
use Rattle.std.proofs.lemmas.Option.{slice_get_read}
use Rattle.std.proofs.lemmas.Result.{err_from_is_err_and}
use Rattle.aq_simple.specs.Forms.{simple_row}
use Rattle.aq_simple.proofs.Lists.{all_of_more, all_of_fails}
use Rattle.aq_simple.proofs.data.simple_rows.Goals as goal

pub returns-in_err-simple_row : goal.returns-in_err-simple_row
returns-in_err-simple_row c =
    let p = err_from_is_err_and c.from_residual.result c.from_residual.ensures.1 in
    let here : slice_get c.args.rows.now c.loop-row.row-index ≡ Some c.row-item.result = slice_get_read c.args.rows.now (length c.args.rows.now) c.loop-row.row-index c.row-item.result refl c.loop-row-test.true c.row-item.is in
    rw (p.1, p.2) (all_of_fails c.in_err-simple_row.field-0.0 simple_row c.loop-row.row-index c.args.rows.now c.row-item.result here (rw c.as_slice.ensures at c.in_err-simple_row.ensures))

pub loop-row-preserved : goal.loop-row-preserved
loop-row-preserved c =
    let here : slice_get c.args.rows.now c.loop-row.row-index ≡ Some c.row-item.result = slice_get_read c.args.rows.now (length c.args.rows.now) c.loop-row.row-index c.row-item.result refl c.loop-row-test.true c.row-item.is in
    rw c.in_ok-push.ensures.ok (all_of_more simple_row c.loop-row.row-index c.args.rows.now c.loop-row.simple c.row-item.result c.in_ok-simple_row.field-0 here c.loop-row.invariant (rw c.as_slice.ensures at c.in_ok-simple_row.ensures))
