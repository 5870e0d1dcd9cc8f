use Rattle.std.proofs.Common.{◌≡◌, Some, length, refl}
use Rattle.std.specs.List.{slice_get}
use Rattle.std.proofs.lemmas.Option.{slice_get_read}
use Rattle.std.proofs.lemmas.Result.{err_from_is_err_and}
use Rattle.aq_simple.specs.Forms.{simple_item}
use Rattle.aq_simple.proofs.Lists.{all_of_more, all_of_fails}
use Rattle.aq_simple.proofs.table.simple_items.Goals as goal

pub returns-in_err-simple_item : goal.returns-in_err-simple_item
returns-in_err-simple_item c =
    let p = err_from_is_err_and c.from_residual.result c.from_residual.ensures.1 in
    let here : slice_get c.args.items.now c.loop-item.item-index ≡ Some c.item-item.result = slice_get_read c.args.items.now (length c.args.items.now) c.loop-item.item-index c.item-item.result refl c.loop-item-test.true c.item-item.is in
    rw (p.1, p.2) (all_of_fails c.in_err-simple_item.field-0.0 simple_item c.loop-item.item-index c.args.items.now c.item-item.result here c.in_err-simple_item.ensures)

pub loop-item-preserved : goal.loop-item-preserved
loop-item-preserved c =
    let here : slice_get c.args.items.now c.loop-item.item-index ≡ Some c.item-item.result = slice_get_read c.args.items.now (length c.args.items.now) c.loop-item.item-index c.item-item.result refl c.loop-item-test.true c.item-item.is in
    rw c.in_ok-push.ensures.ok (all_of_more simple_item c.loop-item.item-index c.args.items.now c.loop-item.simple c.item-item.result c.in_ok-simple_item.field-0 here c.loop-item.invariant c.in_ok-simple_item.ensures)
