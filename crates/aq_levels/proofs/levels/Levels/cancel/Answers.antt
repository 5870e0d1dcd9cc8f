use Rattle.std.proofs.Common.{◌≡◌, ◌-◌, ap, ◌∙◌, arith, suc, length}
use Rattle.aq_events.specs.Entries.{cancelled_from, count_cancelled}
use Rattle.aq_levels.proofs.Tops.{set-on_top, count-on_top}
use Rattle.aq_levels.proofs.levels.Levels.cancel.Goals as goal

pub returns-clause-levels : goal.returns-clause-levels
returns-clause-levels c =
    let levels = c.self.inside.lists.items in
    let last = c.len-last.result - 1 in
    let list = c.index_mut.result.now in
    let many : length levels ≡ suc last = omega arith in
    rw (← c.self.view_is) (set-on_top (cancelled_from 0 c.args.table c.args.op c.args.from) levels last c.cancel_from.new.self list many (c.cancel_from.ensures.list ∙ ap (cancelled_from 0 c.args.table c.args.op c.args.from) c.index_mut.ensures.value))

pub returns-clause-count : goal.returns-clause-count
returns-clause-count c =
    let levels = c.self.inside.lists.items in
    let last = c.len-last.result - 1 in
    let list = c.index_mut.result.now in
    let many : length levels ≡ suc last = omega arith in
    rw (← c.self.view_is) (c.cancel_from.ensures.count ∙ ap (count_cancelled c.args.table c.args.op c.args.from) c.index_mut.ensures.value ∙ count-on_top c.args.table c.args.op c.args.from levels last list many)
