use Rattle.std.proofs.Common.{◌+◌, ap, ◌∙◌, ◌∷◌, drop, sym, arith}
use Rattle.aq_modes.specs.Log.{put_back_all}
use Rattle.aq_modes.proofs.Logs.{put_back_all-set, as_before-set, own_with-step, drop-step}
use Rattle.aq_modes.proofs.log.replace_each.Goals as goal

pub cons-preserved : goal.cons-preserved
cons-preserved c =
    let cons = c.args.cons.now in
    let i = c.cons.con-index in
    let con = c.get-con.result in
    let set = c.in-Ok.ensures in
    let own = c.cons.own.entries in
    let next = c.insert.new.self.entries in
    let front = drop-step cons i c.con-item.result c.cons-test.true c.con-item.is ∙ ap (λ x. x ∷ drop (i + 1) cons) (sym c.get-con.ensures) in
    record {
      set = own_with-step (drop i cons) (drop (i + 1) cons) con c.args.deferred own next front set.entries ∙ c.cons.invariant.set;
      before = ap (λ bs. put_back_all bs next) c.push_reserved.ensures.items
          ∙ put_back_all-set c.cons.before.items (record { con = con; setting = c.in-Ok.setting }) own next c.args.own.now.entries c.cons.invariant.before (as_before-set con c.in-Ok.setting c.args.deferred own next set.was_ordered set.old set.entries);
      filled = omega arith;
      room = omega arith;
    }
