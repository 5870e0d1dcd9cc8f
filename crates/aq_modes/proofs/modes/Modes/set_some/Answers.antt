use Rattle.std.proofs.Common.{◌≡◌, ap, ◌∙◌, sym, length}
use Rattle.aq_base.specs.ConstraintModes.{with_some}
use Rattle.aq_modes.specs.Log.{modes_of}
use Rattle.aq_modes.proofs.Logs.{each-kept, with_some-own_with}
use Rattle.aq_modes.proofs.modes.Modes.set_some.Goals as goal

pub invariant_of-self-2 : goal.invariant_of-self-2
invariant_of-self-2 c =
    let inside = c.self.inside in
    let all = inside.present.all in
    c.self.invariant
    ∙ ap length (sym (each-kept inside.log.items c.reserve.new.self.items c.push_reserved.new.self.items c.in_ok-before.before (record { all = all; own = c.replace_each.new.own.entries }) (modes_of inside.present) c.in_ok-reserve.ensures.items c.push_reserved.ensures.items (ap (λ own. record { all = all; own = own }) c.in_ok-before.ensures.before)))

pub returns-clause-ok : goal.returns-clause-ok
returns-clause-ok c =
    let inside = c.self.inside in
    let all = inside.present.all in
    let saved = each-kept inside.log.items c.reserve.new.self.items c.push_reserved.new.self.items c.in_ok-before.before (record { all = all; own = c.replace_each.new.own.entries }) (modes_of inside.present) c.in_ok-reserve.ensures.items c.push_reserved.ensures.items (ap (λ own. record { all = all; own = own }) c.in_ok-before.ensures.before) in
    let modes : ◌≡◌ (record { all = all; own = c.replace_each.new.own.entries }) (with_some c.args.cons.now c.args.deferred (modes_of inside.present)) =
    ap (λ own. record { all = all; own = own }) c.in_ok-before.ensures.set ∙ sym (with_some-own_with c.args.cons.now c.args.deferred all inside.present.own.entries) in
    rw (← c.self.view_is) (λ i. record { modes = modes i; saved = saved i })
