use Rattle.std.proofs.Common.{◌≡◌, ap, ◌∙◌, Some, sym, length}
use Rattle.aq_base.specs.ConstraintModes.{with_all}
use Rattle.aq_modes.specs.Log.{modes_of}
use Rattle.aq_modes.proofs.Logs.{all-kept}
use Rattle.aq_modes.proofs.modes.Modes.set_all.Goals as goal

pub invariant_of-self-2 : goal.invariant_of-self-2
invariant_of-self-2 c =
    let inside = c.self.inside in
    c.self.invariant
    ∙ ap length (sym (all-kept inside.log.items c.reserve.new.self.items c.push_reserved.new.self.items c.replace-replaced.result inside.present (modes_of c.replace-replaced.new.dest) c.in_ok-reserve.ensures.items c.push_reserved.ensures.items c.replace-replaced.ensures.value))

pub returns-clause-ok : goal.returns-clause-ok
returns-clause-ok c =
    let inside = c.self.inside in
    let d = c.args.deferred in
    let modes : modes_of c.replace-replaced.new.dest ≡ with_all d (modes_of inside.present) =
    ap modes_of c.replace-replaced.ensures.after ∙ ap (λ own. record { all = Some d; own = own }) c.new.ensures.empty in
    let saved = all-kept inside.log.items c.reserve.new.self.items c.push_reserved.new.self.items c.replace-replaced.result inside.present (modes_of c.replace-replaced.new.dest) c.in_ok-reserve.ensures.items c.push_reserved.ensures.items c.replace-replaced.ensures.value in
    rw (← c.self.view_is) (λ i. record { modes = modes i; saved = saved i })
