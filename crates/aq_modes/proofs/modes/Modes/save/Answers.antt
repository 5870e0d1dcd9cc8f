use Rattle.std.proofs.Common.{ap, ◌∷◌, [], arith, length, length-append}
use Rattle.aq_modes.specs.Log.{modes_of, saved_from}
use Rattle.aq_modes.proofs.Logs.{mark-kept}
use Rattle.aq_modes.proofs.modes.Modes.save.Goals as goal

pub invariant_of-self-2 : goal.invariant_of-self-2
invariant_of-self-2 c =
    let log = c.self.inside.log.items in
    let m = modes_of c.self.inside.present in
    let kept = mark-kept log c.push.new.self.items m c.in_ok-push.ensures.items in
    omega (arith, ap length kept, length-append (saved_from log m) (m ∷ []))

pub returns-clause-ok : goal.returns-clause-ok
returns-clause-ok c =
    let log = c.self.inside.log.items in
    let m = modes_of c.self.inside.present in
    rw (← c.self.view_is) (λ i. record { modes = m; saved = mark-kept log c.push.new.self.items m c.in_ok-push.ensures.items i })
