use Rattle.std.proofs.Common.{◌≡◌, ◌+◌, ap, ◌∙◌, refl, sym, length, arith, unwrap_or, take}
use Rattle.std.proofs.lemmas.List.{length-take-le}
use Rattle.aq_modes.specs.Log.{modes_of, saved_from}
use Rattle.aq_modes.proofs.Logs.{mark-kept, front-take, last-take}
use Rattle.aq_modes.proofs.modes.Modes.restore.Goals as goal

pub marks-preserved : goal.marks-preserved
marks-preserved c =
    let all = c.args.self.now.saved in
    let k = c.marks.marks in
    let inside = c.marks.self-inside in
    record {
      states = sym c.back_to_last_mark-in-marks.ensures.saved ∙ front-take _ _ all k (k + 1) refl c.marks.invariant.within c.marks.invariant.states ∙ ap (λ j. take j all) (omega arith);
      within = omega arith;
      at_least = omega arith;
      room = c.back_to_last_mark-in-marks.ensures.room;
    }

pub invariant_of-self : goal.invariant_of-self
invariant_of-self c =
    let inside = c.marks.self-inside in
    let m = modes_of inside.present in
    let saved = saved_from inside.log.items m in
    omega (arith, ap length (mark-kept inside.log.items c.push_reserved.new.self.items m c.push_reserved.ensures.items), ap length c.marks.invariant.states, length-take-le (c.marks.marks + 1) c.args.self.now.saved c.marks.invariant.within)

pub returns : goal.returns
returns c =
    let all = c.args.self.now.saved in
    let inside = c.marks.self-inside in
    let m = modes_of inside.present in
    let k : c.marks.marks ≡ c.args.mark = omega arith in
    let saved = mark-kept inside.log.items c.push_reserved.new.self.items m c.push_reserved.ensures.items ∙ c.marks.invariant.states ∙ ap (λ j. take (j + 1) all) k in
    let modes = ap (λ o. unwrap_or o c.args.self.now.modes) (sym (last-take _ _ all c.args.mark (c.marks.marks + 1) (omega arith) c.marks.invariant.within c.marks.invariant.states)) in
    (λ i. record { modes = modes i; saved = saved i })
