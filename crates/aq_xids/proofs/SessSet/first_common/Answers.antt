use Rattle.std.proofs.Common.{◌≡◌, ◌<◌, ◌&&◌, true, sym, ◌∙◌, refl, arith}
use Rattle.aq_xids.specs.Sets.{has}
use Rattle.aq_xids.proofs.Ranges.{find-sessions, find-sessions_none, find-members}
use Rattle.aq_xids.proofs.SessSet.first_common.Goals as goal

pub returns-then-has-2-clause-first : goal.returns-then-has-2-clause-first
returns-then-has-2-clause-first c =
    let one : has c.args.self.0 c.loop-s.s ≡ true = sym c.has.ensures ∙ c.if-has.true in
    let other : has c.args.other.0 c.loop-s.s ≡ true = sym c.has-then-has.ensures ∙ c.if-has-2.true in
    let below : c.loop-s.s < 16 = omega arith in
    sym (find-members c.args.self.0 c.args.other.0 ∙ find-sessions (λ s. has c.args.self.0 s && has c.args.other.0 s) c.loop-s.s below c.loop-s.invariant (rw (one, other) refl))

pub returns-clause-first : goal.returns-clause-first
returns-clause-first c =
    sym (find-members c.args.self.0 c.args.other.0 ∙ find-sessions_none (λ s. has c.args.self.0 s && has c.args.other.0 s) (λ j h. c.loop-s.invariant j (omega arith)))
