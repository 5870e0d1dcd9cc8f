use Rattle.std.proofs.Common.{◌<◌, is_some, sym, ◌∙◌, arith}
use Rattle.std.specs.List.{find}
use Rattle.aq_base.specs.Cycles.{is_in}
use Rattle.aq_xids.specs.Sets.{members}
use Rattle.aq_xids.proofs.Ranges.{find-sessions, find-sessions_none}
use Rattle.aq_waits.specs.Edges.{set_at}
use Rattle.aq_waits.proofs.layers.least.Goals as goal

pub returns-then-meets-clause-least : goal.returns-then-meets-clause-least
returns-then-meets-clause-least c =
    let below : c.loop-n.n < 16 = omega arith in
    sym (find-sessions (λ n. is_some (find (is_in (members (set_at c.args.layers.now n))) (members c.args.from.0))) c.loop-n.n below c.loop-n.invariant
    (sym c.meets.ensures ∙ c.if-meets.true))

pub returns-clause-least : goal.returns-clause-least
returns-clause-least c =
    sym (find-sessions_none (λ n. is_some (find (is_in (members (set_at c.args.layers.now n))) (members c.args.from.0))) (λ j h. c.loop-n.invariant j (omega arith)))
