use Rattle.std.proofs.Common.{Some, sym, ap, ◌∙◌}
use Rattle.aq_base.specs.Cycles.{cycle_by}
use Rattle.aq_xids.specs.Sets.{members, all_sessions}
use Rattle.aq_waits.specs.Edges.{waits_for}
use Rattle.aq_waits.proofs.Steps_up.{shortest_by}
use Rattle.aq_waits.proofs.cycle.would_close.Goals as goal

pub returns-in_default : goal.returns-in_default
returns-in_default c =
    let found = shortest_by c.args.edges.now c.args.waiter.0 c.layers_to-layers.result (members c.args.by.0) c.layers_to-layers.ensures in
    sym (ap (cycle_by (waits_for c.args.edges.now) all_sessions c.args.waiter.0 (members c.args.by.0)) (sym found ∙ (sym c.least.ensures.least ∙ c.in_default.is)))

pub returns : goal.returns
returns c =
    let found = shortest_by c.args.edges.now c.args.waiter.0 c.layers_to-layers.result (members c.args.by.0) c.layers_to-layers.ensures in
    ap Some c.cycle_along.ensures
    ∙ sym (ap (cycle_by (waits_for c.args.edges.now) all_sessions c.args.waiter.0 (members c.args.by.0)) (sym found ∙ (sym c.least.ensures.least ∙ c.in-Some.is)))
