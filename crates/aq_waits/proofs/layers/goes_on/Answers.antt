use Rattle.std.proofs.Common.{◌≡◌, ◌||◌, ◌==◌, false, ap, ◌∙◌, sym, arith}
use Rattle.std.specs.List.{list_any}
use Rattle.std.proofs.lemmas.Bool.Decides.{nat_tests}
use Rattle.aq_base.specs.Cycles.{is_in}
use Rattle.aq_xids.specs.Sets.{members}
use Rattle.aq_waits.specs.Edges.{waits_for}
use Rattle.aq_waits.proofs.Steps_up.{is_some-find}
use Rattle.aq_waits.proofs.layers.goes_on.Goals as goal

pub returns-else-session-goal : goal.returns-else-session-goal
returns-else-session-goal c =
    let other : (c.args.session == c.args.goal.0) ≡ false = grind (arith, nat_tests) in
    c.meets.ensures ∙ (is_some-find (is_in (members c.args.fewer.0)) (waits_for c.args.edges.now c.args.session)
    ∙ ap (λ b. b || list_any (is_in (members c.args.fewer.0)) (waits_for c.args.edges.now c.args.session)) (sym other))
