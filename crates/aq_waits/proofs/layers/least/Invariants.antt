use Rattle.std.proofs.Common.{◌≡◌, ℕ, ◌<◌, false, is_some}
use Rattle.std.specs.List.{find}
use Rattle.aq_base.specs.Cycles.{is_in}
use Rattle.aq_xids.specs.Sets.{members}
use Rattle.aq_waits.specs.Edges.{set_at}
use Rattle.aq_waits.proofs.layers.least.Given as goal

abbrev pub invariant-loop-n : goal.invariant-loop-n
invariant-loop-n l = (j : ℕ) → j < l.n → is_some (find (is_in (members (set_at l.layers j))) (members l.from.0)) ≡ false
