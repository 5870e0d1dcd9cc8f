use Rattle.std.proofs.Common.{◌≡◌, length, map}
use Rattle.aq_base.specs.Names.{all_differ}
use Rattle.aq_simple.proofs.conditions.names_differ.Given as goal

abbrev pub invariant-items : goal.invariant-items
invariant-items l = all_differ (map (λ item. item.name) l.rest) ≡ all_differ (map (λ item. item.name) l.fn.items)

abbrev pub decreases-items : goal.decreases-items
decreases-items l = length l.rest
