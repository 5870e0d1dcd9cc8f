use Rattle.std.proofs.Common.{◌≡◌, take, vec_len}
use Rattle.aq_catalog.specs.Indexed.{IsIndexed}
use Rattle.aq_catalog.proofs.changes.shorten_constraints.Given as goal

abbrev pub invariant-constraints : goal.invariant-constraints
invariant-constraints l = IsIndexed (λ con. con.name) l.constraints.items l.names × (take l.len l.constraints.items ≡ take l.len l.fn.constraints.items)

abbrev pub decreases-constraints : goal.decreases-constraints
decreases-constraints l = vec_len l.constraints
