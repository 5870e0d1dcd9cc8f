use Rattle.std.proofs.Common.{◌≡◌, take, vec_len}
use Rattle.aq_catalog.specs.Indexed.{IsIndexed}
use Rattle.aq_catalog.proofs.changes.shorten_functions.Given as goal

abbrev pub invariant-functions : goal.invariant-functions
invariant-functions l = IsIndexed (λ function. function.name) l.functions.items l.names × (take l.len l.functions.items ≡ take l.len l.fn.functions.items)

abbrev pub decreases-functions : goal.decreases-functions
decreases-functions l = vec_len l.functions
