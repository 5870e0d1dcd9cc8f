use Rattle.std.proofs.Common.{◌≡◌, drop}
use Rattle.aq_setup.specs.Tables.{with_keys}
use Rattle.aq_additions.specs.Steps.{Follows}
use Rattle.aq_additions.proofs.steps.add_keys.Given as goal

abbrev pub invariant-loop-n : goal.invariant-loop-n
invariant-loop-n l = (with_keys l.table (drop l.n-index l.all) l.catalog ≡ with_keys l.table l.all l.fn.catalog) × Follows l.table l.fn.catalog l.catalog
