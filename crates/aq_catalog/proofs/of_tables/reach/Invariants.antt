use Rattle.std.proofs.Common.{◌≡◌, ◌+◌, ◌-◌, ℕ, vec_len}
use Rattle.aq_catalog.specs.Listed.{listed_at}
use Rattle.aq_catalog.proofs.of_tables.reach.Given as goal

abbrev pub invariant-rows : goal.invariant-rows
invariant-rows l = (t : ℕ) → listed_at l.rows.items t ≡ listed_at l.fn.rows.items t

abbrev pub decreases-rows : goal.decreases-rows
decreases-rows l = l.table + 1 - vec_len l.rows
