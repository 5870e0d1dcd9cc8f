use Rattle.std.proofs.Common.{◌≡◌, ◌+◌, if◌then◌else◌, drop, filter, length}
use Rattle.aq_setup.specs.Constraints.{is_primary}
use Rattle.aq_tables.proofs.added.is_over_one.Given as goal

abbrev pub invariant-loop-n : goal.invariant-loop-n
invariant-loop-n l =
    (if l.has then 1 else 0) + length (filter (λ n. is_primary n.constraint) (drop l.n-index l.all))
    ≡ (if l.had then 1 else 0) + length (filter (λ n. is_primary n.constraint) l.all)
