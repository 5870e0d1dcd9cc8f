use Rattle.std.proofs.Common.{◌≡◌, ◌++◌, ◌≤◌, ◌+◌, vec_len, vec_capacity}
use Rattle.std.specs.Vec.Iter.{into_iter_items, into_iter_len}
use Rattle.aq_first_machine.specs.Versions.{versions_made}
use Rattle.aq_first_machine.proofs.world.append_versions.Given as goal

abbrev pub invariant-writes : goal.invariant-writes
invariant-writes l =
    (l.versions.items ++ versions_made l.commit (into_iter_items l.w-iterator) ≡ l.fn.versions.items ++ versions_made l.fn.commit l.fn.writes.items)
    × (vec_len l.versions + into_iter_len l.w-iterator ≤ vec_capacity l.versions)
