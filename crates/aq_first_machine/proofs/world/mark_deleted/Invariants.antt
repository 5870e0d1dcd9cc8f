use Rattle.std.proofs.Common.{◌≡◌, ◌++◌, map, take, drop}
use Rattle.aq_first_machine.specs.Versions.{write_entry, with_deletion}
use Rattle.aq_first_machine.proofs.world.mark_deleted.Given as goal

abbrev pub invariant-loop-v : goal.invariant-loop-v
invariant-loop-v l = l.v-items ≡ map (with_deletion l.commit (map write_entry l.writes)) (take l.v-index l.fn.versions.items) ++ drop l.v-index l.fn.versions.items
