use Rattle.std.proofs.Common.{map, ap, get_or}
use Rattle.std.proofs.lemmas.List.Edits.{map_over_more}
use Rattle.aq_first_machine.specs.Versions.{write_entry, with_deletion}
use Rattle.aq_first_machine.proofs.world.mark_deleted.Goals as goal

pub loop-v-preserved : goal.loop-v-preserved
loop-v-preserved c =
    rw c.mark_version.ensures
    (map_over_more (with_deletion c.args.commit (map write_entry c.args.writes.now)) c.args.versions.now.items c.loop-v.v-items c.loop-v.v-index (get_or c.loop-v.v-items c.loop-v.v-index c.v-item.result)
    (rw c.deref_mut-v-items.ensures.value at c.loop-v-test.true) c.loop-v.invariant (ap (get_or c.loop-v.v-items c.loop-v.v-index) c.v-item.is))
