use Rattle.std.proofs.Common.{ap, ◌∙◌, sym}
use Rattle.std.proofs.Math.ListN.{set}
use Rattle.aq_events.proofs.Places.{first_done-cons}
use Rattle.aq_events.proofs.list.EventList.done_at.Goals as goal

pub returns : goal.returns
returns c =
    let entries = c.self.inside.entries.items in
    let entry = c.index_mut-entry.result.now in
    rw (← c.self.view_is) (ap (λ fate. set entries c.args.place (record { event = entry.event; fate = fate })) c.done-entry.ensures ∙ sym (first_done-cons entries c.args.place entry (rw c.self.view_is c.requires) c.index_mut-entry.ensures.value))
