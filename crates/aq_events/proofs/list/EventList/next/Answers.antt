use Rattle.std.proofs.Common.{◌≡◌, ap, sym, arith}
use Rattle.aq_events.specs.Entries.{first_place}
use Rattle.aq_events.proofs.Places.{no_round, next_of_round}
use Rattle.aq_events.proofs.list.EventList.next.Goals as goal

pub returns-in-None : goal.returns-in-None
returns-in-None c =
    let entries = c.self.inside.entries.items in
    let seen = c.place_from-place.ensures in
    let same = ap (first_place c.args.firing) c.deref.ensures.value in
    let place : c.place_from-place.result ≡ first_place c.args.firing entries = omega arith in
    rw (← c.self.view_is) (no_round c.args.firing c.place_from-place.result entries c.deref-2.result.now (sym c.deref-2.ensures.value) place c.in-None.ensures.lookup.3)

pub returns-in-Some : goal.returns-in-Some
returns-in-Some c =
    let entries = c.self.inside.entries.items in
    let seen = c.place_from-place.ensures in
    let same = ap (first_place c.args.firing) c.deref.ensures.value in
    let place : c.place_from-place.result ≡ first_place c.args.firing entries = omega arith in
    rw (← c.self.view_is) (next_of_round c.args.firing c.place_from-place.result entries c.deref-2.result.now c.in-Some.entry.now (sym c.deref-2.ensures.value) place c.in-Some.ensures.lookup.3.0 c.in-Some.ensures.lookup.1)
