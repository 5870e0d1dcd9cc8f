use Rattle.std.proofs.Common.{◌≡◌, ◌<◌, false, true, length, slice_get, rules, arith}
use Rattle.std.specs.List.{insert}
use Rattle.aq_first_machine.specs.Versions.{place_in, is_of_row}
use Rattle.aq_first_machine.proofs.Puts.{place_within, put_inserts, put_replaces, of_row_within}
use Rattle.aq_first_machine.proofs.writes.put.Goals as goal

pub insert-requires : goal.insert-requires
insert-requires c = let within = place_within c.args.write.row c.args.writes.now.items in search (rules, arith)

pub returns-in-Some : goal.returns-in-Some
returns-in-Some c =
    let place : c.place_of-place.result ≡ place_in c.args.write.row c.args.writes.now.items = search rules in
    let here : is_of_row c.args.write.row (slice_get c.args.writes.now.items (place_in c.args.write.row c.args.writes.now.items)) ≡ true = search rules in
    rw place (put_replaces c.args.write c.args.writes.now.items here)

pub returns-in_default : goal.returns-in_default
returns-in_default c =
    let here : is_of_row c.args.write.row (slice_get c.args.writes.now.items c.place_of-place.result) ≡ true = search rules in
    let within : c.place_of-place.result < length c.args.writes.now.items = of_row_within c.args.write.row c.args.writes.now.items c.place_of-place.result here in
    absurd (search (rules, arith))

pub returns-else-is_of_row_at : goal.returns-else-is_of_row_at
returns-else-is_of_row_at c =
    let place : c.place_of-place.result ≡ place_in c.args.write.row c.args.writes.now.items = search rules in
    let other : is_of_row c.args.write.row (slice_get c.args.writes.now.items (place_in c.args.write.row c.args.writes.now.items)) ≡ false = search rules in
    let inserted : c.insert.new.self.items ≡ insert c.args.writes.now.items c.place_of-place.result c.args.write = search (rules, arith) in
    rw (inserted, place) (put_inserts c.args.write c.args.writes.now.items other)
