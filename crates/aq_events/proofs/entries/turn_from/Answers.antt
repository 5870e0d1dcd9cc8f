use Rattle.std.proofs.Common.{◌≡◌, ap, ◌∙◌, get_or, sym, arith}
use Rattle.std.specs.Bool.{if◌then◌else◌}
use Rattle.aq_events.specs.Entries.{turned_from, turned, turns}
use Rattle.aq_events.proofs.Places.{write_next, read_next, length-turned_from, turned_at, count_turned-next, one_at_most}
use Rattle.aq_events.proofs.entries.turn_from.Goals as goal

pub places-preserved : goal.places-preserved
places-preserved c =
    let old = c.args.entries.now in
    let turn = c.args.turn.now in
    let p = c.places.place in
    let x = c.index-entries-place.result in
    let y = c.turn_one-count.new.entry in
    let same = length-turned_from c.args.from turn old c.requires in
    let read = read_next (turned_from c.args.from turn old) old c.places.entries p x same c.places-test.true c.places.invariant.entries in
    let new = c.turn_one-count.ensures.entry ∙ ap (turned turn) read ∙ sym (turned_at c.args.from p turn old x y c.places.auto.place c.places-test.true) in
    let counted : c.turn_one-count.result ≡ (if turns turn (get_or old p x) then 1 else 0) = c.turn_one-count.ensures.counts ∙ ap (λ e. if turns turn e then 1 else 0) read in
    let next = count_turned-next turn old p x c.places-test.true in
    let most = one_at_most (turns turn (get_or old p x)) in
    record {
      entries = write_next (turned_from c.args.from turn old) old c.places.entries p y same c.places-test.true c.places.invariant.entries new;
      count = omega arith;
      at_least = omega arith;
      within = omega arith;
    }
