use Rattle.std.proofs.Common.{◌≡◌, ◌-◌, false, ap, ◌∙◌, get_or, sym, arith}
use Rattle.std.specs.Bool.{if◌then◌else◌}
use Rattle.aq_events.specs.Entries.{marked_from, marked_as, marks}
use Rattle.aq_events.proofs.Places.{write_next, read_next, all_written, length-marked_from, marked_at, count_marked-next, one_at_most}
use Rattle.aq_events.proofs.entries.mark_from.Goals as goal

pub places-preserved : goal.places-preserved
places-preserved c =
    let old = c.args.entries.now in
    let picks = c.args.picks.now in
    let from = c.args.from in
    let p = c.places.place in
    let x = c.index-entries-place.result in
    let y = c.mark_one-count.new.entry in
    let pick = get_or picks (p - from) false in
    let done = marked_from from picks c.args.firing old in
    let same = length-marked_from from picks c.args.firing old c.requires.place in
    let read = read_next done old c.places.entries p x same c.places-test.true c.places.invariant.entries in
    let new = c.mark_one-count.ensures.entry ∙ ap (marked_as pick c.args.firing) read ∙ sym (marked_at from p picks c.args.firing old false x y c.places.auto.place c.places-test.true c.requires.picks) in
    let counted : c.mark_one-count.result ≡ (if marks pick (get_or old p x) then 1 else 0) = c.mark_one-count.ensures.counts ∙ ap (λ e. if marks pick e then 1 else 0) read in
    let next = count_marked-next picks old from p false x c.places.auto.place c.places-test.true c.requires.picks in
    let most = one_at_most (marks pick (get_or old p x)) in
    record {
      entries = write_next done old c.places.entries p y same c.places-test.true c.places.invariant.entries new;
      count = omega arith;
      at_least = omega arith;
      within = omega arith;
    }

pub returns-clause-entries : goal.returns-clause-entries
returns-clause-entries c =
    let old = c.args.entries.now in
    let picks = c.args.picks.now in
    all_written (marked_from c.args.from picks c.args.firing old) old c.places.entries c.places.place (length-marked_from c.args.from picks c.args.firing old c.requires.place) c.places-test.false c.places.invariant.entries
