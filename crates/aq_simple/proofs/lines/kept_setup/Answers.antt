use Rattle.std.proofs.Common.{rules, ◌≡◌, [], ◌∷◌, ◌++◌, Some, length, refl, sym, ◌∙◌}
use Rattle.std.specs.List.{slice_get}
use Rattle.std.proofs.lemmas.Option.{slice_get_read}
use Rattle.aq_simple.specs.Forms.{simple_placed}
use Rattle.aq_simple.proofs.Lists.{all_of_more}
use Rattle.aq_simple.proofs.Definitions.{setup_goes_on}
use Rattle.aq_simple.proofs.lines.kept_setup.Goals as goal

pub loop-placed-preserved : goal.loop-placed-preserved
loop-placed-preserved c =
    let setup = c.args.setup.now in
    let n = c.loop-placed.placed-index in
    let placed = c.placed-item.result in
    let here : slice_get setup n ≡ Some placed = slice_get_read setup (length setup) n placed refl c.loop-placed-test.true c.placed-item.is in
    let pushed : c.push.new.self ≡ c.loop-placed.kept ++ c.in_ok-next.next ∷ [] = search rules in
    record {
      simple = rw pushed (all_of_more simple_placed n setup c.loop-placed.kept placed c.in_ok-next.next here c.loop-placed.invariant.simple c.in_ok-next.ensures.next);
      line = sym (setup_goes_on n setup c.loop-placed.kept placed here c.loop-placed.invariant.simple (rw c.as_slice.ensures at c.in_ok-next.ensures.line)) ∙ c.loop-placed.invariant.line;
    }
