use Rattle.std.proofs.Common.{ap, ◌∙◌, rules, unwrap_or, []}
use Rattle.aq_catalog.specs.Indexed.{front}
use Rattle.aq_catalog.proofs.Indexing.{updated, popped}
use Rattle.aq_catalog.proofs.name_index.take_last.Goals as goal

pub returns-in-Some : goal.returns-in-Some
returns-in-Some c =
    let n = c.get_mut.follows.lender c.pop.new.self in
    updated c.args.places.now.entries n.entries c.args.name.now front c.pop.new.self ((c.get_mut.follows.holds c.pop.new.self).3 (search rules)).0
    (popped c.pop.result c.in-Some.found.now c.pop.new.self c.pop.ensures ∙ ap (λ o. front (unwrap_or o [])) c.in-Some.ensures.value)
