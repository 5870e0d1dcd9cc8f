use Rattle.std.proofs.Common.{[], ap, ◌∙◌}
use Rattle.std.specs.List.{list_any}
use Rattle.std.proofs.lemmas.List.{take_all}
use Rattle.aq_base.specs.Names.{same_text}
use Rattle.aq_additions.proofs.Repeats.{seen_more}
use Rattle.aq_additions.proofs.twice.set_of.Goals as goal

pub loop-name-preserved : goal.loop-name-preserved
loop-name-preserved c = λ q.
    c.in_ok-add.ensures q
    ∙ seen_more [] c.args.names.now c.loop-name.name-index c.name-item.result q c.loop-name.made c.loop-name-test.true c.name-item.is (c.loop-name.invariant q)

pub returns : goal.returns
returns c = λ q. c.loop-name.invariant q ∙ ap (list_any (same_text q)) (take_all c.loop-name.name-index c.args.names.now c.loop-name-test.false)
