use Rattle.std.proofs.Common.{◌≡◌, ◌∙◌, refl, arith}
use Rattle.std.proofs.Math.ListN.{length-set}
use Rattle.aq_xids.proofs.Ranges.{members_single}
use Rattle.aq_waits.proofs.Steps_up.{layers_more}
use Rattle.aq_waits.proofs.layers.layers_to.Goals as goal

pub loop-n-init : goal.loop-n-init
loop-n-init c = record {
  long = refl;
  are = λ k h. let first : k ≡ 0 = omega arith in
      rw first (members_single c.with-layers.result.0 c.args.goal.0 c.requires c.with-layers.ensures.there (λ j other. c.with-layers.ensures.others j other ∙ c.empty.ensures.none j));
}

pub loop-n-preserved : goal.loop-n-preserved
loop-n-preserved c =
    let long = c.loop-n.invariant.long in
    record {
      long = length-set c.loop-n.layers c.loop-n.n c.one_more.result ∙ long;
      are = layers_more c.args.edges.now c.args.goal.0 c.loop-n.layers c.loop-n.n c.one_more.result (omega arith) (omega arith) c.loop-n.invariant.are c.one_more.ensures;
    }
