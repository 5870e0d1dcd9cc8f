use Rattle.std.proofs.Common.{arith}
use Rattle.std.proofs.lemmas.Grind.{common_steps}
use Rattle.aq_causes.proofs.Bytes.{Appends-take_more}
use Rattle.aq_causes.proofs.writing.write_all.Goals as goal

pub pieces-preserved : goal.pieces-preserved
pieces-preserved g c = record {
  within = grind (arith, common_steps);
  written = Appends-take_more _ _ _ _ _ _ c.pieces.invariant.written c.in-Took.ensures.cases.2;
  count = grind (arith, common_steps, c.in-Took.ensures.count);
  untouched = λ none. absurd (omega (arith, c.in-Took.ensures.cases.0));
}
