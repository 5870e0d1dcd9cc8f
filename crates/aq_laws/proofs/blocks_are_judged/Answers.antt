use Rattle.aq_laws.proofs.Judged.{blocks_are_judged}
use Rattle.aq_laws.proofs.blocks_are_judged.Goals as goal

pub returns : goal.returns
returns c = blocks_are_judged
