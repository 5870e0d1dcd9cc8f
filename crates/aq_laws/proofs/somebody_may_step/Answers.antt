use Rattle.aq_laws.proofs.Progress as laws
use Rattle.aq_laws.proofs.somebody_may_step.Goals as goal

pub returns : goal.returns
returns c = laws.somebody_may_step
