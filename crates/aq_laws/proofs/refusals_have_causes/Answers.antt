use Rattle.aq_laws.proofs.Refusals as laws
use Rattle.aq_laws.proofs.refusals_have_causes.Goals as goal

pub returns : goal.returns
returns c = laws.refusals_have_causes
