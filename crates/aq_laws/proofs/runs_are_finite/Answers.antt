use Rattle.aq_laws.proofs.Finite as laws
use Rattle.aq_laws.proofs.runs_are_finite.Goals as goal

pub returns : goal.returns
returns c = laws.runs_are_finite
