use Rattle.aq_laws.proofs.Finite as laws
use Rattle.aq_laws.proofs.every_step_falls.Goals as goal

pub returns : goal.returns
returns c = laws.every_step_falls
