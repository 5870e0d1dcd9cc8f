use Rattle.aq_laws.proofs.Stacks as laws
use Rattle.aq_laws.proofs.stacks_fit.Goals as goal

pub returns : goal.returns
returns c = laws.stacks_fit
