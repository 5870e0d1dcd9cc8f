use Rattle.aq_first_laws.proofs.Finite.{runs_are_finite}
use Rattle.aq_first_laws.proofs.runs_are_finite.Goals as goal

pub returns : goal.returns
returns c = runs_are_finite
