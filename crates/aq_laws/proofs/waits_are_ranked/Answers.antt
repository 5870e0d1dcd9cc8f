use Rattle.aq_laws.proofs.Ranked.{ranked}
use Rattle.aq_laws.proofs.waits_are_ranked.Goals as goal

pub returns : goal.returns
returns c = ranked
