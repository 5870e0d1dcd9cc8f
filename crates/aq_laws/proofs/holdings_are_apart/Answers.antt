use Rattle.aq_run.proofs.Holdings_apart.{holdings_apart}
use Rattle.aq_laws.proofs.holdings_are_apart.Goals as goal

pub returns : goal.returns
returns c = holdings_apart
