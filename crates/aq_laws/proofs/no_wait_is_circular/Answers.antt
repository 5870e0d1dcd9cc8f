use Rattle.aq_laws.proofs.Ranked.{not_circular}
use Rattle.aq_laws.proofs.no_wait_is_circular.Goals as goal

pub returns : goal.returns
returns c = not_circular
