use Rattle.aq_laws.proofs.Progress as laws
use Rattle.aq_laws.proofs.default_schedule_exists.Goals as goal

pub returns : goal.returns
returns c = laws.default_exists
