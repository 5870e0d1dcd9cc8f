use Rattle.aq_laws.proofs.Default as laws
use Rattle.aq_laws.proofs.default_schedule_is_unique.Goals as goal

pub returns : goal.returns
returns c = laws.default_schedule_is_unique
