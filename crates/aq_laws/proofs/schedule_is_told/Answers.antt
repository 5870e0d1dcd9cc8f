use Rattle.aq_laws.proofs.Told as laws
use Rattle.aq_laws.proofs.schedule_is_told.Goals as goal

pub returns : goal.returns
returns c = laws.schedule_is_told
