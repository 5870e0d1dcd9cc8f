use Rattle.aq_first_run.proofs.Told as telling
use Rattle.aq_first_laws.proofs.schedule_is_told.Goals as goal

pub returns : goal.returns
returns c = telling.schedule_is_told
