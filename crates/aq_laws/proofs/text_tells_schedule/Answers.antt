use Rattle.aq_laws.proofs.Told as laws
use Rattle.aq_laws.proofs.text_tells_schedule.Goals as goal

pub returns : goal.returns
returns c = laws.text_tells_schedule
