use Rattle.aq_canon.proofs.ScheduleLines as proved
use Rattle.aq_canon.proofs.laws.schedule_reads_back.Goals as goal

pub returns : goal.returns
returns c = proved.schedule_reads_back
