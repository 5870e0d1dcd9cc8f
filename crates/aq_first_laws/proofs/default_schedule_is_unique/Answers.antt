use Rattle.aq_first_laws.proofs.Default.{default_schedule_is_unique}
use Rattle.aq_first_laws.proofs.default_schedule_is_unique.Goals as goal

pub returns : goal.returns
returns c = default_schedule_is_unique
