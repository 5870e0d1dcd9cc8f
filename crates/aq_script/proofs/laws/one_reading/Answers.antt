use Rattle.aq_script.proofs.OneLine.{one_script}
use Rattle.aq_script.proofs.laws.one_reading.Goals as goal

pub returns : goal.returns
returns c = one_script
