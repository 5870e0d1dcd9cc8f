use Rattle.aq_script.proofs.OneLine.{one_line}
use Rattle.aq_script.proofs.laws.one_refusal.Goals as goal

pub returns : goal.returns
returns c = one_line
