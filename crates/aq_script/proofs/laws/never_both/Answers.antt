use Rattle.aq_script.proofs.OneLine.{not_both}
use Rattle.aq_script.proofs.laws.never_both.Goals as goal

pub returns : goal.returns
returns c = not_both
