use Rattle.aq_simple.proofs.Reasons.{no_line}
use Rattle.aq_simple.proofs.runs.no_line_leaves.Goals as goal

pub returns : goal.returns
returns c = no_line
