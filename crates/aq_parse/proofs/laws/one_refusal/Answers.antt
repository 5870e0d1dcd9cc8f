use Rattle.aq_parse.proofs.RefusedOnce.{refused_once}
use Rattle.aq_parse.proofs.laws.one_refusal.Goals as goal

pub returns : goal.returns
returns c = λ place tokens from at behind one other first second. refused_once place tokens from at behind one other first second
