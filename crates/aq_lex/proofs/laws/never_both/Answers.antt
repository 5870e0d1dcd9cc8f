use Rattle.aq_lex.proofs.Once.{lexes_or_not}
use Rattle.aq_lex.proofs.laws.never_both.Goals as goal

pub returns : goal.returns
returns c = lexes_or_not
