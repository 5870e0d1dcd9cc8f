use Rattle.aq_lex.proofs.Once.{lexes_once}
use Rattle.aq_lex.proofs.laws.one_list.Goals as goal

pub returns : goal.returns
returns c = lexes_once
