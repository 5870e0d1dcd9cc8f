use Rattle.aq_lex.proofs.Values.{all_spelled}
use Rattle.aq_lex.proofs.laws.tokens_spelled.Goals as goal

pub returns : goal.returns
returns c = all_spelled
