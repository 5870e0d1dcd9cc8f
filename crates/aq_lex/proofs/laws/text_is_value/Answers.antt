use Rattle.aq_lex.proofs.Values.{text_again}
use Rattle.aq_lex.proofs.laws.text_is_value.Goals as goal

pub returns : goal.returns
returns c = text_again
