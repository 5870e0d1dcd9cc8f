use Rattle.aq_lex.proofs.Once.{refused_front}
use Rattle.aq_lex.proofs.laws.tokens_before.Goals as goal

pub returns : goal.returns
returns c = refused_front
