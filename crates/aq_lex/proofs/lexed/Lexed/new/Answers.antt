use Rattle.aq_lex.proofs.Values.{all_texts}
use Rattle.aq_lex.proofs.lexed.Lexed.new.Goals as goal

pub invariant_of-result : goal.invariant_of-result
invariant_of-result c = record { texts = all_texts c.args.bytes.now c.args.tokens.now c.requires; line = c.first_line-line.ensures }
