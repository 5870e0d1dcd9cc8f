use Rattle.std.proofs.Common.{◌∙◌}
use Rattle.aq_grammar.proofs.Tokens.{words_begin}
use Rattle.aq_grammar.proofs.terminals.is_one_of.Goals as goal

pub returns : goal.returns
returns c = c.is_one_of.ensures ∙ words_begin (λ word. word.now) c.args.words.now c.args.tokens.now
