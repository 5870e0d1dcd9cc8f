use Rattle.std.proofs.Common.{◌∙◌}
use Rattle.aq_grammar.proofs.Tokens.{signs_begin}
use Rattle.aq_grammar.proofs.terminals.is_one_of_signs.Goals as goal

pub returns : goal.returns
returns c = c.is_sign_among.ensures ∙ signs_begin c.args.symbols.now c.args.tokens.now
