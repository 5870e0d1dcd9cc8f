use Rattle.std.proofs.Common.{◌≡◌, ◌∙◌, Some}
use Rattle.aq_lex.specs.Lexemes.{first_kind}
use Rattle.aq_lex.specs.declared.token.TokenKind.TheVariants as kinds
use Rattle.aq_grammar.specs.Terminals.{Sign}
use Rattle.aq_grammar.proofs.Tokens.{is_sign, one_kind}
use Rattle.aq_grammar.proofs.terminals.is_symbol.Goals as goal

pub returns-in-Some-Symbol-clause-begins : goal.returns-in-Some-Symbol-clause-begins
returns-in-Some-Symbol-clause-begins c =
    let here : first_kind c.args.tokens.now ≡ Some (kinds.Symbol c.in-Some-Symbol.found) = cc in
    c.eq.ensures ∙ is_sign c.in-Some-Symbol.found c.args.symbol c.args.tokens.now here

pub returns-in-Some-Symbol-clause-whole : goal.returns-in-Some-Symbol-clause-whole
returns-in-Some-Symbol-clause-whole c =
    let here : first_kind c.args.tokens.now ≡ Some (kinds.Symbol c.in-Some-Symbol.found) = cc in
    c.eq.ensures ∙ (is_sign c.in-Some-Symbol.found c.args.symbol c.args.tokens.now here ∙ one_kind (Sign c.args.symbol) c.args.tokens.now)
