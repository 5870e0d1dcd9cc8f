use Rattle.std.proofs.Common.{arith, ◌<◌, ◌-◌, length, subst}
use Rattle.aq_grammar.specs.Rules.{Expression}
use Rattle.aq_grammar.specs.Nonterminals.{reads_called}
use Rattle.aq_grammar.specs.Steps.{Fails}
use Rattle.aq_grammar.specs.declared.fault.ReadFault.TheVariants as fault
use Rattle.aq_grammar.specs.Reading.{Syntax, Refused}
use Rattle.aq_parse_expressions.proofs.TooLong.{too_long_read, too_long_stop}
use Rattle.aq_parse_expressions.proofs.whole.whole_expression.Goals as goal

pub returns-then-used-gt-MAX_TOKENS : goal.returns-then-used-gt-MAX_TOKENS
returns-then-used-gt-MAX_TOKENS c =
    let past : 1000 < length c.front-front.result - length c.in-Ok.rest =
    omega (arith, c.if-used-gt-MAX_TOKENS.true, c.saturating_sub-used.ensures, c.len.ensures, c.len-in-Ok.ensures) in
    too_long_read c.args.scope c.args.tokens.now c.front-front.result c.in-Ok.rest c.front-front.ensures past c.too_long.result c.too_long.ensures c.in-Ok.found c.in-Ok.ensures

pub returns-then-used-gt-MAX_TOKENS-2 : goal.returns-then-used-gt-MAX_TOKENS-2
returns-then-used-gt-MAX_TOKENS-2 c =
    let fails : Fails (fault.Syntax c.in-Err-Syntax.left) (reads_called (Expression c.args.scope) c.front-front.result) =
    subst (λ f. Fails f (reads_called (Expression c.args.scope) c.front-front.result)) c.in-Err-Syntax.field-0-is c.in-Err-Syntax.ensures in
    let (rest, stops, is_left) = fails in
    let past : 1000 < length c.front-front.result - length rest =
    omega (arith, c.if-used-gt-MAX_TOKENS-2.true, c.saturating_sub-used-in-Err-Syntax.ensures, c.len-in-Err-Syntax.ensures, is_left) in
    too_long_stop c.args.scope c.args.tokens.now c.front-front.result rest c.front-front.ensures past c.too_long-then-used-gt-MAX_TOKENS-2.result
    c.too_long-then-used-gt-MAX_TOKENS-2.ensures Syntax stops

pub returns-then-used-gt-MAX_TOKENS-3 : goal.returns-then-used-gt-MAX_TOKENS-3
returns-then-used-gt-MAX_TOKENS-3 c =
    let fails : Fails (fault.Refused c.in-Err-Refused.left c.in-Err-Refused.fault) (reads_called (Expression c.args.scope) c.front-front.result) =
    subst (λ f. Fails f (reads_called (Expression c.args.scope) c.front-front.result)) c.in-Err-Refused.field-0-is c.in-Err-Refused.ensures in
    let (rest, stops, is_left) = fails in
    let past : 1000 < length c.front-front.result - length rest =
    omega (arith, c.if-used-gt-MAX_TOKENS-3.true, c.saturating_sub-used-in-Err-Refused.ensures, c.len-in-Err-Refused.ensures, is_left) in
    too_long_stop c.args.scope c.args.tokens.now c.front-front.result rest c.front-front.ensures past c.too_long-then-used-gt-MAX_TOKENS-3.result
    c.too_long-then-used-gt-MAX_TOKENS-3.ensures (Refused c.in-Err-Refused.fault) stops
