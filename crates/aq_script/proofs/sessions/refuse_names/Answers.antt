use Rattle.std.proofs.Common.{◌≡◌, [], ◌∷◌, true, sym, ap, ◌∙◌, arith}
use Rattle.aq_base.specs.Names.{Text as Bytes}
use Rattle.aq_grammar.specs.Terminals.{Keyword, begin_with}
use Rattle.aq_script.proofs.Names.{name_is_refused, no_name_is_refused}
use Rattle.aq_script.proofs.sessions.refuse_names.Goals as goal

pub returns-then-is_word : goal.returns-then-is_word
returns-then-is_word c =
    let begun : begin_with (Keyword c.session-item.result.name ∷ []) c.args.tokens.now ≡ true =
    ap (λ (name : Bytes). begin_with (Keyword name ∷ []) c.args.tokens.now) (sym c.bytes.ensures.bytes) ∙ (sym c.is_word.ensures.whole ∙ c.if-is_word.true) in
    name_is_refused c.args.tokens.now c.args.sessions.now c.sessions.session-index c.sessions.invariant c.session-item.result c.len.result c.in_ok-fault.fault
    (omega (arith, c.sessions-test.true)) c.session-item.is begun c.len.ensures c.in_ok-fault.ensures

pub returns : goal.returns
returns c =
    no_name_is_refused c.args.tokens.now c.args.sessions.now c.sessions.session-index c.sessions.invariant (omega (arith, c.sessions-test.false))
