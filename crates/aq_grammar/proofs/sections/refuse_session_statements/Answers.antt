use Rattle.aq_grammar.specs.Forms.{unsupported}
use Rattle.aq_grammar.proofs.Refusing.{refuses_found, refuses_nothing, data_is, data_refused, data_said}
use Rattle.aq_grammar.proofs.sections.refuse_session_statements.Goals as goal

pub returns-then-is_session_word : goal.returns-then-is_session_word
returns-then-is_session_word c =
    refuses_found data_refused c.args.tokens.now (unsupported data_said) c.is_session_word.result c.unsupported.result
    (data_is c.args.tokens.now c.is_session_word.result c.is_session_word.ensures) c.if-is_session_word.true c.unsupported.ensures

pub returns : goal.returns
returns c =
    refuses_nothing data_refused c.args.tokens.now (unsupported data_said) c.is_session_word.result
    (data_is c.args.tokens.now c.is_session_word.result c.is_session_word.ensures) c.if-is_session_word.false
