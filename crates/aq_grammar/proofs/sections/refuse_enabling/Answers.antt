use Rattle.aq_grammar.specs.Forms.{unsupported}
use Rattle.aq_grammar.specs.Statements.{enabling}
use Rattle.aq_grammar.proofs.Refusing.{refuses_found, refuses_nothing, enabling_is, enabling_said}
use Rattle.aq_grammar.proofs.sections.refuse_enabling.Goals as goal

pub returns-then-branch : goal.returns-then-branch
returns-then-branch c =
    refuses_found enabling c.args.tokens.now (unsupported enabling_said) c.in_ok-is_enabling.field-0 c.unsupported.result
    (enabling_is c.args.tokens.now c.in_ok-is_enabling.field-0 c.in_ok-is_enabling.ensures) c.if-branch.true c.unsupported.ensures

pub returns : goal.returns
returns c =
    refuses_nothing enabling c.args.tokens.now (unsupported enabling_said) c.in_ok-is_enabling.field-0
    (enabling_is c.args.tokens.now c.in_ok-is_enabling.field-0 c.in_ok-is_enabling.ensures) c.if-branch.false
