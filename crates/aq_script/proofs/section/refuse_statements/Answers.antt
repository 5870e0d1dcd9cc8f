use Rattle.aq_grammar.proofs.Refusing.{refuses_found, refuses_nothing}
use Rattle.aq_script.specs.Sections.{refused_statements}
use Rattle.aq_script.specs.Parsing.{section_of}
use Rattle.aq_script.proofs.Limits.{statements_fault, statements_refused}
use Rattle.aq_script.proofs.section.refuse_statements.Goals as goal

pub returns-then-passes_statements : goal.returns-then-passes_statements
returns-then-passes_statements c =
    refuses_found (refused_statements c.args.statements (section_of c.args.place)) c.args.tokens.now statements_fault c.passes_statements.result c.passes_limit.result
    (statements_refused (section_of c.args.place) c.args.statements c.args.tokens.now c.passes_statements.result c.passes_statements.ensures) c.if-passes_statements.true
    c.passes_limit.ensures

pub returns : goal.returns
returns c =
    refuses_nothing (refused_statements c.args.statements (section_of c.args.place)) c.args.tokens.now statements_fault c.passes_statements.result
    (statements_refused (section_of c.args.place) c.args.statements c.args.tokens.now c.passes_statements.result c.passes_statements.ensures) c.if-passes_statements.false
