use Rattle.std.proofs.lemmas.Result.{err_from_is_err_and}
use Rattle.aq_grammar.proofs.Refusing.{refuses_first, refuses_then}
use Rattle.aq_script.specs.Sections.{refused_statements}
use Rattle.aq_script.specs.Parsing.{section_of}
use Rattle.aq_script.proofs.section.refuse_behind.Goals as goal

pub returns-in_err-refuse_statements : goal.returns-in_err-refuse_statements
returns-in_err-refuse_statements c =
    let p = err_from_is_err_and c.from_residual.result c.from_residual.ensures.1 in
    rw (p.1, p.2)
    (refuses_first (refused_statements c.args.statements (section_of c.args.place)) (section_of c.args.place).refused c.args.tokens.now c.in_err-refuse_statements.field-0.0
    c.in_err-refuse_statements.ensures)

pub returns : goal.returns
returns c =
    refuses_then (refused_statements c.args.statements (section_of c.args.place)) (section_of c.args.place).refused c.args.tokens.now c.in_ok-refuse_statements.field-0
    c.refuse_others.result c.in_ok-refuse_statements.ensures c.refuse_others.ensures
