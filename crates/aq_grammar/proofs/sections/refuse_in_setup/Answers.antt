use Rattle.std.proofs.Common.{◌++◌, List}
use Rattle.std.proofs.lemmas.Result.{err_from_is_err_and}
use Rattle.aq_grammar.specs.Rules.{Refusal}
use Rattle.aq_grammar.specs.Bodies.{unsupported_statements}
use Rattle.aq_grammar.specs.Statements.{enabling, other_objects}
use Rattle.aq_grammar.proofs.Refusing.{refuses_first, refuses_then, data_refused}
use Rattle.aq_grammar.proofs.sections.refuse_in_setup.Goals as goal

-- the lists behind the first, and behind the second
abbrev behind_first : List Refusal
behind_first = other_objects ++ unsupported_statements ++ data_refused

abbrev behind_second : List Refusal
behind_second = unsupported_statements ++ data_refused

pub returns-in_err-refuse_enabling : goal.returns-in_err-refuse_enabling
returns-in_err-refuse_enabling c =
    let p = err_from_is_err_and c.from_residual.result c.from_residual.ensures.1 in
    rw (p.1, p.2) (refuses_first enabling behind_first c.args.tokens.now c.in_err-refuse_enabling.field-0.0 c.in_err-refuse_enabling.ensures)

pub returns-in_err-refuse_other_objects : goal.returns-in_err-refuse_other_objects
returns-in_err-refuse_other_objects c =
    let p = err_from_is_err_and c.from_residual-in_err-refuse_other_objects.result c.from_residual-in_err-refuse_other_objects.ensures.1 in
    rw (p.1, p.2)
    (refuses_then enabling behind_first c.args.tokens.now _ _ c.in_ok-refuse_enabling.ensures
    (refuses_first other_objects behind_second c.args.tokens.now c.in_err-refuse_other_objects.field-0.0 c.in_err-refuse_other_objects.ensures))

pub returns-in_err-refuse_unsupported_statements : goal.returns-in_err-refuse_unsupported_statements
returns-in_err-refuse_unsupported_statements c =
    let p = err_from_is_err_and c.from_residual-in_err-refuse_unsupported_statements.result c.from_residual-in_err-refuse_unsupported_statements.ensures.1 in
    rw (p.1, p.2)
    (refuses_then enabling behind_first c.args.tokens.now _ _ c.in_ok-refuse_enabling.ensures
    (refuses_then other_objects behind_second c.args.tokens.now _ _ c.in_ok-refuse_other_objects.ensures
    (refuses_first unsupported_statements data_refused c.args.tokens.now c.in_err-refuse_unsupported_statements.field-0.0 c.in_err-refuse_unsupported_statements.ensures)))

pub returns : goal.returns
returns c =
    refuses_then enabling behind_first c.args.tokens.now _ _ c.in_ok-refuse_enabling.ensures
    (refuses_then other_objects behind_second c.args.tokens.now _ _ c.in_ok-refuse_other_objects.ensures
    (refuses_then unsupported_statements data_refused c.args.tokens.now _ _ c.in_ok-refuse_unsupported_statements.ensures c.refuse_session_statements.ensures))
