use Rattle.std.proofs.Common.{rules, ◌≡◌, ◌∙◌, ap, Option, Err, unwrap_or, ℕ}
use Rattle.aq_grammar.proofs.Loops.{gives_fault}
use Rattle.aq_script.specs.Parsing.{line_of}
use Rattle.aq_script.proofs.AtPlace.{line_is, placed_fails, placed_gives}
use Rattle.aq_script.proofs.section.placed.Goals as goal

pub returns-in_err-statement : goal.returns-in_err-statement
returns-in_err-statement c free =
    let is_fault : c.from_residual.result ≡ Err c.in_err-statement.field-0.0 = search rules in
    gives_fault (λ x. x) c.from_residual.result c.in_err-statement.field-0.0 _ is_fault
    (placed_fails c.args.place c.in_err-statement.field-0.0 c.args.tokens.now free c.in_err-statement.ensures)

pub returns : goal.returns
returns c free =
    let is_line : c.unwrap_or-line.result ≡ line_of c.args.tokens.now =
    c.unwrap_or-line.ensures ∙ (ap (λ (o : Option ℕ). unwrap_or o 0) c.line.ensures ∙ line_is c.args.tokens.now) in
    placed_gives c.args.place c.in_ok-statement.statement c.unwrap_or-line.result c.args.tokens.now c.in_ok-statement.rest c.ended.result free c.in_ok-statement.ensures is_line
    c.ended.ensures
