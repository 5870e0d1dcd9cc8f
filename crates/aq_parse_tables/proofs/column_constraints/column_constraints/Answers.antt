use Rattle.std.proofs.Common.{rules, ◌≡◌, ◌∷◌, ◌++◌, [], false, Option, Some, None, sym, ap, ◌∙◌, subst, Err}
use Rattle.aq_base.specs.declared.constraint.ColumnConstraint.{ColumnConstraint}
use Rattle.aq_grammar.specs.Rules.{ColumnConstraints}
use Rattle.aq_grammar.specs.Nonterminals.{reads_called}
use Rattle.aq_grammar.specs.Reading.{Read}
use Rattle.aq_grammar.proofs.Loops.{gives_fault}
use Rattle.aq_parse_tables.specs.ColumnConstraints.{read_next, has_default_with}
use Rattle.aq_parse_tables.proofs.ColumnConstraints.{IsReadSoFar, so_far_more, so_far_all, so_far_fails}
use Rattle.aq_parse_tables.proofs.FewerTokens.{next_is_shorter}
use Rattle.aq_parse_tables.proofs.column_constraints.column_constraints.Goals as goal

pub returns-in_err-next : goal.returns-in_err-next
returns-in_err-next c =
    let is_fault : c.from_residual.result ≡ Err c.in_err-next.field-0.0 = search rules in
    gives_fault (λ x. x) c.from_residual.result c.in_err-next.field-0.0 _ is_fault
    (so_far_fails c.in_err-next.field-0.0 c.constraints.has_default c.constraints.constraints c.constraints.rest _ c.constraints.invariant c.in_err-next.ensures)

pub returns-in_default : goal.returns-in_default
returns-in_default c =
    let read : read_next c.constraints.has_default c.constraints.rest ≡ Read None c.in_ok-next.after =
    c.in_ok-next.ensures ∙ ap (λ (next : Option ColumnConstraint). Read next c.in_ok-next.after) c.in_default.is in
    so_far_all c.constraints.has_default c.constraints.constraints c.constraints.rest c.in_ok-next.after _ c.constraints.invariant read

pub constraints-smaller : goal.constraints-smaller
constraints-smaller c =
    let read : read_next c.constraints.has_default c.constraints.rest ≡ Read (Some c.in-Some.constraint) c.in_ok-next.after =
    c.in_ok-next.ensures ∙ ap (λ (next : Option ColumnConstraint). Read next c.in_ok-next.after) c.in-Some.is in
    next_is_shorter c.constraints.has_default c.constraints.rest c.in_ok-next.after c.in-Some.constraint read

pub constraints-preserved : goal.constraints-preserved
constraints-preserved c =
    let total = reads_called (ColumnConstraints false) c.args.tokens.now in
    let read : read_next c.constraints.has_default c.constraints.rest ≡ Read (Some c.in-Some.constraint) c.in_ok-next.after =
    c.in_ok-next.ensures ∙ ap (λ (next : Option ColumnConstraint). Read next c.in_ok-next.after) c.in-Some.is in
    let pushed : c.push.new.self ≡ c.constraints.constraints ++ c.in-Some.constraint ∷ [] = c.in_ok-push.ensures.ok in
    let known : c.has_default_with-has_default.result ≡ has_default_with c.constraints.has_default c.in-Some.constraint = c.has_default_with-has_default.ensures in
    subst (λ has_default. IsReadSoFar has_default c.push.new.self c.in_ok-next.after total) (sym known)
    (subst (λ all. IsReadSoFar (has_default_with c.constraints.has_default c.in-Some.constraint) all c.in_ok-next.after total) (sym pushed)
    (so_far_more c.constraints.has_default c.constraints.constraints c.constraints.rest c.in_ok-next.after c.in-Some.constraint total c.constraints.invariant read))
