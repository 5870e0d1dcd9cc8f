use Rattle.std.proofs.Common.{rules, ◌≡◌, []}
use Rattle.aq_setup.specs.Names.{expression_names}
use Rattle.aq_refusals.specs.Answers.{Tells, IsFault}
use Rattle.aq_binder.proofs.NameForms.{left_told, right_told}
use Rattle.aq_binder.proofs.names.+expression_names.Goals as goal

pub returns-in_err-expression_names-in-Binary : goal.returns-in_err-expression_names-in-Binary
returns-in_err-expression_names-in-Binary t c =
    let told : IsFault (expression_names c.args.scope.now c.in-Binary.left) c.in_err-expression_names-in-Binary.field-0.0 = search rules in
    let refused = left_told c.args.scope.now c.args.e.now _ _ _ _ c.in-Binary.is told in
    search rules

pub returns-in_ok-expression_names-in-Binary : goal.returns-in_ok-expression_names-in-Binary
returns-in_ok-expression_names-in-Binary t c =
    let none : expression_names c.args.scope.now c.in-Binary.left ≡ [] = search rules in
    let told : Tells (expression_names c.args.scope.now c.in-Binary.right) c.expression_names-in-Binary-2.result = search rules in
    right_told c.args.scope.now c.args.e.now _ _ _ _ c.in-Binary.is none told
