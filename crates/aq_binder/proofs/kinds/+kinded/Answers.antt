-- A fault of an operand is the first fault of the expression.
use Rattle.std.proofs.Common.{rules, ◌≡◌, []}
use Rattle.aq_setup.specs.Kinds.{kinded}
use Rattle.aq_refusals.specs.Answers.{IsFault}
use Rattle.aq_binder.proofs.KindForms.{first_of_unary, first_of_binary, second_of_binary}
use Rattle.aq_binder.proofs.kinds.+kinded.Goals as goal

pub returns-in_err-a-in-Unary : goal.returns-in_err-a-in-Unary
returns-in_err-a-in-Unary t c =
    let told : IsFault (kinded c.args.scope.now c.in-Unary.operand).faults c.in_err-a-in-Unary.field-0.0 = search rules in
    let refused = first_of_unary c.args.scope.now c.in-Unary.operator c.in-Unary.operand _ told in
    search rules

pub returns-in_err-a-in-Binary : goal.returns-in_err-a-in-Binary
returns-in_err-a-in-Binary t c =
    let told : IsFault (kinded c.args.scope.now c.in-Binary.left).faults c.in_err-a-in-Binary.field-0.0 = search rules in
    let refused = first_of_binary c.args.scope.now c.in-Binary.left c.in-Binary.operator c.in-Binary.right _ told in
    search rules

pub returns-in_err-b-in-Binary : goal.returns-in_err-b-in-Binary
returns-in_err-b-in-Binary t c =
    let none : (kinded c.args.scope.now c.in-Binary.left).faults ≡ [] = search rules in
    let told : IsFault (kinded c.args.scope.now c.in-Binary.right).faults c.in_err-b-in-Binary.field-0.0 = search rules in
    let refused = second_of_binary c.args.scope.now c.in-Binary.left c.in-Binary.operator c.in-Binary.right _ none told in
    search rules
