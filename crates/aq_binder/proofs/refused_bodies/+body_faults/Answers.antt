-- The parts of an IF, of a branch, of a block and of a handler, in the order of the text.
use Rattle.std.proofs.Common.{rules, ◌≡◌, [], ap, sym, ◌∙◌}
use Rattle.std.specs.List.{flat_map}
use Rattle.aq_setup.specs.Bodies.{if_faults, faults_in, else_if_faults}
use Rattle.aq_refusals.specs.Answers.{IsFault}
use Rattle.aq_refusals.proofs.Telling.{same_told}
use Rattle.aq_binder.proofs.BodyForms.{last_faults, if_is, branch_is, handler_is, block_is, first_told, second_told, third_told, rest_told, last_told, none_told}
use Rattle.aq_binder.proofs.refused_bodies.+body_faults.Goals as goal

pub else_if_faults-returns-in_err-if_faults : goal.else_if_faults-returns-in_err-if_faults
else_if_faults-returns-in_err-if_faults t c =
    let told : IsFault (if_faults c.args.setting.now c.args.branch.now.condition) c.in_err-if_faults.field-0.0 = search rules in
    let refused = first_told _ _ _ _ (branch_is c.args.setting.now c.args.branch.now) told in
    search rules

pub else_if_faults-returns : goal.else_if_faults-returns
else_if_faults-returns t c =
    let none : if_faults c.args.setting.now c.args.branch.now.condition ≡ [] = search rules in
    rest_told _ _ _ _ (branch_is c.args.setting.now c.args.branch.now) none c.statements_faults.ensures

pub handler_faults-returns : goal.handler_faults-returns
handler_faults-returns t c = same_told _ _ _ (sym (handler_is c.args.setting.now c.args.handler.now)) c.statements_faults.ensures

pub faults_in-returns-in_err-if_faults-in-If : goal.faults_in-returns-in_err-if_faults-in-If
faults_in-returns-in_err-if_faults-in-If t c =
    let told : IsFault (if_faults c.args.setting.now c.in-If.condition) c.in_err-if_faults-in-If.field-0.0 = search rules in
    let refused = first_told _ _ _ _ (if_is c.args.setting.now c.in-If.condition c.in-If.then c.in-If.else_ifs c.in-If.otherwise) told in
    search rules

pub faults_in-returns-in_err-statements_faults-in-If : goal.faults_in-returns-in_err-statements_faults-in-If
faults_in-returns-in_err-statements_faults-in-If t c =
    let none : if_faults c.args.setting.now c.in-If.condition ≡ [] = search rules in
    let told : IsFault (flat_map (faults_in c.args.setting.now) c.in-If.then) c.in_err-statements_faults-in-If.field-0.0 = search rules in
    let refused = second_told _ _ _ _ _ (if_is c.args.setting.now c.in-If.condition c.in-If.then c.in-If.else_ifs c.in-If.otherwise) none told in
    search rules

pub faults_in-returns-in_err-else_ifs_faults-in-If : goal.faults_in-returns-in_err-else_ifs_faults-in-If
faults_in-returns-in_err-else_ifs_faults-in-If t c =
    let none : if_faults c.args.setting.now c.in-If.condition ≡ [] = search rules in
    let none_first : flat_map (faults_in c.args.setting.now) c.in-If.then ≡ [] = search rules in
    let told : IsFault (flat_map (else_if_faults c.args.setting.now) c.in-If.else_ifs) c.in_err-else_ifs_faults-in-If.field-0.0 = search rules in
    let refused = third_told _ _ _ _ _ _ (if_is c.args.setting.now c.in-If.condition c.in-If.then c.in-If.else_ifs c.in-If.otherwise) none none_first told in
    search rules

pub faults_in-returns-in-None : goal.faults_in-returns-in-None
faults_in-returns-in-None t c =
    let none : if_faults c.args.setting.now c.in-If.condition ≡ [] = search rules in
    let none_first : flat_map (faults_in c.args.setting.now) c.in-If.then ≡ [] = search rules in
    let none_others : flat_map (else_if_faults c.args.setting.now) c.in-If.else_ifs ≡ [] = search rules in
    let all : faults_in c.args.setting.now c.args.s.now ≡ [] =
    none_told _ _ _ _ _
    (ap (faults_in c.args.setting.now) c.in-If.is ∙ if_is c.args.setting.now c.in-If.condition c.in-If.then c.in-If.else_ifs c.in-If.otherwise) none none_first none_others
    (ap (last_faults c.args.setting.now) c.in-None.is) in
    search rules

pub faults_in-returns-in-Some : goal.faults_in-returns-in-Some
faults_in-returns-in-Some t c =
    let none : if_faults c.args.setting.now c.in-If.condition ≡ [] = search rules in
    let none_first : flat_map (faults_in c.args.setting.now) c.in-If.then ≡ [] = search rules in
    let none_others : flat_map (else_if_faults c.args.setting.now) c.in-If.else_ifs ≡ [] = search rules in
    last_told _ _ _ _ _ _
    (ap (faults_in c.args.setting.now) c.in-If.is ∙ if_is c.args.setting.now c.in-If.condition c.in-If.then c.in-If.else_ifs c.in-If.otherwise) none none_first none_others
    (same_told _ _ _ (ap (last_faults c.args.setting.now) (sym c.in-Some.is)) c.statements_faults-in-Some.ensures)

pub faults_in-returns-in_err-statements_faults-in-Block : goal.faults_in-returns-in_err-statements_faults-in-Block
faults_in-returns-in_err-statements_faults-in-Block t c =
    let told : IsFault (flat_map (faults_in c.args.setting.now) c.in-Block.statements) c.in_err-statements_faults-in-Block.field-0.0 = search rules in
    let refused = first_told _ _ _ _ (block_is c.args.setting.now c.in-Block.statements c.in-Block.handlers) told in
    search rules

pub faults_in-returns-in_ok-statements_faults-in-Block : goal.faults_in-returns-in_ok-statements_faults-in-Block
faults_in-returns-in_ok-statements_faults-in-Block t c =
    let none : flat_map (faults_in c.args.setting.now) c.in-Block.statements ≡ [] = search rules in
    rest_told _ _ _ _ (ap (faults_in c.args.setting.now) c.in-Block.is ∙ block_is c.args.setting.now c.in-Block.statements c.in-Block.handlers) none
    c.handlers_faults.ensures
