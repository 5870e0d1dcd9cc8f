use Rattle.std.proofs.Common.{◌≡◌, ap, sym, subst, ◌∙◌, rules, arith, List, [], take}
use Rattle.std.proofs.lemmas.Grind.{common_steps}
use Rattle.aq_base.specs.declared.fault.SqlFault.{SqlFault}
use Rattle.aq_setup.specs.Lengths.{update_lengths}
use Rattle.aq_refusals.specs.Answers.{IsFault}
use Rattle.aq_binder.specs.Repeating.{faults_behind, assignment_repeated}
use Rattle.aq_binder.proofs.NameLoops.{walk_told, walk_next}
use Rattle.aq_binder.proofs.Repeated.{assigned_are}
use Rattle.aq_binder.proofs.lengths.update_lengths.Goals as goal

pub returns-in_err-assigned_before : goal.returns-in_err-assigned_before
returns-in_err-assigned_before c =
    let assignments = c.as_slice-assignments.result.now in
    let at = c.assignments.at in
    let a = c.index-assignments-at.result in
    let fault = c.in_err-assigned_before.field-0.0 in
    let here : IsFault (assignment_repeated (take at assignments) a) fault = search rules in
    let told = walk_told assignment_repeated [] assignments at a fault here c.index-assignments-at.is c.assignments-test.true c.assignments.invariant in
    let refused : IsFault (update_lengths c.args.s.now) fault =
    subst (λ (l : List SqlFault). IsFault l fault) (sym (assigned_are c.args.s.now assignments c.as_slice-assignments.ensures)) told in
    search rules

pub assignments-preserved : goal.assignments-preserved
assignments-preserved c =
    let assignments = c.as_slice-assignments.result.now in
    let at = c.assignments.at in
    let a = c.index-assignments-at.result in
    let here : assignment_repeated (take at assignments) a ≡ [] = search rules in
    walk_next assignment_repeated assignments at a here c.index-assignments-at.is c.assignments-test.true c.assignments.invariant

pub returns : goal.returns
returns c =
    let assignments = c.as_slice-assignments.result.now in
    let all : take c.assignments.at assignments ≡ assignments = grind (arith, common_steps) in
    (assigned_are c.args.s.now assignments c.as_slice-assignments.ensures ∙ ap (faults_behind assignment_repeated []) (sym all) ∙ c.assignments.invariant, tt)
