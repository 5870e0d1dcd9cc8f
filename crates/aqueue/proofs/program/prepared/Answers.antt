use Rattle.std.proofs.Common.{rules, ◌≡◌, sym, ◌∙◌}
use Rattle.std.specs.Prelude.{Some, None}
use Rattle.aq_causes.specs.Gathered.{ToldCases}
use Rattle.aq_causes.specs.declared.reading.Gathered.TheVariants.{All}
use Rattle.aqueue.specs.Answers.{task_of, script_limit}
use Rattle.aqueue.proofs.Answering.{usage_answer, too_long_answer, task_is_there, outcome_told, IfOk-follows, IfSome-follows}
use Rattle.aqueue.proofs.program.prepared.Goals as goal

pub returns-in_default-clause-cases : goal.returns-in_default-clause-cases
returns-in_default-clause-cases g c =
    let none : task_of c.args.words.now ≡ None = search rules in
    usage_answer c.args.words.now (g.S.Source.left c.args.input.now) c.in_ok-line_of.field-0 none c.in_ok-line_of.ensures

pub returns-in-All-clause-cases : goal.returns-in-All-clause-cases
returns-in-All-clause-cases g c =
    let is : task_of c.args.words.now ≡ Some c.in-Some.task = sym c.in_ok-task.ensures ∙ c.in-Some.is in
    let left = g.S.Source.left c.args.input.now in
    let told = rw c.in-All.is at c.in_ok-bytes.ensures.told in
    let same = IfSome-follows left (λ bs. ToldCases script_limit bs (g.S.Source.left c.read_all.new.input) (All c.in-All.bytes)) (λ bs. c.as_slice.result.now ≡ bs)
    (λ bs h. c.as_slice.ensures ∙ h.0) told in
    IfOk-follows c.done.result _ _ (λ o. outcome_told c.args.words.now left c.as_slice.result.now (g.S.Source.faults c.args.input.now) (g.S.Source.faults c.read_all.new.input) o same)
    (c.done.ensures c.args.words.now (g.S.Source.faults c.args.input.now) (g.S.Source.faults c.read_all.new.input) is)

pub returns-in_ok-line_of-in-TooLong-clause-cases : goal.returns-in_ok-line_of-in-TooLong-clause-cases
returns-in_ok-line_of-in-TooLong-clause-cases g c =
    let is : task_of c.args.words.now ≡ Some c.in-Some.task = sym c.in_ok-task.ensures ∙ c.in-Some.is in
    let told = rw c.in-TooLong.is at c.in_ok-bytes.ensures.told in
    too_long_answer c.args.words.now (g.S.Source.left c.args.input.now) c.in_ok-line_of-in-TooLong.field-0 (task_is_there c.args.words.now c.in-Some.task is)
    c.in_ok-line_of-in-TooLong.ensures told
