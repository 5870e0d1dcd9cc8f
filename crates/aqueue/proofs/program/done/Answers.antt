use Rattle.std.proofs.Common.{Some}
use Rattle.aqueue.specs.Answers.IsAnswer.{Done}
use Rattle.aqueue.proofs.Answering.{refused_bytes_answer}
use Rattle.aqueue.proofs.program.done.Goals as goal

pub returns-in-Ok : goal.returns-in-Ok
returns-in-Ok c = λ words before now is. Done words (Some c.args.bytes.now) c.args.task c.in-Ok.text is (c.requires, c.in-Ok.ensures.done)

pub returns-in_ok-refusal-in-Err-Script : goal.returns-in_ok-refusal-in-Err-Script
returns-in_ok-refusal-in-Err-Script c = λ words before now is.
    let refused = rw c.in-Err-Script.field-0-is at c.in-Err-Script.ensures.refused in
    let none = rw c.in-Err-Script.field-0-is at c.in-Err-Script.ensures.none in
    refused_bytes_answer words c.args.task c.args.bytes.now c.in-Err-Script.line c.in-Err-Script.fault c.in_ok-refusal-in-Err-Script.field-0 is c.in_ok-refusal-in-Err-Script.ensures
    c.requires refused none
