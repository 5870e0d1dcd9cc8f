use Rattle.std.proofs.Common.{◌≡◌, ◌<◌, ◌≤◌, true, [], ◌∷◌, length, refl, subst, ◌∙◌}
use Rattle.aqueue.specs.Answers.{script_limit, CannotBeDone, is_one_of}
use Rattle.aqueue.proofs.Answering.{no_answer, known_status, usage_holds, too_long_holds, done_holds, refusal_holds, long_answer, refused_answer, done_answer, all_told}
use Rattle.std.specs.Io.KnownBytes.{Appends}
use Rattle.aqueue.proofs.program.aqueue.Goals as goal

pub returns-in-Done-clause-done : goal.returns-in-Done-clause-done
returns-in-Done-clause-done g c =
    let answer = rw c.in-Ok-Writes.field-0-is at c.in-Ok-Writes.ensures.cases in
    done_holds c.args.words.now (g.S.Source.left c.args.input.now) (g.K.Sink.written c.args.output.now) (g.K.Sink.written c.write_all.new.output)
    c.in-Ok-Writes.status c.in-Ok-Writes.text answer
    (subst (λ sent. Appends (g.K.Sink.written c.args.output.now) (g.K.Sink.written c.write_all.new.output) sent) c.as_slice.ensures c.in-Done.ensures.cases)

pub returns-in-Done-clause-refused : goal.returns-in-Done-clause-refused
returns-in-Done-clause-refused g c =
    let answer = rw c.in-Ok-Writes.field-0-is at c.in-Ok-Writes.ensures.cases in
    refusal_holds c.args.words.now (g.S.Source.left c.args.input.now) (g.K.Sink.written c.args.output.now) (g.K.Sink.written c.write_all.new.output)
    c.in-Ok-Writes.status c.in-Ok-Writes.text answer
    (subst (λ sent. Appends (g.K.Sink.written c.args.output.now) (g.K.Sink.written c.write_all.new.output) sent) c.as_slice.ensures c.in-Done.ensures.cases)

pub returns-in-Done-clause-refused_comes : goal.returns-in-Done-clause-refused_comes
returns-in-Done-clause-refused_comes g c = λ task is.
    let left = g.S.Source.left c.args.input.now in
    let answer = rw c.in-Ok-Writes.field-0-is at c.in-Ok-Writes.ensures.cases in
    all_told left (λ bytes. length bytes ≤ script_limit → CannotBeDone task bytes → is_one_of (2 ∷ 4 ∷ 5 ∷ 6 ∷ []) c.in-Ok-Writes.status ≡ true)
    (λ bytes e short none. refused_answer c.args.words.now left c.in-Ok-Writes.status c.in-Ok-Writes.text task bytes answer is e short none)

pub returns-in-Done-clause-write_failed : goal.returns-in-Done-clause-write_failed
returns-in-Done-clause-write_failed g c = λ five.
    let answer = rw c.in-Ok-Writes.field-0-is at c.in-Ok-Writes.ensures.cases in
    absurd (no_answer c.args.words.now (g.S.Source.left c.args.input.now) c.in-Ok-Writes.status 5 c.in-Ok-Writes.text answer refl five)

pub returns-in-Done-clause-read_failed : goal.returns-in-Done-clause-read_failed
returns-in-Done-clause-read_failed g c = λ four.
    let answer = rw c.in-Ok-Writes.field-0-is at c.in-Ok-Writes.ensures.cases in
    absurd (no_answer c.args.words.now (g.S.Source.left c.args.input.now) c.in-Ok-Writes.status 4 c.in-Ok-Writes.text answer refl four)

pub returns-in-Done-clause-no_memory : goal.returns-in-Done-clause-no_memory
returns-in-Done-clause-no_memory g c = λ six.
    let answer = rw c.in-Ok-Writes.field-0-is at c.in-Ok-Writes.ensures.cases in
    absurd (no_answer c.args.words.now (g.S.Source.left c.args.input.now) c.in-Ok-Writes.status 6 c.in-Ok-Writes.text answer refl six)

pub returns-in-Done-clause-usage : goal.returns-in-Done-clause-usage
returns-in-Done-clause-usage g c = λ one.
    let answer = rw c.in-Ok-Writes.field-0-is at c.in-Ok-Writes.ensures.cases in
    let told = usage_holds c.args.words.now (g.S.Source.left c.args.input.now) c.in-Ok-Writes.status c.in-Ok-Writes.text answer one in (
      told.0,
      c.prepared.ensures.unread told.0,
      subst (λ sent. Appends (g.K.Sink.written c.args.output.now) (g.K.Sink.written c.write_all.new.output) sent) (c.as_slice.ensures ∙ told.1) c.in-Done.ensures.cases,
    )

pub returns-in-Done-clause-too_long : goal.returns-in-Done-clause-too_long
returns-in-Done-clause-too_long g c = λ seven.
    let answer = rw c.in-Ok-Writes.field-0-is at c.in-Ok-Writes.ensures.cases in
    let told = too_long_holds c.args.words.now (g.S.Source.left c.args.input.now) c.in-Ok-Writes.status c.in-Ok-Writes.text answer seven in (
      told.0,
      told.1,
      subst (λ sent. Appends (g.K.Sink.written c.args.output.now) (g.K.Sink.written c.write_all.new.output) sent) (c.as_slice.ensures ∙ told.2) c.in-Done.ensures.cases,
    )

pub returns-in-Done-clause-too_long_comes : goal.returns-in-Done-clause-too_long_comes
returns-in-Done-clause-too_long_comes g c = λ is.
    let left = g.S.Source.left c.args.input.now in
    let answer = rw c.in-Ok-Writes.field-0-is at c.in-Ok-Writes.ensures.cases in
    all_told left (λ bytes. script_limit < length bytes → is_one_of (4 ∷ 5 ∷ 6 ∷ 7 ∷ []) c.in-Ok-Writes.status ≡ true)
    (λ bytes e long. long_answer c.args.words.now left c.in-Ok-Writes.status c.in-Ok-Writes.text bytes answer is e long)

pub returns-in-Done-clause-statuses : goal.returns-in-Done-clause-statuses
returns-in-Done-clause-statuses g c =
    let answer = rw c.in-Ok-Writes.field-0-is at c.in-Ok-Writes.ensures.cases in
    known_status c.args.words.now (g.S.Source.left c.args.input.now) c.in-Ok-Writes.status c.in-Ok-Writes.text answer

pub returns-in-Done-clause-complete : goal.returns-in-Done-clause-complete
returns-in-Done-clause-complete g c = λ task is.
    let left = g.S.Source.left c.args.input.now in
    let answer = rw c.in-Ok-Writes.field-0-is at c.in-Ok-Writes.ensures.cases in
    all_told left _ (λ bytes e short can read_well written_well. done_answer c.args.words.now left c.in-Ok-Writes.status c.in-Ok-Writes.text task bytes answer is e short can)
