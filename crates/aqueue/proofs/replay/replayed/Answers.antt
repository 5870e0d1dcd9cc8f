use Rattle.std.proofs.Common.{◌≡◌, [], ap, subst, ◌∙◌}
use Rattle.aq_first_run.specs.Texts.{text}
use Rattle.aq_first_base.specs.Setup.{program_of}
use Rattle.aq_first_journal.specs.Journals.{Journal, Finishes}
use Rattle.aqueue.specs.Answers.{IsTextOf}
use Rattle.aqueue.proofs.Texts.{opened, finished_text}
use Rattle.aqueue.proofs.Answering.{IfOk-follows}
use Rattle.aqueue.proofs.replay.replayed.Goals as goal

pub returns : goal.returns
returns c =
    let start : c.new-shared.result ≡ opened c.args.script = c.new-shared.ensures ∙ ap (λ m. record { script = m.script; state = m.state; schedule = [] }) c.in_ok-open.ensures in
    let finishes : Finishes (opened c.args.script) c.finish.new.self = subst (λ (j : Journal). Finishes j c.finish.new.self) start c.in_ok-finish.ensures.ok in
    IfOk-follows c.text.result (λ output. output ≡ text (program_of c.finish.new.self.script) c.finish.new.self.schedule) (IsTextOf c.args.script)
    (λ output printed. finished_text c.args.script c.finish.new.self output c.requires finishes c.text.ensures.short printed) c.text.ensures.text
