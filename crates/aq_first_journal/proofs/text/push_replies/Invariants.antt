use Rattle.std.proofs.Common.{◌≡◌, ◌++◌, map, take}
use Rattle.aq_first_run.specs.Texts.{replies_text}
use Rattle.aq_first_machine.specs.Givens.{given_shown}
use Rattle.aq_first_journal.proofs.text.push_replies.Given as goal

abbrev pub invariant-loop-given : goal.invariant-loop-given
invariant-loop-given l = l.out.items ≡ l.fn.out.items ++ replies_text (map (λ s. s.name) l.sessions) (map given_shown (take l.given-index l.replies))
