use Rattle.aq_first_journal.proofs.Journaling.{IsJournal-start}
use Rattle.aq_first_journal.proofs.shared.Shared.new.Goals as goal

pub invariant_of-result : goal.invariant_of-result
invariant_of-result c = rw c.new.ensures (IsJournal-start c.args.machine.script c.args.machine.state c.requires)
