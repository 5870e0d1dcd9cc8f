use Rattle.aq_first_base.specs.Setup.{program_of}
use Rattle.aq_first_laws.specs.Finite.{steps_left}
use Rattle.aq_first_journal.specs.Journals.{GoesOn}
use Rattle.aq_first_journal.proofs.shared.Shared.finish.Given as goal

abbrev pub invariant-steps : goal.invariant-steps
invariant-steps l = GoesOn l.fn.self l.self

abbrev pub decreases-steps : goal.decreases-steps
decreases-steps l = steps_left (program_of l.self.script) l.self.state
