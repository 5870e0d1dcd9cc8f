use Rattle.aq_print.proofs.statements.isolation.Goals as goal

pub returns-in-RepeatableRead : goal.returns-in-RepeatableRead
returns-in-RepeatableRead c = rw c.in-RepeatableRead.is c.words.ensures
