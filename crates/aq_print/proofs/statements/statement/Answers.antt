use Rattle.aq_print.proofs.statements.statement.Goals as goal

pub returns-in-Savepoint : goal.returns-in-Savepoint
returns-in-Savepoint c = rw c.in-Savepoint.is c.named.ensures

pub returns-in-Release : goal.returns-in-Release
returns-in-Release c = rw c.in-Release.is c.named-in-Release.ensures

pub returns-in-RollbackTo : goal.returns-in-RollbackTo
returns-in-RollbackTo c = rw c.in-RollbackTo.is c.named-in-RollbackTo.ensures
