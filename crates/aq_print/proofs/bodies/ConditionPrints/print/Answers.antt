use Rattle.aq_print.proofs.bodies.ConditionPrints.print.Goals as goal

pub returns-in-ForeignKeyViolation : goal.returns-in-ForeignKeyViolation
returns-in-ForeignKeyViolation c = rw c.in-ForeignKeyViolation.is c.word-in-ForeignKeyViolation.ensures

pub returns-in-RaiseException : goal.returns-in-RaiseException
returns-in-RaiseException c = rw c.in-RaiseException.is c.word-in-RaiseException.ensures

pub returns-in-DeadlockDetected : goal.returns-in-DeadlockDetected
returns-in-DeadlockDetected c = rw c.in-DeadlockDetected.is c.word-in-DeadlockDetected.ensures
