use Rattle.aq_print.proofs.tables.action_on.Goals as goal

pub returns-in-Restrict : goal.returns-in-Restrict
returns-in-Restrict c = rw c.in-Restrict.is c.words.ensures

pub returns-in-Cascade : goal.returns-in-Cascade
returns-in-Cascade c = rw c.in-Cascade.is c.words-in-Cascade.ensures

pub returns-in-SetDefault : goal.returns-in-SetDefault
returns-in-SetDefault c = rw c.in-SetDefault.is c.words-in-SetDefault.ensures
