use Rattle.aq_print.proofs.expressions.infix_words.Goals as goal

pub returns-in-IsNotDistinct : goal.returns-in-IsNotDistinct
returns-in-IsNotDistinct c = rw c.in-IsNotDistinct.is c.words-in-IsNotDistinct.ensures
