use Rattle.std.proofs.Common.{length}
use Rattle.aq_script.specs.Parsing.{section_of, read_all_statements}
use Rattle.aq_script.proofs.ReadStatements.{AreStatements}
use Rattle.aq_script.proofs.section.statements.Given as goal

abbrev pub invariant-statements : goal.invariant-statements
invariant-statements l = AreStatements (section_of l.fn.place) l.count l.found l.rest (read_all_statements (section_of l.place) l.fn.before l.fn.tokens)

abbrev pub decreases-statements : goal.decreases-statements
decreases-statements l = length l.rest
