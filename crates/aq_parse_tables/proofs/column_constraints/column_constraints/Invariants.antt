use Rattle.std.proofs.Common.{false, length}
use Rattle.aq_grammar.specs.Rules.{ColumnConstraints}
use Rattle.aq_grammar.specs.Nonterminals.{reads_called}
use Rattle.aq_parse_tables.proofs.ColumnConstraints.{IsReadSoFar}
use Rattle.aq_parse_tables.proofs.column_constraints.column_constraints.Given as goal

abbrev pub invariant-constraints : goal.invariant-constraints
invariant-constraints l = IsReadSoFar l.has_default l.constraints l.rest (reads_called (ColumnConstraints false) l.fn.tokens)

abbrev pub decreases-constraints : goal.decreases-constraints
decreases-constraints l = length l.rest
