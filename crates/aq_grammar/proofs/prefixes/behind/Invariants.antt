use Rattle.std.proofs.Common.{◌≡◌, replicate}
use Rattle.aq_grammar.specs.Expressions.{before}
use Rattle.aq_grammar.proofs.prefixes.behind.Given as goal

abbrev pub invariant-operators : goal.invariant-operators
invariant-operators l = before l.fn.operator (replicate l.left tt) l.made ≡ before l.fn.operator (replicate l.fn.count tt) l.fn.e

abbrev pub decreases-operators : goal.decreases-operators
decreases-operators l = l.left
