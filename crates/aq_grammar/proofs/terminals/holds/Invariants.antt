use Rattle.std.proofs.Common.{◌≡◌, length}
use Rattle.aq_grammar.specs.Terminals.{holds}
use Rattle.aq_grammar.proofs.terminals.holds.Given as goal

abbrev pub invariant-bytes : goal.invariant-bytes
invariant-bytes l = holds l.part l.rest ≡ holds l.part l.text

abbrev pub decreases-bytes : goal.decreases-bytes
decreases-bytes l = length l.rest
