use Rattle.std.proofs.Common.{◌≡◌, length}
use Rattle.aq_simple.specs.Simple.{first_line}
use Rattle.aq_simple.proofs.lines.first_line.Given as goal

abbrev pub invariant-sessions : goal.invariant-sessions
invariant-sessions l = first_line l.rest ≡ first_line l.fn.sessions

abbrev pub decreases-sessions : goal.decreases-sessions
decreases-sessions l = length l.rest
