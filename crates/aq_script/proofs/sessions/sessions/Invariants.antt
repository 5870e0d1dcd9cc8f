use Rattle.std.proofs.Common.{length}
use Rattle.aq_script.specs.Parsing.{read_all_sessions}
use Rattle.aq_script.proofs.ReadSessions.{AreSessions}
use Rattle.aq_script.proofs.sessions.sessions.Given as goal

abbrev pub invariant-sessions : goal.invariant-sessions
invariant-sessions l = AreSessions l.count l.found l.rest (read_all_sessions l.fn.before l.fn.tokens)

abbrev pub decreases-sessions : goal.decreases-sessions
decreases-sessions l = length l.rest
