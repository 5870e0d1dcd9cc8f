use Rattle.std.proofs.Common.{◌≡◌, Some, take}
use Rattle.aq_simple.specs.Forms.{all_of, simple_session}
use Rattle.aq_simple.proofs.forms.simple_sessions.Given as goal

abbrev pub invariant-loop-session : goal.invariant-loop-session
invariant-loop-session l = all_of simple_session (take l.session-index l.sessions) ≡ Some l.simple
