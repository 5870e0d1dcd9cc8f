use Rattle.aq_grammar.proofs.Refusing.{refuses_found, refuses_nothing}
use Rattle.aq_script.specs.Sections.{refused_sessions}
use Rattle.aq_script.proofs.Limits.{sessions_fault, sessions_refused}
use Rattle.aq_script.proofs.sessions.refuse_sessions.Goals as goal

pub returns-then-passes_sessions : goal.returns-then-passes_sessions
returns-then-passes_sessions c =
    refuses_found (refused_sessions c.args.sessions) c.args.tokens.now sessions_fault c.passes_sessions.result c.passes_limit.result
    (sessions_refused c.args.sessions c.args.tokens.now c.passes_sessions.result c.passes_sessions.ensures) c.if-passes_sessions.true c.passes_limit.ensures

pub returns : goal.returns
returns c =
    refuses_nothing (refused_sessions c.args.sessions) c.args.tokens.now sessions_fault c.passes_sessions.result
    (sessions_refused c.args.sessions c.args.tokens.now c.passes_sessions.result c.passes_sessions.ensures) c.if-passes_sessions.false
