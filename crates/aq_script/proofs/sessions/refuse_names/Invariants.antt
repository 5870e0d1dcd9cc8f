use Rattle.std.proofs.Common.{◌≡◌, drop}
use Rattle.aq_grammar.specs.Rules.{refused}
use Rattle.aq_script.specs.Sections.{refused_names, names_of}
use Rattle.aq_script.proofs.sessions.refuse_names.Given as goal

abbrev pub invariant-sessions : goal.invariant-sessions
invariant-sessions l = refused (refused_names (names_of (drop l.session-index l.sessions))) l.tokens ≡ refused (refused_names (names_of l.sessions)) l.tokens
