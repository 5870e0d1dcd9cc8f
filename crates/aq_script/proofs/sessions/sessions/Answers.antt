use Rattle.std.proofs.Common.{rules, ◌≡◌, ℕ, ◌+◌, ◌∷◌, ◌++◌, [], length, true, false, Ok, Err, sym, List, subst}
use Rattle.aq_base.specs.declared.script.SessionText.{SessionText}
use Rattle.aq_lex.specs.declared.token.Directive.TheVariants.{Session}
use Rattle.aq_grammar.specs.Terminals.{Heading, begins}
use Rattle.aq_grammar.specs.Reading.{Read}
use Rattle.aq_grammar.specs.Steps.{Fails, RefusesSo}
use Rattle.aq_grammar.proofs.Loops.{gives_fault}
use Rattle.aq_script.specs.Sections.{refused_sessions, names_of}
use Rattle.aq_script.specs.Parsing.{read_session, read_all_sessions}
use Rattle.aq_script.proofs.ReadSessions.{AreSessions, session_fits_in, sessions_begin, sessions_refuse, sessions_fail, sessions_go_on, sessions_end}
use Rattle.aq_script.proofs.Shorter.{session_is_shorter}
use Rattle.aq_script.proofs.sessions.sessions.Goals as goal

pub sessions-init : goal.sessions-init
sessions-init c =
    let none : c.new-found.result ≡ [] = c.new-found.ensures in
    let same : c.copied-rest.result ≡ c.args.tokens.now = c.copied-rest.ensures in
    subst (λ found. AreSessions c.args.before found c.copied-rest.result (read_all_sessions c.args.before c.args.tokens.now)) (sym none)
    (subst (λ tokens. AreSessions c.args.before [] c.copied-rest.result (read_all_sessions c.args.before tokens)) same (sessions_begin c.args.before c.copied-rest.result))

pub returns-in_err-refuse_sessions : goal.returns-in_err-refuse_sessions
returns-in_err-refuse_sessions c =
    let is_fault : c.from_residual.result ≡ Err c.in_err-refuse_sessions.field-0.0 = search rules in
    let refuses : RefusesSo (refused_sessions (length c.sessions.found)) (Err c.in_err-refuse_sessions.field-0.0) c.sessions.rest =
    subst (λ n. RefusesSo (refused_sessions n) (Err c.in_err-refuse_sessions.field-0.0) c.sessions.rest) c.len.ensures c.in_err-refuse_sessions.ensures in
    gives_fault (λ x. x) c.from_residual.result c.in_err-refuse_sessions.field-0.0 _ is_fault
    (sessions_refuse c.in_err-refuse_sessions.field-0.0 c.sessions.count c.sessions.found c.sessions.rest _ c.sessions.invariant refuses)

pub returns-then-not-is_heading : goal.returns-then-not-is_heading
returns-then-not-is_heading c =
    let ended : begins (Heading Session ∷ []) c.sessions.rest ≡ false = search rules in
    let free : RefusesSo (refused_sessions (length c.sessions.found)) (Ok c.in_ok-refuse_sessions.field-0) c.sessions.rest =
    subst (λ n. RefusesSo (refused_sessions n) (Ok c.in_ok-refuse_sessions.field-0) c.sessions.rest) c.len.ensures c.in_ok-refuse_sessions.ensures in
    sessions_end c.in_ok-refuse_sessions.field-0 c.sessions.count c.sessions.found c.sessions.rest _ c.sessions.invariant free ended

pub returns-in_err-next : goal.returns-in_err-next
returns-in_err-next c =
    let is_fault : c.from_residual-in_err-next.result ≡ Err c.in_err-next.field-0.0 = search rules in
    let begun : begins (Heading Session ∷ []) c.sessions.rest ≡ true = search rules in
    let free : RefusesSo (refused_sessions (length c.sessions.found)) (Ok c.in_ok-refuse_sessions.field-0) c.sessions.rest =
    subst (λ n. RefusesSo (refused_sessions n) (Ok c.in_ok-refuse_sessions.field-0) c.sessions.rest) c.len.ensures c.in_ok-refuse_sessions.ensures in
    let fails : Fails c.in_err-next.field-0.0 (read_session c.sessions.count (names_of c.sessions.found) c.sessions.rest) =
    subst (λ (found : List SessionText). Fails c.in_err-next.field-0.0 (read_session c.sessions.count (names_of found) c.sessions.rest)) c.as_slice.ensures c.in_err-next.ensures in
    gives_fault (λ x. x) c.from_residual-in_err-next.result c.in_err-next.field-0.0 _ is_fault
    (sessions_fail c.in_err-next.field-0.0 c.in_ok-refuse_sessions.field-0 c.sessions.count c.sessions.found c.sessions.rest _ c.sessions.invariant free begun fails)

pub overflow_add-count : goal.overflow_add-count
overflow_add-count c =
    session_fits_in c.sessions.count c.len-count.result c.as_slice.result.now c.sessions.rest c.in_ok-next.behind c.in_ok-next.next c.sessions.auto.count-fits c.len-count.ensures
    c.in_ok-next.ensures

pub sessions-smaller : goal.sessions-smaller
sessions-smaller c =
    session_is_shorter c.sessions.count (names_of c.as_slice.result.now) c.sessions.rest c.in_ok-next.behind c.in_ok-next.next c.in_ok-next.ensures

pub sessions-preserved : goal.sessions-preserved
sessions-preserved c =
    let total = read_all_sessions c.args.before c.args.tokens.now in
    let begun : begins (Heading Session ∷ []) c.sessions.rest ≡ true = search rules in
    let free : RefusesSo (refused_sessions (length c.sessions.found)) (Ok c.in_ok-refuse_sessions.field-0) c.sessions.rest =
    subst (λ n. RefusesSo (refused_sessions n) (Ok c.in_ok-refuse_sessions.field-0) c.sessions.rest) c.len.ensures c.in_ok-refuse_sessions.ensures in
    let read : read_session c.sessions.count (names_of c.sessions.found) c.sessions.rest ≡ Read c.in_ok-next.next c.in_ok-next.behind =
    subst (λ (found : List SessionText). read_session c.sessions.count (names_of found) c.sessions.rest ≡ Read c.in_ok-next.next c.in_ok-next.behind) c.as_slice.ensures
    c.in_ok-next.ensures in
    let pushed : c.push.new.self ≡ c.sessions.found ++ c.in_ok-next.next ∷ [] = c.in_ok-push.ensures.ok in
    let counted : c.len-count.result ≡ length c.in_ok-next.next.statements = c.len-count.ensures in
    subst (λ (n : ℕ). AreSessions (c.sessions.count + n) c.push.new.self c.in_ok-next.behind total) (sym counted)
    (subst (λ found. AreSessions (c.sessions.count + length c.in_ok-next.next.statements) found c.in_ok-next.behind total) (sym pushed)
    (sessions_go_on c.in_ok-refuse_sessions.field-0 c.sessions.count c.sessions.found c.in_ok-next.next c.sessions.rest c.in_ok-next.behind total c.sessions.invariant free begun
    read))
