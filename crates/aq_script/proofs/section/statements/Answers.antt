use Rattle.std.proofs.Common.{rules, ◌≡◌, ◌+◌, ◌<◌, ◌∷◌, ◌++◌, [], true, false, sym, subst, Err, arith}
use Rattle.aq_grammar.specs.Terminals.{begins}
use Rattle.aq_grammar.specs.Reading.{Read}
use Rattle.aq_grammar.specs.Steps.{Fails}
use Rattle.aq_grammar.proofs.Loops.{gives_fault}
use Rattle.aq_script.specs.Sections.{kinds_of, statement_limit}
use Rattle.aq_script.specs.Parsing.{section_of, read_placed, read_all_statements}
use Rattle.aq_script.proofs.ReadStatements.{AreStatements, section_fits, others_are_free, has_room, statements_begin, statements_refuse, statements_fail, statements_go_on, statements_end}
use Rattle.aq_script.proofs.Shorter.{placed_is_shorter}
use Rattle.aq_script.proofs.section.statements.Goals as goal

pub statements-init : goal.statements-init
statements-init c =
    let none : c.new-found.result ≡ [] = c.new-found.ensures in
    let same : c.copied-rest.result ≡ c.args.tokens.now = c.copied-rest.ensures in
    subst (λ found. AreStatements (section_of c.args.place) c.args.before found c.copied-rest.result (read_all_statements (section_of c.args.place) c.args.before c.args.tokens.now))
    (sym none)
    (subst (λ tokens. AreStatements (section_of c.args.place) c.args.before [] c.copied-rest.result (read_all_statements (section_of c.args.place) c.args.before tokens)) same
    (statements_begin (section_of c.args.place) c.args.before c.copied-rest.result))

pub returns-in_err-refuse_behind : goal.returns-in_err-refuse_behind
returns-in_err-refuse_behind c =
    let is_fault : c.from_residual.result ≡ Err c.in_err-refuse_behind.field-0.0 = search rules in
    gives_fault (λ x. x) c.from_residual.result c.in_err-refuse_behind.field-0.0 _ is_fault
    (statements_refuse (section_of c.args.place) c.in_err-refuse_behind.field-0.0 c.statements.count c.statements.found c.statements.rest _ c.statements.invariant
    c.in_err-refuse_behind.ensures)

pub returns-then-not-begins_statement : goal.returns-then-not-begins_statement
returns-then-not-begins_statement c =
    let ended : begins (kinds_of (section_of c.args.place)) c.statements.rest ≡ false = search rules in
    statements_end (section_of c.args.place) c.in_ok-refuse_behind.field-0 c.statements.count c.statements.found c.statements.rest _ c.statements.invariant
    c.in_ok-refuse_behind.ensures ended

pub returns-in_err-next : goal.returns-in_err-next
returns-in_err-next c =
    let is_fault : c.from_residual-in_err-next.result ≡ Err c.in_err-next.field-0.0 = search rules in
    let begun : begins (kinds_of (section_of c.args.place)) c.statements.rest ≡ true = search rules in
    let free = others_are_free (section_of c.args.place) c.in_ok-refuse_behind.field-0 c.statements.count c.statements.rest c.in_ok-refuse_behind.ensures in
    let fails : Fails c.in_err-next.field-0.0 (read_placed (section_of c.args.place) c.statements.rest) = c.in_err-next.ensures free in
    gives_fault (λ x. x) c.from_residual-in_err-next.result c.in_err-next.field-0.0 _ is_fault
    (statements_fail (section_of c.args.place) c.in_err-next.field-0.0 c.in_ok-refuse_behind.field-0 c.statements.count c.statements.found c.statements.rest _
    c.statements.invariant c.in_ok-refuse_behind.ensures begun fails)

pub overflow_add-count : goal.overflow_add-count
overflow_add-count c =
    let begun : begins (kinds_of (section_of c.args.place)) c.statements.rest ≡ true = search rules in
    let room : c.statements.count < statement_limit =
    has_room (section_of c.args.place) c.in_ok-refuse_behind.field-0 c.statements.count c.statements.rest c.in_ok-refuse_behind.ensures begun in
    omega (arith, room)

pub statements-smaller : goal.statements-smaller
statements-smaller c =
    let free = others_are_free (section_of c.args.place) c.in_ok-refuse_behind.field-0 c.statements.count c.statements.rest c.in_ok-refuse_behind.ensures in
    placed_is_shorter (section_of c.args.place) (section_fits c.args.place) c.statements.rest c.in_ok-next.behind c.in_ok-next.next (c.in_ok-next.ensures free)

pub statements-preserved : goal.statements-preserved
statements-preserved c =
    let begun : begins (kinds_of (section_of c.args.place)) c.statements.rest ≡ true = search rules in
    let free = others_are_free (section_of c.args.place) c.in_ok-refuse_behind.field-0 c.statements.count c.statements.rest c.in_ok-refuse_behind.ensures in
    let read : read_placed (section_of c.args.place) c.statements.rest ≡ Read c.in_ok-next.next c.in_ok-next.behind = c.in_ok-next.ensures free in
    let pushed : c.push.new.self ≡ c.statements.found ++ c.in_ok-next.next ∷ [] = c.in_ok-push.ensures.ok in
    subst
    (λ found. AreStatements (section_of c.args.place) (c.statements.count + 1) found c.in_ok-next.behind (read_all_statements (section_of c.args.place) c.args.before c.args.tokens.now))
    (sym pushed)
    (statements_go_on (section_of c.args.place) (section_fits c.args.place) c.in_ok-refuse_behind.field-0 c.statements.count c.statements.found c.in_ok-next.next c.statements.rest
    c.in_ok-next.behind _ c.statements.invariant c.in_ok-refuse_behind.ensures begun read)
