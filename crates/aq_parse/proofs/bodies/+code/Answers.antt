use Rattle.std.proofs.Common.{rules, ◌≡◌, ◌≤◌, ◌<◌, ◌∷◌, ◌++◌, [], length, codes, true, false, Err, None, sym, subst, arith}
use Rattle.aq_grammar.specs.Terminals.{Keyword, begins}
use Rattle.aq_grammar.specs.Rules.{refused}
use Rattle.aq_grammar.specs.Bodies.{body_words, refused_in_code, else_if, handler}
use Rattle.aq_grammar.specs.Reading.{Read}
use Rattle.aq_grammar.specs.Nonterminals.{reads}
use Rattle.aq_grammar.specs.Shorter.{token_is_shorter}
use Rattle.aq_grammar.specs.Steps.{Fails, RefusesSo}
use Rattle.aq_grammar.proofs.Loops.{gives_fault}
use Rattle.aq_parse.specs.Bodies.{ended_statement}
use Rattle.aq_parse.proofs.Blocks.{IsBlock, AreElseIfs, is_free_in_code, block_begins, block_goes_on, block_fails, block_refused, block_refused_behind, ended_is_shorter, else_if_is_shorter, else_ifs_go_on, else_ifs_are_no_longer, condition_leaves, conditions_leave, block_leaves, AreSome, some_begin, some_go_on, some_fail_first, some_fail, some_end, handler_is_shorter}
use Rattle.aq_parse.proofs.bodies.+code.Goals as goal

pub block-returns-in_err-refuse_in_code : goal.block-returns-in_err-refuse_in_code
block-returns-in_err-refuse_in_code t c =
    let is_fault : c.from_residual.result ≡ Err c.in_err-refuse_in_code.field-0.0 = search rules in
    let refuses : RefusesSo (refused_in_code c.args.room) (Err c.in_err-refuse_in_code.field-0.0) c.args.tokens.now =
    subst (λ tokens. RefusesSo (refused_in_code c.args.room) (Err c.in_err-refuse_in_code.field-0.0) tokens) c.copied-rest.ensures c.in_err-refuse_in_code.ensures in
    gives_fault (λ x. x) c.from_residual.result c.in_err-refuse_in_code.field-0.0 _ is_fault
    (block_refused c.args.room c.in_err-refuse_in_code.field-0.0 c.args.tokens.now refuses)

pub block-statements-init : goal.block-statements-init
block-statements-init t c =
    let none : c.new-statements.result ≡ [] = c.new-statements.ensures in
    let same : c.copied-rest.result ≡ c.args.tokens.now = c.copied-rest.ensures in
    let free : refused (refused_in_code c.args.room) c.copied-rest.result ≡ None =
    is_free_in_code c.args.room c.in_ok-refuse_in_code.field-0 c.copied-rest.result c.in_ok-refuse_in_code.ensures in
    subst (λ statements. IsBlock c.args.room c.args.tokens.now c.copied-rest.result statements) (sym none)
    (subst (λ tokens. IsBlock c.args.room tokens c.copied-rest.result []) same (block_begins c.args.room c.copied-rest.result free))

pub block-returns-in_err-next : goal.block-returns-in_err-next
block-returns-in_err-next t c =
    let is_fault : c.from_residual-in_err-next.result ≡ Err c.in_err-next.field-0.0 = search rules in
    let begun : begins body_words c.statements.rest ≡ true = search rules in
    let fails : Fails c.in_err-next.field-0.0 (reads (ended_statement c.args.room) c.statements.rest) = c.in_err-next.ensures in
    gives_fault (λ x. x) c.from_residual-in_err-next.result c.in_err-next.field-0.0 _ is_fault
    (block_fails c.args.room c.in_err-next.field-0.0 c.args.tokens.now c.statements.rest c.statements.statements c.statements.invariant begun fails)

pub block-returns-in_err-refuse_in_code-2 : goal.block-returns-in_err-refuse_in_code-2
block-returns-in_err-refuse_in_code-2 t c =
    let is_fault : c.from_residual-in_err-refuse_in_code-2.result ≡ Err c.in_err-refuse_in_code-2.field-0.0 = search rules in
    let begun : begins body_words c.statements.rest ≡ true = search rules in
    let read : reads (ended_statement c.args.room) c.statements.rest ≡ Read c.in_ok-next.next c.in_ok-next.after = c.in_ok-next.ensures in
    let refuses : RefusesSo (refused_in_code c.args.room) (Err c.in_err-refuse_in_code-2.field-0.0) c.in_ok-next.after = c.in_err-refuse_in_code-2.ensures in
    gives_fault (λ x. x) c.from_residual-in_err-refuse_in_code-2.result c.in_err-refuse_in_code-2.field-0.0 _ is_fault
    (block_refused_behind c.args.room c.in_err-refuse_in_code-2.field-0.0 c.args.tokens.now c.statements.rest c.in_ok-next.after c.statements.statements c.in_ok-next.next
    c.statements.invariant begun read refuses)

pub block-statements-smaller : goal.block-statements-smaller
block-statements-smaller t c =
    let read : reads (ended_statement c.args.room) c.statements.rest ≡ Read c.in_ok-next.next c.in_ok-next.after = c.in_ok-next.ensures in
    ended_is_shorter c.args.room c.statements.rest c.in_ok-next.after c.in_ok-next.next read

pub block-statements-preserved : goal.block-statements-preserved
block-statements-preserved t c =
    let begun : begins body_words c.statements.rest ≡ true = search rules in
    let read : reads (ended_statement c.args.room) c.statements.rest ≡ Read c.in_ok-next.next c.in_ok-next.after = c.in_ok-next.ensures in
    let pushed : c.push.new.self ≡ c.statements.statements ++ c.in_ok-next.next ∷ [] = search rules in
    let free : refused (refused_in_code c.args.room) c.in_ok-next.after ≡ None =
    is_free_in_code c.args.room c.in_ok-refuse_in_code-2.field-0 c.in_ok-next.after c.in_ok-refuse_in_code-2.ensures in
    subst (λ statements. IsBlock c.args.room c.args.tokens.now c.in_ok-next.after statements) (sym pushed)
    (block_goes_on c.args.room c.args.tokens.now c.statements.rest c.in_ok-next.after c.statements.statements c.in_ok-next.next c.statements.invariant begun read free)

pub else_if-block-requires : goal.else_if-block-requires
else_if-block-requires t c =
    let first : length c.in_ok-rest.rest < length c.args.tokens.now = token_is_shorter (Keyword (codes "elsif")) (λ token. tt) c.args.tokens.now c.in_ok-rest.rest tt c.in_ok-rest.ensures in
    let then : length c.in_ok-condition.rest ≤ length c.in_ok-rest.rest = condition_leaves c.in_ok-rest.rest c.in_ok-condition.rest c.in_ok-condition.condition c.in_ok-condition.ensures in
    (omega arith, tt)

pub else_ifs-branches-smaller : goal.else_ifs-branches-smaller
else_ifs-branches-smaller t c =
    let read : reads (else_if c.args.room) c.branches.rest ≡ Read c.in_ok-next.next c.in_ok-next.after = c.in_ok-next.ensures in
    else_if_is_shorter c.args.room c.branches.rest c.in_ok-next.after c.in_ok-next.next read

pub else_ifs-branches-preserved : goal.else_ifs-branches-preserved
else_ifs-branches-preserved t c =
    let begun : begins (Keyword (codes "elsif") ∷ []) c.branches.rest ≡ true = search rules in
    let read : reads (else_if c.args.room) c.branches.rest ≡ Read c.in_ok-next.next c.in_ok-next.after = c.in_ok-next.ensures in
    let pushed : c.push.new.self ≡ c.branches.branches ++ c.in_ok-next.next ∷ [] = search rules in
    subst (λ branches. AreElseIfs c.args.room c.args.tokens.now c.in_ok-next.after branches) (sym pushed)
    (else_ifs_go_on c.args.room c.args.tokens.now c.branches.rest c.in_ok-next.after c.branches.branches c.in_ok-next.next c.branches.invariant begun read)

pub if_statement-block-requires : goal.if_statement-block-requires
if_statement-block-requires t c =
    let first : length c.in_ok-rest.rest < length c.args.tokens.now = token_is_shorter (Keyword (codes "if")) (λ token. tt) c.args.tokens.now c.in_ok-rest.rest tt c.in_ok-rest.ensures in
    let then : length c.in_ok-condition.rest ≤ length c.in_ok-rest.rest = condition_leaves c.in_ok-rest.rest c.in_ok-condition.rest c.in_ok-condition.condition c.in_ok-condition.ensures in
    (omega arith, tt)

pub if_statement-else_ifs-requires : goal.if_statement-else_ifs-requires
if_statement-else_ifs-requires t c =
    let first : length c.in_ok-rest.rest < length c.args.tokens.now = token_is_shorter (Keyword (codes "if")) (λ token. tt) c.args.tokens.now c.in_ok-rest.rest tt c.in_ok-rest.ensures in
    let then : length c.in_ok-condition.rest ≤ length c.in_ok-rest.rest = condition_leaves c.in_ok-rest.rest c.in_ok-condition.rest c.in_ok-condition.condition c.in_ok-condition.ensures in
    let behind : length c.in_ok-then.rest ≤ length c.in_ok-condition.rest = block_leaves c.less_room.result c.in_ok-condition.rest c.in_ok-then.rest c.in_ok-then.then c.in_ok-then.ensures in
    (omega arith, tt)

pub if_statement-otherwise-requires : goal.if_statement-otherwise-requires
if_statement-otherwise-requires t c =
    let first : length c.in_ok-rest.rest < length c.args.tokens.now = token_is_shorter (Keyword (codes "if")) (λ token. tt) c.args.tokens.now c.in_ok-rest.rest tt c.in_ok-rest.ensures in
    let then : length c.in_ok-condition.rest ≤ length c.in_ok-rest.rest = condition_leaves c.in_ok-rest.rest c.in_ok-condition.rest c.in_ok-condition.condition c.in_ok-condition.ensures in
    let behind : length c.in_ok-then.rest ≤ length c.in_ok-condition.rest = block_leaves c.less_room.result c.in_ok-condition.rest c.in_ok-then.rest c.in_ok-then.then c.in_ok-then.ensures in
    let last : length c.in_ok-else_ifs.rest ≤ length c.in_ok-then.rest =
    else_ifs_are_no_longer c.args.room c.in_ok-then.rest c.in_ok-else_ifs.rest c.in_ok-else_ifs.else_ifs c.in_ok-else_ifs.ensures in
    (omega arith, tt)

pub some_handlers-returns-in_err-first : goal.some_handlers-returns-in_err-first
some_handlers-returns-in_err-first t c =
    let is_fault : c.from_residual.result ≡ Err c.in_err-first.field-0.0 = search rules in
    gives_fault (λ x. x) c.from_residual.result c.in_err-first.field-0.0 _ is_fault
    (some_fail_first (Keyword (codes "when")) (handler c.args.room) (handler c.args.room) c.in_err-first.field-0.0 c.args.tokens.now c.in_err-first.ensures)

pub some_handlers-handlers-init : goal.some_handlers-handlers-init
some_handlers-handlers-init t c =
    let pushed : c.push.new.self ≡ c.in_ok-first.first ∷ [] = search rules in
    subst (λ found. AreSome (Keyword (codes "when")) (handler c.args.room) (handler c.args.room) c.args.tokens.now c.in_ok-first.rest found) (sym pushed)
    (some_begin (Keyword (codes "when")) (handler c.args.room) (handler c.args.room) c.args.tokens.now c.in_ok-first.rest c.in_ok-first.first c.in_ok-first.ensures)

pub some_handlers-returns-in_err-next : goal.some_handlers-returns-in_err-next
some_handlers-returns-in_err-next t c =
    let is_fault : c.from_residual-in_err-next.result ≡ Err c.in_err-next.field-0.0 = search rules in
    let begun : begins ((Keyword (codes "when")) ∷ []) c.handlers.rest ≡ true = search rules in
    gives_fault (λ x. x) c.from_residual-in_err-next.result c.in_err-next.field-0.0 _ is_fault
    (some_fail (Keyword (codes "when")) (handler c.args.room) (handler c.args.room) c.in_err-next.field-0.0 c.args.tokens.now c.handlers.rest c.handlers.found c.handlers.invariant begun c.in_err-next.ensures)

pub some_handlers-handlers-preserved : goal.some_handlers-handlers-preserved
some_handlers-handlers-preserved t c =
    let begun : begins ((Keyword (codes "when")) ∷ []) c.handlers.rest ≡ true = search rules in
    let pushed : c.push-in-handlers.new.self ≡ c.handlers.found ++ c.in_ok-next.next ∷ [] = search rules in
    subst (λ found. AreSome (Keyword (codes "when")) (handler c.args.room) (handler c.args.room) c.args.tokens.now c.in_ok-next.after found) (sym pushed)
    (some_go_on (Keyword (codes "when")) (handler c.args.room) (handler c.args.room) c.args.tokens.now c.handlers.rest c.in_ok-next.after c.handlers.found c.in_ok-next.next c.handlers.invariant begun c.in_ok-next.ensures
    (handler_is_shorter c.args.room c.handlers.rest c.in_ok-next.after c.in_ok-next.next c.in_ok-next.ensures))

pub some_handlers-handlers-smaller : goal.some_handlers-handlers-smaller
some_handlers-handlers-smaller t c = handler_is_shorter c.args.room c.handlers.rest c.in_ok-next.after c.in_ok-next.next c.in_ok-next.ensures

pub some_handlers-returns : goal.some_handlers-returns
some_handlers-returns t c =
    let ended : begins ((Keyword (codes "when")) ∷ []) c.handlers.rest ≡ false = search rules in
    some_end (Keyword (codes "when")) (handler c.args.room) (handler c.args.room) c.args.tokens.now c.handlers.rest c.handlers.found c.handlers.invariant ended

pub some_handlers-handler-requires-in-handlers : goal.some_handlers-handler-requires-in-handlers
some_handlers-handler-requires-in-handlers t c =
    let most : length c.handlers.rest ≤ length c.args.tokens.now = c.handlers.invariant.no_longer in
    (omega arith, tt)

pub handler-block-requires : goal.handler-block-requires
handler-block-requires t c =
    let first : length c.in_ok-rest.rest < length c.args.tokens.now = token_is_shorter (Keyword (codes "when")) (λ token. tt) c.args.tokens.now c.in_ok-rest.rest tt c.in_ok-rest.ensures in
    let then : length c.in_ok-conditions.rest ≤ length c.in_ok-rest.rest = conditions_leave c.in_ok-rest.rest c.in_ok-conditions.rest c.in_ok-conditions.conditions c.in_ok-conditions.ensures in
    (omega arith, tt)

pub handlers-some_handlers-requires : goal.handlers-some_handlers-requires
handlers-some_handlers-requires t c =
    let first : length c.in_ok-rest.rest < length c.args.tokens.now = token_is_shorter (Keyword (codes "exception")) (λ token. tt) c.args.tokens.now c.in_ok-rest.rest tt c.in_ok-rest.ensures in
    (omega arith, tt)

pub body-block-requires : goal.body-block-requires
body-block-requires t c =
    let first : length c.in_ok-rest.rest < length c.args.tokens.now = token_is_shorter (Keyword (codes "begin")) (λ token. tt) c.args.tokens.now c.in_ok-rest.rest tt c.in_ok-rest.ensures in
    (omega arith, tt)

pub body-handlers-requires : goal.body-handlers-requires
body-handlers-requires t c =
    let first : length c.in_ok-rest.rest < length c.args.tokens.now = token_is_shorter (Keyword (codes "begin")) (λ token. tt) c.args.tokens.now c.in_ok-rest.rest tt c.in_ok-rest.ensures in
    let then : length c.in_ok-statements.rest ≤ length c.in_ok-rest.rest = block_leaves c.less_room.result c.in_ok-rest.rest c.in_ok-statements.rest c.in_ok-statements.statements c.in_ok-statements.ensures in
    (omega arith, tt)
