use Rattle.std.proofs.Common.{rules, ◌≡◌, List, [], ◌∷◌, ◌++◌, ◌∙◌, ap, sym, append_assoc, take, take_all, map, codes, Option}
use Rattle.std.specs.List.{flat_map}
use Rattle.std.proofs.lemmas.List.Folds.{flat_map-map}
use Rattle.aq_base.specs.declared.expr.Expr.{Expr}
use Rattle.aq_base.specs.declared.body.BodyStatement.{BodyStatement}
use Rattle.aq_base.specs.declared.body.BodyStatement.TheVariants.{If}
use Rattle.aq_base.specs.declared.body.ElseIf.{ElseIf}
use Rattle.aq_lex.specs.declared.token.Symbol.TheVariants.{Semicolon}
use Rattle.aq_texts.specs.Written.{Written, say, Mark, Literal}
use Rattle.aq_texts.specs.Canon.{perhaps, expression, block, body_statement, else_if, handler, exception}
use Rattle.aq_texts.proofs.Bodies.{raise_is, if_is, else_if_is, block_is, exception_of_some}
use Rattle.aq_print.specs.Printing.{Printed, put_all}
use Rattle.aq_print.proofs.Printing.{put_all_next, behind_token, behind_tokens, on_ok}
use Rattle.aq_print.proofs.bodies.+bodies.Goals as goal

-- IF or ELSIF up to THEN, and what stands behind it
up_to_then : (before now : Printed) (word : Written) (condition : Expr) (more : List Written)
    → now ≡ put_all before (word ∷ (expression condition ++ say (codes "THEN") ∷ []))
    → put_all now more ≡ put_all before (word ∷ (expression condition ++ say (codes "THEN") ∷ more))
up_to_then before now word condition more put_them =
    behind_tokens before now (word ∷ (expression condition ++ say (codes "THEN") ∷ [])) more put_them
    ∙ ap (λ (tokens : List Written). put_all before (word ∷ tokens)) (append_assoc (expression condition) (say (codes "THEN") ∷ []) more)

abbrev otherwise : Option (List BodyStatement) → List Written
otherwise last = perhaps (λ found. say (codes "ELSE") ∷ block found) last

abbrev end_if : List Written
end_if = say (codes "END") ∷ say (codes "IF") ∷ []

-- what stands behind the ELSIFs is put last
puts_if : (before headed begun now : Printed) (condition : Expr) (first : List BodyStatement) (others : List ElseIf) (last : Option (List BodyStatement)) (s : BodyStatement)
    → s ≡ If condition first others last → headed ≡ put_all before (say (codes "IF") ∷ (expression condition ++ say (codes "THEN") ∷ []))
    → begun ≡ put_all headed (block first) → now ≡ put_all begun (flat_map else_if others)
    → put_all now (otherwise last ++ end_if) ≡ put_all before (body_statement s)
puts_if before headed begun now condition first others last s is heads begins goes_on =
    behind_tokens begun now (flat_map else_if others) (otherwise last ++ end_if) goes_on
    ∙ behind_tokens headed begun (block first) (flat_map else_if others ++ (otherwise last ++ end_if)) begins
    ∙ up_to_then before headed (say (codes "IF")) condition (block first ++ (flat_map else_if others ++ (otherwise last ++ end_if))) heads
    ∙ ap (λ (tokens : List Written). put_all before tokens) (sym (if_is condition first others last))
    ∙ ap (λ (found : BodyStatement). put_all before (body_statement found)) (sym is)

pub block-loop-statement-preserved : goal.block-loop-statement-preserved
block-loop-statement-preserved t c =
    put_all_next c.args.printer.now c.loop-statement.printer c.mark.new.self (λ s. body_statement s ++ Mark Semicolon ∷ []) c.as_slice-statement-items.result.now
    c.loop-statement.statement-index c.statement-item.result c.loop-statement-test.true c.statement-item.is c.loop-statement.invariant
    (c.in_ok-mark.ensures ∙ behind_tokens c.loop-statement.printer c.body_statement.new.printer (body_statement c.statement-item.result) (Mark Semicolon ∷ []) c.in_ok-body_statement.ensures)

pub block-returns : goal.block-returns
block-returns t c =
    let items : List BodyStatement = c.as_slice-statement-items.result.now in
    let all : take c.loop-statement.statement-index items ≡ c.args.statements.now = take_all c.loop-statement.statement-index items c.loop-statement-test.false ∙ c.as_slice-statement-items.ensures in
    c.loop-statement.invariant
    ∙ ap (λ (found : List BodyStatement). put_all c.args.printer.now (flat_map (λ s. body_statement s ++ Mark Semicolon ∷ []) found)) all
    ∙ ap (put_all c.args.printer.now) (sym (flat_map-map (λ (tokens : List Written). tokens ++ Mark Semicolon ∷ []) body_statement c.args.statements.now))

pub body_statement-returns-in-None : goal.body_statement-returns-in-None
body_statement-returns-in-None t c =
    on_ok _ _ _ _ c.words.ensures (
    ap (λ (last : Option (List BodyStatement)). put_all c.else_ifs.new.printer (otherwise last ++ end_if)) (sym c.in-None.is)
    ∙ puts_if c.args.printer.now c.condition_then.new.printer c.block.new.printer c.else_ifs.new.printer c.in-If.condition c.in-If.then c.in-If.branches c.in-If.last
    c.args.s.now c.in-If.is c.in_ok-condition_then-in-If.ensures c.in_ok-block-in-If.ensures c.in_ok-else_ifs-in-If.ensures)

pub body_statement-returns-in_ok-block-in-Some : goal.body_statement-returns-in_ok-block-in-Some
body_statement-returns-in_ok-block-in-Some t c =
    on_ok _ _ _ _ c.words-in-Some.ensures (
    behind_tokens c.word.new.self c.block-in-Some.new.printer (block c.in-Some.found) end_if c.in_ok-block-in-Some.ensures
    ∙ behind_token c.else_ifs.new.printer c.word.new.self (say (codes "ELSE")) (block c.in-Some.found ++ end_if) c.in_ok-word-in-Some.ensures
    ∙ ap (λ (last : Option (List BodyStatement)). put_all c.else_ifs.new.printer (otherwise last ++ end_if)) (sym c.in-Some.is)
    ∙ puts_if c.args.printer.now c.condition_then.new.printer c.block.new.printer c.else_ifs.new.printer c.in-If.condition c.in-If.then c.in-If.branches c.in-If.last
    c.args.s.now c.in-If.is c.in_ok-condition_then-in-If.ensures c.in_ok-block-in-If.ensures c.in_ok-else_ifs-in-If.ensures)

pub body_statement-returns-in_ok-words-in-Raise : goal.body_statement-returns-in_ok-words-in-Raise
body_statement-returns-in_ok-words-in-Raise t c =
    on_ok _ _ _ _ c.literal.ensures (
    ap (λ (p : Printed). put_all p (Literal c.in-Raise.text ∷ [])) c.in_ok-words-in-Raise.ensures
    ∙ ap (λ (tokens : List Written). put_all c.args.printer.now tokens) (sym (raise_is c.in-Raise.text))
    ∙ ap (λ (s : BodyStatement). put_all c.args.printer.now (body_statement s)) (sym c.in-Raise.is))

pub else_if-returns : goal.else_if-returns
else_if-returns t c =
    on_ok _ _ _ _ c.block.ensures (
    up_to_then c.args.printer.now c.condition_then.new.printer (say (codes "ELSIF")) c.args.branch.now.condition (block c.args.branch.now.then) c.in_ok-condition_then.ensures
    ∙ ap (λ (tokens : List Written). put_all c.args.printer.now tokens) (sym (else_if_is c.args.branch.now)))

pub else_ifs-loop-branch-preserved : goal.else_ifs-loop-branch-preserved
else_ifs-loop-branch-preserved t c =
    put_all_next c.args.printer.now c.loop-branch.printer c.else_if.new.printer else_if c.as_slice-branch-items.result.now
    c.loop-branch.branch-index c.branch-item.result c.loop-branch-test.true c.branch-item.is c.loop-branch.invariant c.in_ok-else_if.ensures

pub each_handler-loop-h-preserved : goal.each_handler-loop-h-preserved
each_handler-loop-h-preserved t c =
    put_all_next c.args.printer.now c.loop-h.printer c.handler.new.printer handler c.as_slice-h-items.result.now
    c.loop-h.h-index c.h-item.result c.loop-h-test.true c.h-item.is c.loop-h.invariant c.in_ok-handler.ensures

pub exception-returns : goal.exception-returns
exception-returns t c =
    let some : c.args.handlers.now ≡ [] → ⊥ = search rules in
    on_ok _ _ _ _ c.each_handler.ensures (
    behind_token c.args.printer.now c.word.new.self (say (codes "EXCEPTION")) (flat_map handler c.args.handlers.now) c.in_ok-word.ensures
    ∙ ap (λ (tokens : List Written). put_all c.args.printer.now tokens) (exception_of_some c.args.handlers.now some))

pub body_statement-returns-in_ok-exception-in-Block : goal.body_statement-returns-in_ok-exception-in-Block
body_statement-returns-in_ok-exception-in-Block t c =
    let statements = c.in-Block.statements in
    let caught : List Written = exception (map handler c.in-Block.handlers) in
    on_ok _ _ _ _ c.word-in-Block-2.ensures (
    behind_tokens c.block-in-Block.new.printer c.exception.new.printer caught (say (codes "END") ∷ []) c.in_ok-exception-in-Block.ensures
    ∙ behind_tokens c.word-in-Block.new.self c.block-in-Block.new.printer (block statements) (caught ++ say (codes "END") ∷ []) c.in_ok-block-in-Block.ensures
    ∙ behind_token c.args.printer.now c.word-in-Block.new.self (say (codes "BEGIN")) (block statements ++ (caught ++ say (codes "END") ∷ [])) c.in_ok-word-in-Block.ensures
    ∙ ap (λ (tokens : List Written). put_all c.args.printer.now tokens) (sym (block_is statements c.in-Block.handlers))
    ∙ ap (λ (s : BodyStatement). put_all c.args.printer.now (body_statement s)) (sym c.in-Block.is))
