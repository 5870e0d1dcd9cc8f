-- Parts of the rules of a function's code that have a function of their own.
use Rattle.std.specs.Prelude.{ℕ, List, [], ◌∷◌, Option, codes}
use Rattle.aq_base.specs.declared.expr.Expr.{Expr}
use Rattle.aq_base.specs.declared.body.BodyStatement.{BodyStatement}
use Rattle.aq_base.specs.declared.body.Returned.{Returned}
use Rattle.aq_base.specs.declared.body.ElseIf.{ElseIf}
use Rattle.aq_base.specs.declared.body.Condition.{Condition}
use Rattle.aq_base.specs.declared.body.Handler.{Handler}
use Rattle.aq_base.specs.declared.body.BodyStatement.TheVariants.{Insert, Update, Delete, SetConstraints}
use Rattle.aq_base.specs.declared.body.Returned.TheVariants.{Null, New, Old}
use Rattle.aq_lex.specs.declared.token.Symbol.TheVariants.{Semicolon}
use Rattle.aq_grammar.specs.declared.scope.Scope.TheVariants.{InCode}
use Rattle.aq_grammar.specs.Terminals.{Terminal, Keyword, Sign}
use Rattle.aq_grammar.specs.Rules.{Rule, Both, Either, Many}
use Rattle.aq_grammar.specs.Forms.{word, sign, ◌▸◌, ◌◂◌, mapped, says, optional}
use Rattle.aq_grammar.specs.Changes.{insert, update, delete, set_constraints}
use Rattle.aq_grammar.specs.Expressions.{whole_expression}
use Rattle.aq_grammar.specs.Bodies.{raise, return_, body_statement, else_if, condition, conditions, handler, body, block_of}

abbrev pub returned : Rule Returned
returned = Either (Keyword (codes "null") ∷ []) (says (codes "null") Null) (Either (Keyword (codes "new") ∷ []) (says (codes "new") New) (says (codes "old") Old))

abbrev pub insert_in_body : Rule BodyStatement
insert_in_body = mapped Insert (insert InCode)

abbrev pub update_in_body : Rule BodyStatement
update_in_body = mapped Update (update InCode)

abbrev pub delete_in_body : Rule BodyStatement
delete_in_body = mapped Delete (delete InCode)

abbrev pub set_in_body : Rule BodyStatement
set_in_body = mapped SetConstraints set_constraints

-- a block as a statement
abbrev pub block_in_body : ℕ → Rule BodyStatement
block_in_body room = mapped block_of (body room)

-- a statement but IF and a block
abbrev pub plain_statement : Rule BodyStatement
plain_statement =
    Either (Keyword (codes "raise") ∷ []) raise
    (Either (Keyword (codes "return") ∷ []) return_
    (Either (Keyword (codes "insert") ∷ []) insert_in_body
    (Either (Keyword (codes "update") ∷ []) update_in_body (Either (Keyword (codes "delete") ∷ []) delete_in_body set_in_body))))

-- the condition of an IF or an ELSIF
abbrev pub condition_then : Rule Expr
condition_then = whole_expression InCode ◂ word (codes "then")

-- a statement with its semicolon
abbrev pub ended_statement : ℕ → Rule BodyStatement
ended_statement room = body_statement room ◂ sign Semicolon

abbrev pub else_ifs : ℕ → Rule (List ElseIf)
else_ifs room = Many (Keyword (codes "elsif") ∷ []) [] (λ branches. branches) (else_if room)

-- a semicolon, where it is there
abbrev pub semicolon : Rule (Option (Unit {0}))
semicolon = optional (Sign Semicolon ∷ []) (sign Semicolon)

-- at least one, and each behind the first begins so
abbrev pub some : {A : Type 0} → Terminal → Rule A → Rule A → Rule (List A)
some kind first next = Both (λ x others. x ∷ others) first (Many (kind ∷ []) [] (λ others. others) next)

-- one more condition of a handler
abbrev pub or_condition : Rule Condition
or_condition = word (codes "or") ▸ condition

-- the conditions of a handler, and THEN
abbrev pub conditions_then : Rule (List Condition)
conditions_then = conditions ◂ word (codes "then")

abbrev pub some_handlers : ℕ → Rule (List Handler)
some_handlers room = some (Keyword (codes "when")) (handler room) (handler room)
