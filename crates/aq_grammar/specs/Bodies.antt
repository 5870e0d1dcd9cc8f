-- The code of a trigger's function (PostgreSQL manual, chapter "PL/pgSQL").
--     code      = $$ block [;] $$
--     block     = BEGIN {statement ;} [EXCEPTION handler {handler}] END
--     handler   = WHEN condition {OR condition} THEN {statement ;}
--     condition = OTHERS | SQLSTATE text | unique_violation | foreign_key_violation | not_null_violation | raise_exception
--               | serialization_failure | deadlock_detected
--     statement = IF expression THEN {statement ;} {ELSIF expression THEN {statement ;}} [ELSE {statement ;}] END IF
--               | RAISE EXCEPTION text | RETURN (NULL | NEW | OLD) | insert | update | delete | set | block
use Rattle.std.specs.Prelude.{ℕ, zero, suc, List, [], ◌∷◌, Option, codes}
use Rattle.aq_base.specs.Names.{Text as Bytes}
use Rattle.aq_lex.specs.declared.token.Symbol.TheVariants.{Semicolon, DollarQuote}
use Rattle.aq_grammar.specs.Terminals.{Terminal, Keyword, Message, StateCode, Sign, text_of}
use Rattle.aq_grammar.specs.Rules.{Rule, Refusal, Done, Token, Both, Either, Many, Call, Block}
use Rattle.aq_grammar.specs.declared.scope.Scope.TheVariants.{InCode}
use Rattle.aq_grammar.specs.Forms.{word, sign, ◌▸◌, ◌◂◌, mapped, says, optional, limit, refuse_word}
use Rattle.aq_grammar.specs.Expressions.{whole_expression}
use Rattle.aq_grammar.specs.Changes.{insert, update, delete, set_constraints}
use Rattle.aq_base.specs.declared.expr.Expr.{Expr}
use Rattle.aq_base.specs.declared.body.BodyStatement.{BodyStatement}
use Rattle.aq_base.specs.declared.body.ElseIf.{ElseIf}
use Rattle.aq_base.specs.declared.body.Body.{Body}
use Rattle.aq_base.specs.declared.body.Handler.{Handler}
use Rattle.aq_base.specs.declared.body.Condition.{Condition}
use Rattle.aq_base.specs.declared.body.Condition.TheVariants.{Others, SqlState, UniqueViolation, ForeignKeyViolation, NotNullViolation, RaiseException, SerializationFailure, DeadlockDetected}
use Rattle.aq_base.specs.declared.body.BodyStatement.TheVariants.{If, Raise, Return, Block as Block_in_body, Insert as Insert_in_body, Update as Update_in_body, Delete as Delete_in_body, SetConstraints as Set_in_body}
use Rattle.aq_base.specs.declared.body.Returned.TheVariants.{Null as Null_row, New as New_row, Old as Old_row}

-- statements that stand nowhere
abbrev pub unsupported_statements : List Refusal
unsupported_statements =
    refuse_word (codes "truncate") (codes "TRUNCATE is not supported") ∷ refuse_word (codes "merge") (codes "MERGE is not supported")
    ∷ refuse_word (codes "prepare") (codes "PREPARE TRANSACTION is not supported") ∷ []

-- an IF or a block, where 100 are open
abbrev pub opens_too_many : Bytes → Refusal
opens_too_many text = record { words = Keyword text ∷ []; fault = limit (codes "IF nesting limit of 100 reached") }

-- what is refused where a statement may begin, where so many more IFs and blocks may be opened
abbrev pub refused_in_code : ℕ → List Refusal
refused_in_code zero = opens_too_many (codes "if") ∷ opens_too_many (codes "begin") ∷ unsupported_statements
refused_in_code (suc room) = unsupported_statements

abbrev pub less_room : ℕ → ℕ
less_room zero = zero
less_room (suc room) = room

abbrev pub inner_block : ℕ → Rule (List BodyStatement)
inner_block room = Call (Block (less_room room)) (λ statements. statements)

abbrev pub branch : Expr → List BodyStatement → ElseIf
branch condition statements = record { condition = condition; then = statements }

unfoldable pub else_if : ℕ → Rule ElseIf
else_if room = word (codes "elsif") ▸ Both branch (whole_expression InCode) (word (codes "then") ▸ inner_block room)

unfoldable pub otherwise : ℕ → Rule (Option (List BodyStatement))
otherwise room = optional (Keyword (codes "else") ∷ []) (word (codes "else") ▸ inner_block room)

abbrev pub if_of : Expr → List BodyStatement × (List ElseIf × Option (List BodyStatement)) → BodyStatement
if_of condition (statements, (else_ifs, otherwise)) = If condition statements else_ifs otherwise

unfoldable pub if_statement : ℕ → Rule BodyStatement
if_statement room =
    word (codes "if")
    ▸ Both if_of (whole_expression InCode)
    (word (codes "then") ▸ Both (λ statements others. (statements, others)) (inner_block room)
    (Both (λ else_ifs otherwise. (else_ifs, otherwise)) (Many (Keyword (codes "elsif") ∷ []) [] (λ branches. branches) (else_if room)) (otherwise room)
    ◂ word (codes "end") ◂ word (codes "if")))

-- a condition that has a name
abbrev pub condition_word : Bytes → Condition → Rule Condition → Rule Condition
condition_word text condition others = Either (Keyword text ∷ []) (says text condition) others

unfoldable pub condition : Rule Condition
condition =
    condition_word (codes "others") Others
    (Either (Keyword (codes "sqlstate") ∷ []) (word (codes "sqlstate") ▸ Token StateCode (λ token. SqlState (record { 0 = text_of token })))
    (condition_word (codes "unique_violation") UniqueViolation (condition_word (codes "foreign_key_violation") ForeignKeyViolation
    (condition_word (codes "not_null_violation") NotNullViolation (condition_word (codes "raise_exception") RaiseException
    (condition_word (codes "serialization_failure") SerializationFailure (says (codes "deadlock_detected") DeadlockDetected)))))))

unfoldable pub conditions : Rule (List Condition)
conditions = Both (λ first others. first ∷ others) condition (Many (Keyword (codes "or") ∷ []) [] (λ others. others) (word (codes "or") ▸ condition))

abbrev pub handler_of : List Condition → List BodyStatement → Handler
handler_of conditions statements = record { conditions = conditions; statements = statements }

unfoldable pub handler : ℕ → Rule Handler
handler room = word (codes "when") ▸ Both handler_of conditions (word (codes "then") ▸ inner_block room)

unfoldable pub handlers : ℕ → Rule (List Handler)
handlers room =
    Either (Keyword (codes "exception") ∷ [])
    (word (codes "exception") ▸ Both (λ first others. first ∷ others) (handler room) (Many (Keyword (codes "when") ∷ []) [] (λ others. others) (handler room)))
    (Done [])

abbrev pub body_of : List BodyStatement → List Handler → Body
body_of statements handlers = record { statements = statements; handlers = handlers }

-- a block, with which so many more IFs and blocks may be opened
unfoldable pub body : ℕ → Rule Body
body room = word (codes "begin") ▸ (Both body_of (inner_block room) (handlers room) ◂ word (codes "end"))

abbrev pub block_of : Body → BodyStatement
block_of body = Block_in_body body.statements body.handlers

unfoldable pub raise : Rule BodyStatement
raise = word (codes "raise") ▸ word (codes "exception") ▸ Token Message (λ token. Raise (text_of token))

unfoldable pub return_ : Rule BodyStatement
return_ =
    word (codes "return")
    ▸ mapped Return (Either (Keyword (codes "null") ∷ []) (says (codes "null") Null_row) (Either (Keyword (codes "new") ∷ []) (says (codes "new") New_row) (says (codes "old") Old_row)))

unfoldable pub body_statement : ℕ → Rule BodyStatement
body_statement room =
    Either (Keyword (codes "if") ∷ []) (if_statement room)
    (Either (Keyword (codes "begin") ∷ []) (mapped block_of (body room))
    (Either (Keyword (codes "raise") ∷ []) raise
    (Either (Keyword (codes "return") ∷ []) return_
    (Either (Keyword (codes "insert") ∷ []) (mapped Insert_in_body (insert InCode))
    (Either (Keyword (codes "update") ∷ []) (mapped Update_in_body (update InCode))
    (Either (Keyword (codes "delete") ∷ []) (mapped Delete_in_body (delete InCode)) (mapped Set_in_body set_constraints)))))))

abbrev pub body_words : List Terminal
body_words =
    Keyword (codes "if") ∷ Keyword (codes "begin") ∷ Keyword (codes "raise") ∷ Keyword (codes "return") ∷ Keyword (codes "insert") ∷ Keyword (codes "update")
    ∷ Keyword (codes "delete") ∷ Keyword (codes "set") ∷ []

unfoldable pub block : ℕ → Rule (List BodyStatement)
block room = Many body_words (refused_in_code room) (λ statements. statements) (body_statement room ◂ sign Semicolon)

-- 100 IFs and blocks may be open, the outermost block among them
unfoldable pub code : Rule Body
code = sign DollarQuote ▸ (body 100 ◂ optional (Sign Semicolon ∷ []) (sign Semicolon) ◂ sign DollarQuote)
