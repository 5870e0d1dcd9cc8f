-- How an IF and a block of a code are printed, by the tokens of their parts.
use Rattle.std.proofs.Common.{◌≡◌, List, [], ◌∷◌, ◌++◌, Option, map, flat_map, refl, ap, ap₂, ◌∙◌, codes}
use Rattle.aq_base.specs.declared.expr.Expr.{Expr}
use Rattle.aq_base.specs.declared.body.BodyStatement.{BodyStatement}
use Rattle.aq_base.specs.declared.body.BodyStatement.TheVariants.{If, Block}
use Rattle.aq_base.specs.declared.body.ElseIf.{ElseIf}
use Rattle.aq_base.specs.declared.body.Handler.{Handler}
use Rattle.aq_texts.specs.Written.{Written, say, separated}
use Rattle.aq_texts.specs.Canon.{else_if, handler, condition, exception, begin_end, body_statement, block, expression, perhaps}
use Rattle.aq_texts.proofs.Bodies as texts

abbrev pub else_if_tokens : ElseIf → List Written
else_if_tokens branch = say (codes "ELSIF") ∷ (expression branch.condition ++ say (codes "THEN") ∷ block branch.then)

abbrev pub else_tokens : List BodyStatement → List Written
else_tokens found = say (codes "ELSE") ∷ block found

abbrev pub handler_tokens : Handler → List Written
handler_tokens h = say (codes "WHEN") ∷ (separated (say (codes "OR")) condition h.conditions ++ say (codes "THEN") ∷ block h.statements)

branches_are : (branches : List ElseIf) → flat_map else_if branches ≡ flat_map else_if_tokens branches
branches_are [] = refl
branches_are (branch ∷ others) = ap₂ (λ (x y : List Written). x ++ y) (texts.else_if_is branch) (branches_are others)

abbrev pub if_tokens : Expr → List BodyStatement → List Written → Option (List BodyStatement) → List Written
if_tokens condition first branches last =
    say (codes "IF")
    ∷ (expression condition ++ say (codes "THEN") ∷ (block first ++ (branches ++ (perhaps else_tokens last ++ say (codes "END") ∷ say (codes "IF") ∷ []))))

pub if_is :
    (condition : Expr) (first : List BodyStatement) (others : List ElseIf) (last : Option (List BodyStatement))
    → body_statement (If condition first others last) ≡ if_tokens condition first (flat_map else_if_tokens others) last
if_is condition first others last =
    texts.if_is condition first others last ∙ ap (λ (branches : List Written). if_tokens condition first branches last) (branches_are others)

handlers_are : (handlers : List Handler) → map handler handlers ≡ map handler_tokens handlers
handlers_are [] = refl
handlers_are (first ∷ others) = ap₂ (λ (x : List Written) (y : List (List Written)). x ∷ y) (texts.handler_is first) (handlers_are others)

-- EXCEPTION and one handler after the other
abbrev pub handlers_tokens : List Handler → List Written
handlers_tokens [] = []
handlers_tokens (first ∷ others) = say (codes "EXCEPTION") ∷ (handler_tokens first ++ flat_map handler_tokens others)

exception_is : (handlers : List Handler) → exception (map handler_tokens handlers) ≡ handlers_tokens handlers
exception_is [] = refl
exception_is (first ∷ others) = ap (λ (tokens : List Written). say (codes "EXCEPTION") ∷ (handler_tokens first ++ tokens)) (one_by_one others)
  where
    one_by_one : (handlers : List Handler) → flat_map (λ (tokens : List Written). tokens) (map handler_tokens handlers) ≡ flat_map handler_tokens handlers
    one_by_one [] = refl
    one_by_one (first ∷ others) = ap (λ (tokens : List Written). handler_tokens first ++ tokens) (one_by_one others)

abbrev pub block_tokens : List BodyStatement → List Handler → List Written
block_tokens statements handlers = begin_end (block statements) (handlers_tokens handlers)

-- the tokens of a block, as a statement and as the body of a function
pub block_tokens_are : (statements : List BodyStatement) (handlers : List Handler)
    → begin_end (block statements) (exception (map handler handlers)) ≡ block_tokens statements handlers
block_tokens_are statements handlers =
    ap (λ (found : List Written). begin_end (block statements) found)
    (ap (λ (found : List (List Written)). exception found) (handlers_are handlers) ∙ exception_is handlers)

pub block_is : (statements : List BodyStatement) (handlers : List Handler) → body_statement (Block statements handlers) ≡ block_tokens statements handlers
block_is statements handlers = texts.block_is statements handlers ∙ block_tokens_are statements handlers
