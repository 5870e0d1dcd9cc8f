-- How each statement of a code is printed.
use Rattle.std.proofs.Common.{◌≡◌, refl, List, [], ◌∷◌, ◌++◌, sym, ap, ◌∙◌, codes, map, Option, Some, None, flat_map}
use Rattle.aq_base.specs.Names.{Text}
use Rattle.aq_base.specs.declared.expr.Expr.{Expr}
use Rattle.aq_base.specs.declared.data.Insert.{Insert}
use Rattle.aq_base.specs.declared.data.Update.{Update}
use Rattle.aq_base.specs.declared.data.Delete.{Delete}
use Rattle.aq_base.specs.declared.modes.SetConstraints.{SetConstraints}
use Rattle.aq_base.specs.declared.body.Returned.{Returned}
use Rattle.aq_base.specs.declared.body.BodyStatement.{BodyStatement, fold-roll-BodyStatement}
use Rattle.aq_base.specs.declared.body.BodyStatement.TheVariants as bodies
use Rattle.aq_base.specs.declared.body.ElseIf.{ElseIf, fold_out-ElseIf}
use Rattle.aq_base.specs.declared.body.Handler.{Handler, fold_out-Handler}
use Rattle.aq_texts.specs.Written.{Written, say, Literal, separated}
use Rattle.aq_texts.specs.Canon.{perhaps, expression, block, body_step, else_if_step, else_if, handler_step, handler, condition, exception, begin_end, body_statement, returned, insert, update, delete, set_constraints}

pub raise_is : (text : Text) → body_statement (bodies.Raise text) ≡ say (codes "RAISE") ∷ say (codes "EXCEPTION") ∷ Literal text ∷ []
raise_is text = ap body_statement (sym (bodies.rolls-Raise text)) ∙ fold-roll-BodyStatement (List Written) (List Written) (List Written) body_step else_if_step handler_step _

pub return_is : (what : Returned) → body_statement (bodies.Return what) ≡ say (codes "RETURN") ∷ returned what ∷ []
return_is what = ap body_statement (sym (bodies.rolls-Return what)) ∙ fold-roll-BodyStatement (List Written) (List Written) (List Written) body_step else_if_step handler_step _

pub insert_is : (s : Insert) → body_statement (bodies.Insert s) ≡ insert s
insert_is s = ap body_statement (sym (bodies.rolls-Insert s)) ∙ fold-roll-BodyStatement (List Written) (List Written) (List Written) body_step else_if_step handler_step _

pub update_is : (s : Update) → body_statement (bodies.Update s) ≡ update s
update_is s = ap body_statement (sym (bodies.rolls-Update s)) ∙ fold-roll-BodyStatement (List Written) (List Written) (List Written) body_step else_if_step handler_step _

pub delete_is : (s : Delete) → body_statement (bodies.Delete s) ≡ delete s
delete_is s = ap body_statement (sym (bodies.rolls-Delete s)) ∙ fold-roll-BodyStatement (List Written) (List Written) (List Written) body_step else_if_step handler_step _

pub set_constraints_is : (s : SetConstraints) → body_statement (bodies.SetConstraints s) ≡ set_constraints s
set_constraints_is s = ap body_statement (sym (bodies.rolls-SetConstraints s)) ∙ fold-roll-BodyStatement (List Written) (List Written) (List Written) body_step else_if_step handler_step _

pub else_if_is : (branch : ElseIf) → else_if branch ≡ say (codes "ELSIF") ∷ (expression branch.condition ++ say (codes "THEN") ∷ block branch.then)
else_if_is branch = fold_out-ElseIf (List Written) (List Written) (List Written) body_step else_if_step handler_step branch

-- the tokens of each, one behind the other
flattened : {A : Type 0} (print : A → List Written) (xs : List A) → flat_map (λ tokens. tokens) (map print xs) ≡ flat_map print xs
flattened print [] = refl
flattened print (x ∷ xs) = ap (λ tokens. print x ++ tokens) (flattened print xs)

abbrev pub behind_if : Expr → List BodyStatement → List Written → List Written → List Written
behind_if condition first others last =
    say (codes "IF") ∷ (expression condition ++ say (codes "THEN") ∷ (block first ++ (others ++ (last ++ say (codes "END") ∷ say (codes "IF") ∷ []))))

pub if_is : (condition : Expr) (first : List BodyStatement) (others : List ElseIf) (last : Option (List BodyStatement))
    → body_statement (bodies.If condition first others last)
    ≡ behind_if condition first (flat_map else_if others) (perhaps (λ found. say (codes "ELSE") ∷ block found) last)
if_is condition first others None =
    ap body_statement (sym (bodies.rolls-If condition first others None)) ∙ fold-roll-BodyStatement (List Written) (List Written) (List Written) body_step else_if_step handler_step _
    ∙ ap (λ tokens. behind_if condition first tokens []) (flattened else_if others)
if_is condition first others (Some found) =
    ap body_statement (sym (bodies.rolls-If condition first others (Some found))) ∙ fold-roll-BodyStatement (List Written) (List Written) (List Written) body_step else_if_step handler_step _
    ∙ ap (λ tokens. behind_if condition first tokens (say (codes "ELSE") ∷ block found)) (flattened else_if others)

pub handler_is : (h : Handler) → handler h ≡ say (codes "WHEN") ∷ (separated (say (codes "OR")) condition h.conditions ++ say (codes "THEN") ∷ block h.statements)
handler_is h = fold_out-Handler (List Written) (List Written) (List Written) body_step else_if_step handler_step h

pub block_is : (statements : List BodyStatement) (handlers : List Handler)
    → body_statement (bodies.Block statements handlers) ≡ begin_end (block statements) (exception (map handler handlers))
block_is statements handlers =
    ap body_statement (sym (bodies.rolls-Block statements handlers))
    ∙ fold-roll-BodyStatement (List Written) (List Written) (List Written) body_step else_if_step handler_step _

-- EXCEPTION stands before handlers where there are any
pub exception_of_some : (handlers : List Handler) → (handlers ≡ [] → ⊥) → say (codes "EXCEPTION") ∷ flat_map handler handlers ≡ exception (map handler handlers)
exception_of_some [] some = absurd (some refl)
exception_of_some (first ∷ others) some = ap (λ tokens. say (codes "EXCEPTION") ∷ tokens) (sym (flattened handler (first ∷ others)))
