-- How many IFs and blocks of a code lie within one another. A derivation leaves this open, since a limit is no matter of the grammar's rules.
use Rattle.std.proofs.Common.{◌≡◌, ℕ, suc, ◌≤◌, max, List, [], ◌∷◌, Option, Some, None, map, refl, sym, ap, ◌∙◌}
use Rattle.aq_base.specs.Names.{Text}
use Rattle.aq_base.specs.declared.expr.Expr.{Expr}
use Rattle.aq_base.specs.declared.body.BodyStatement.{BodyStatement, BodyStatement-F, fold-BodyStatement, fold-roll-BodyStatement}
use Rattle.aq_base.specs.declared.body.BodyStatement.TheOpen as bodies
use Rattle.aq_base.specs.declared.body.BodyStatement.TheVariants.{If, Raise, Return, Insert, Update, Delete, SetConstraints, Block, rolls-If, rolls-Raise, rolls-Return, rolls-Insert, rolls-Update, rolls-Delete, rolls-SetConstraints, rolls-Block}
use Rattle.aq_base.specs.declared.body.ElseIf.{ElseIf, ElseIf-F, fold-ElseIf, fold-roll-ElseIf, rolls-ElseIf'}
use Rattle.aq_base.specs.declared.body.Handler.{Handler, Handler-F, fold-Handler, fold_out-Handler}
use Rattle.aq_base.specs.declared.body.Body.{Body}
use Rattle.aq_base.specs.declared.body.Returned.{Returned}
use Rattle.aq_base.specs.declared.data.Insert.{Insert as InsertStatement}
use Rattle.aq_base.specs.declared.data.Update.{Update as UpdateStatement}
use Rattle.aq_base.specs.declared.data.Delete.{Delete as DeleteStatement}
use Rattle.aq_base.specs.declared.modes.SetConstraints.{SetConstraints as SetStatement}
use Rattle.aq_base.specs.declared.statement.Statement.{Statement}
use Rattle.aq_base.specs.declared.statement.Statement.TheVariants.{CreateFunction}

abbrev pub deepest : List ℕ → ℕ
deepest [] = 0
deepest (depth ∷ others) = max depth (deepest others)

abbrev pub perhaps_deep : {A : Type 0} → (A → ℕ) → Option A → ℕ
perhaps_deep depth None = 0
perhaps_deep depth (Some x) = depth x

abbrev branch_step : ElseIf-F ℕ ℕ ℕ → ℕ
branch_step branch = deepest branch.then

abbrev handler_step : Handler-F ℕ ℕ ℕ → ℕ
handler_step handler = deepest handler.statements

abbrev depth_step : BodyStatement-F ℕ ℕ ℕ → ℕ
depth_step (bodies.If condition first others last) = suc (max (deepest first) (max (deepest others) (perhaps_deep deepest last)))
depth_step (bodies.Raise text) = 0
depth_step (bodies.Return what) = 0
depth_step (bodies.Insert s) = 0
depth_step (bodies.Update s) = 0
depth_step (bodies.Delete s) = 0
depth_step (bodies.SetConstraints s) = 0
depth_step (bodies.Block statements handlers) = suc (max (deepest statements) (deepest handlers))

-- an IF or a block is one deeper than the statements within it
pub statement_depth : BodyStatement → ℕ
statement_depth s = fold-BodyStatement ℕ ℕ ℕ depth_step branch_step handler_step s

abbrev pub block_depth : List BodyStatement → ℕ
block_depth found = deepest (map statement_depth found)

abbrev pub branches_depth : List ElseIf → ℕ
branches_depth found = deepest (map (λ (branch : ElseIf). block_depth branch.then) found)

abbrev pub handlers_depth : List Handler → ℕ
handlers_depth found = deepest (map (λ (handler : Handler). block_depth handler.statements) found)

abbrev pub body_depth : Body → ℕ
body_depth body = suc (max (block_depth body.statements) (handlers_depth body.handlers))

-- the code of a function has no more IFs and blocks open at a place than may be
abbrev pub HasRoom : Statement → Type 0
HasRoom (CreateFunction s) = body_depth s.body ≤ 100
HasRoom other = Unit {0}

folded_depth : ElseIf → ℕ
folded_depth branch = fold-ElseIf ℕ ℕ ℕ depth_step branch_step handler_step branch

folded_depth_is : (branch : ElseIf) → folded_depth branch ≡ block_depth branch.then
unfolding folded_depth statement_depth
folded_depth_is branch =
    ap folded_depth (sym (rolls-ElseIf' (record { condition = branch.condition; then = branch.then }))) ∙ fold-roll-ElseIf ℕ ℕ ℕ depth_step branch_step handler_step _

folded_depths_are : (branches : List ElseIf) → deepest (map folded_depth branches) ≡ branches_depth branches
folded_depths_are [] = refl
folded_depths_are (branch ∷ others) = cc (folded_depth_is branch, folded_depths_are others)

folded_if_depth :
    (condition : Expr) (first : List BodyStatement) (others : List ElseIf) (last : Option (List BodyStatement))
    → statement_depth (If condition first others last) ≡ suc (max (block_depth first) (max (deepest (map folded_depth others)) (perhaps_deep block_depth last)))
unfolding folded_depth statement_depth
folded_if_depth condition first others None =
    ap statement_depth (sym (rolls-If condition first others None)) ∙ fold-roll-BodyStatement ℕ ℕ ℕ depth_step branch_step handler_step _
folded_if_depth condition first others (Some last) =
    ap statement_depth (sym (rolls-If condition first others (Some last))) ∙ fold-roll-BodyStatement ℕ ℕ ℕ depth_step branch_step handler_step _

pub if_depth :
    (condition : Expr) (first : List BodyStatement) (others : List ElseIf) (last : Option (List BodyStatement))
    → statement_depth (If condition first others last) ≡ suc (max (block_depth first) (max (branches_depth others) (perhaps_deep block_depth last)))
if_depth condition first others last =
    folded_if_depth condition first others last
    ∙ ap (λ (depth : ℕ). suc (max (block_depth first) (max depth (perhaps_deep block_depth last)))) (folded_depths_are others)

pub raise_depth : (text : Text) → statement_depth (Raise text) ≡ 0
unfolding statement_depth
raise_depth text = ap statement_depth (sym (rolls-Raise text)) ∙ fold-roll-BodyStatement ℕ ℕ ℕ depth_step branch_step handler_step _

pub return_depth : (what : Returned) → statement_depth (Return what) ≡ 0
unfolding statement_depth
return_depth what = ap statement_depth (sym (rolls-Return what)) ∙ fold-roll-BodyStatement ℕ ℕ ℕ depth_step branch_step handler_step _

pub insert_depth : (s : InsertStatement) → statement_depth (Insert s) ≡ 0
unfolding statement_depth
insert_depth s = ap statement_depth (sym (rolls-Insert s)) ∙ fold-roll-BodyStatement ℕ ℕ ℕ depth_step branch_step handler_step _

pub update_depth : (s : UpdateStatement) → statement_depth (Update s) ≡ 0
unfolding statement_depth
update_depth s = ap statement_depth (sym (rolls-Update s)) ∙ fold-roll-BodyStatement ℕ ℕ ℕ depth_step branch_step handler_step _

pub delete_depth : (s : DeleteStatement) → statement_depth (Delete s) ≡ 0
unfolding statement_depth
delete_depth s = ap statement_depth (sym (rolls-Delete s)) ∙ fold-roll-BodyStatement ℕ ℕ ℕ depth_step branch_step handler_step _

pub set_constraints_depth : (s : SetStatement) → statement_depth (SetConstraints s) ≡ 0
unfolding statement_depth
set_constraints_depth s = ap statement_depth (sym (rolls-SetConstraints s)) ∙ fold-roll-BodyStatement ℕ ℕ ℕ depth_step branch_step handler_step _

folded_handler_depth : Handler → ℕ
folded_handler_depth handler = fold-Handler ℕ ℕ ℕ depth_step branch_step handler_step handler

folded_handler_depth_is : (handler : Handler) → folded_handler_depth handler ≡ block_depth handler.statements
unfolding folded_handler_depth statement_depth
folded_handler_depth_is handler = fold_out-Handler ℕ ℕ ℕ depth_step branch_step handler_step handler

folded_handlers_depth_is : (handlers : List Handler) → deepest (map folded_handler_depth handlers) ≡ handlers_depth handlers
folded_handlers_depth_is [] = refl
folded_handlers_depth_is (handler ∷ others) = cc (folded_handler_depth_is handler, folded_handlers_depth_is others)

folded_block_depth : (statements : List BodyStatement) (handlers : List Handler)
    → statement_depth (Block statements handlers) ≡ suc (max (block_depth statements) (deepest (map folded_handler_depth handlers)))
unfolding folded_handler_depth statement_depth
folded_block_depth statements handlers =
    ap statement_depth (sym (rolls-Block statements handlers)) ∙ fold-roll-BodyStatement ℕ ℕ ℕ depth_step branch_step handler_step _

pub block_is_deep : (statements : List BodyStatement) (handlers : List Handler)
    → statement_depth (Block statements handlers) ≡ suc (max (block_depth statements) (handlers_depth handlers))
block_is_deep statements handlers =
    folded_block_depth statements handlers ∙ ap (λ (depth : ℕ). suc (max (block_depth statements) depth)) (folded_handlers_depth_is handlers)
