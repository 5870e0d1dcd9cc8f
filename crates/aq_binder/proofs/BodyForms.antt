-- The faults of an IF, of a branch, of a block and of a handler, part by part.
use Rattle.std.proofs.Common.{◌≡◌, refl, List, [], ◌++◌, map, sym, ap, ◌∙◌, subst, Option, Some, None}
use Rattle.std.specs.Prelude.{Result}
use Rattle.std.specs.List.{flat_map}
use Rattle.std.proofs.lemmas.List.Folds.{flat_map-map}
use Rattle.aq_base.specs.declared.fault.SqlFault.{SqlFault}
use Rattle.aq_base.specs.declared.expr.Expr.{Expr}
use Rattle.aq_base.specs.declared.body.BodyStatement.{BodyStatement, fold-roll-BodyStatement}
use Rattle.aq_base.specs.declared.body.BodyStatement.TheVariants as bodies
use Rattle.aq_base.specs.declared.body.ElseIf.{ElseIf, fold_out-ElseIf}
use Rattle.aq_base.specs.declared.body.Handler.{Handler, fold_out-Handler}
use Rattle.aq_setup.specs.Scopes.{Setting}
use Rattle.aq_setup.specs.Bodies.{if_faults, faults_in, else_if_faults, handler_faults, block_faults, body_faults_step, else_if_faults_step, handler_faults_step}
use Rattle.aq_refusals.specs.declared.fault.CatFault.{CatFault}
use Rattle.aq_refusals.specs.Answers.{IsFault, Tells}
use Rattle.aq_refusals.proofs.Telling.{first_stays}

abbrev Faults : Type 0
Faults = List SqlFault

-- the faults behind ELSE
abbrev pub last_faults : Setting → Option (List BodyStatement) → List SqlFault
last_faults setting None = []
last_faults setting (Some statements) = flat_map (faults_in setting) statements

abbrev pub choice_faults : Setting → Expr → List BodyStatement → List ElseIf → Option (List BodyStatement) → List SqlFault
choice_faults setting condition first others last =
    if_faults setting condition ++ (flat_map (faults_in setting) first ++ (flat_map (else_if_faults setting) others ++ last_faults setting last))

-- the faults of each statement, one behind the other
joined : {X : Type 0} (f : X → Faults) (xs : List X) → flat_map (λ (faults : Faults). faults) (map f xs) ≡ flat_map f xs
joined f xs = flat_map-map (λ (faults : Faults). faults) f xs

in_order : (a : Faults) {b c d b_is c_is d_is : Faults} → b ≡ b_is → c ≡ c_is → d ≡ d_is → a ++ (b ++ (c ++ d)) ≡ a ++ (b_is ++ (c_is ++ d_is))
in_order a {b = b} {c = c} {d = d} {b_is = b_is} {c_is = c_is} {d_is = d_is} p q r =
    ap (λ (x : Faults). a ++ (x ++ (c ++ d))) p ∙ ap (λ (x : Faults). a ++ (b_is ++ (x ++ d))) q ∙ ap (λ (x : Faults). a ++ (b_is ++ (c_is ++ x))) r

pub if_is : (setting : Setting) (condition : Expr) (first : List BodyStatement) (others : List ElseIf) (last : Option (List BodyStatement))
    → faults_in setting (bodies.If condition first others last) ≡ choice_faults setting condition first others last
if_is setting condition first others None =
    ap (faults_in setting) (sym (bodies.rolls-If condition first others None))
    ∙ fold-roll-BodyStatement Faults Faults Faults (body_faults_step setting) (else_if_faults_step setting) handler_faults_step _
    ∙ in_order (if_faults setting condition) (joined (faults_in setting) first) (joined (else_if_faults setting) others) refl
if_is setting condition first others (Some found) =
    ap (faults_in setting) (sym (bodies.rolls-If condition first others (Some found)))
    ∙ fold-roll-BodyStatement Faults Faults Faults (body_faults_step setting) (else_if_faults_step setting) handler_faults_step _
    ∙ in_order (if_faults setting condition) (joined (faults_in setting) first) (joined (else_if_faults setting) others) (joined (faults_in setting) found)

pub branch_is : (setting : Setting) (branch : ElseIf)
    → else_if_faults setting branch ≡ if_faults setting branch.condition ++ flat_map (faults_in setting) branch.then
branch_is setting branch =
    fold_out-ElseIf Faults Faults Faults (body_faults_step setting) (else_if_faults_step setting) handler_faults_step branch
    ∙ ap (λ (x : Faults). if_faults setting branch.condition ++ x) (joined (faults_in setting) branch.then)

pub handler_is : (setting : Setting) (handler : Handler) → handler_faults setting handler ≡ flat_map (faults_in setting) handler.statements
handler_is setting handler =
    fold_out-Handler Faults Faults Faults (body_faults_step setting) (else_if_faults_step setting) handler_faults_step handler
    ∙ joined (faults_in setting) handler.statements

pub block_is : (setting : Setting) (statements : List BodyStatement) (handlers : List Handler)
    → faults_in setting (bodies.Block statements handlers) ≡ block_faults setting statements handlers
block_is setting statements handlers =
    ap (faults_in setting) (sym (bodies.rolls-Block statements handlers))
    ∙ fold-roll-BodyStatement Faults Faults Faults (body_faults_step setting) (else_if_faults_step setting) handler_faults_step _
    ∙ ap (λ (x : Faults). x ++ flat_map (λ (faults : Faults). faults) (map (handler_faults setting) handlers)) (joined (faults_in setting) statements)
    ∙ ap (λ (x : Faults). flat_map (faults_in setting) statements ++ x) (joined (handler_faults setting) handlers)

-- ---- the first fault of all, part by part

pub first_told : (all a rest : Faults) (e : CatFault) → all ≡ a ++ rest → IsFault a e → IsFault all e
first_told all a rest e is told = rw is (first_stays a rest e told)

pub second_told : (all a b rest : Faults) (e : CatFault) → all ≡ a ++ (b ++ rest) → a ≡ [] → IsFault b e → IsFault all e
second_told all a b rest e is none told = rw is (rw none (first_stays b rest e told))

pub third_told : (all a b c rest : Faults) (e : CatFault) → all ≡ a ++ (b ++ (c ++ rest)) → a ≡ [] → b ≡ [] → IsFault c e → IsFault all e
third_told all a b c rest e is none none_behind told = rw is (rw none (rw none_behind (first_stays c rest e told)))

pub rest_told : {T : Type 0} (all a rest : Faults) (result : Result T CatFault) → all ≡ a ++ rest → a ≡ [] → Tells rest result → Tells all result
rest_told all a rest result is none told =
    subst (λ (faults : Faults). Tells faults result) (sym (is ∙ ap (λ (x : Faults). x ++ rest) none)) told

alone : (all a b c rest : Faults) → all ≡ a ++ (b ++ (c ++ rest)) → a ≡ [] → b ≡ [] → c ≡ [] → all ≡ rest
alone all a b c rest is none none_second none_third =
    is ∙ ap (λ (x : Faults). x ++ (b ++ (c ++ rest))) none ∙ ap (λ (x : Faults). x ++ (c ++ rest)) none_second ∙ ap (λ (x : Faults). x ++ rest) none_third

pub last_told : {T : Type 0} (all a b c rest : Faults) (result : Result T CatFault)
    → all ≡ a ++ (b ++ (c ++ rest)) → a ≡ [] → b ≡ [] → c ≡ [] → Tells rest result → Tells all result
last_told all a b c rest result is none none_second none_third told =
    subst (λ (faults : Faults). Tells faults result) (sym (alone all a b c rest is none none_second none_third)) told

pub none_told : (all a b c rest : Faults) → all ≡ a ++ (b ++ (c ++ rest)) → a ≡ [] → b ≡ [] → c ≡ [] → rest ≡ [] → all ≡ []
none_told all a b c rest is none none_second none_third none_left = alone all a b c rest is none none_second none_third ∙ none_left
