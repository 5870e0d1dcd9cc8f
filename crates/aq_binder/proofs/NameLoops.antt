-- The first fault of the elements of a list, one after the other.
use Rattle.std.proofs.Common.{◌≡◌, refl, ap, sym, subst, ◌∙◌, ℕ, zero, suc, ◌+◌, ◌<◌, arith, add-one, List, [], ◌∷◌, ◌++◌, append_assoc, take, get_or, length}
use Rattle.std.proofs.lemmas.List.{append-nil}
use Rattle.aq_base.specs.declared.fault.SqlFault.{SqlFault}
use Rattle.aq_refusals.specs.declared.fault.CatFault.{CatFault}
use Rattle.aq_refusals.specs.Answers.{IsFault}
use Rattle.aq_binder.specs.Repeating.{faults_behind}
use Rattle.aq_refusals.proofs.Telling.{first_stays}

front_none : {A : Type 0} (front behind : List A) → front ++ behind ≡ [] → front ≡ []
front_none [] behind none = refl
front_none (x ∷ front) behind none = cc

behind_none : {A : Type 0} (front behind : List A) → front ++ behind ≡ [] → behind ≡ []
behind_none front behind none = ap (λ (l : List _). l ++ behind) (sym (front_none front behind none)) ∙ none

-- nothing stands in front
behind_told : (front behind : List SqlFault) (e : CatFault) → front ≡ [] → IsFault behind e → IsFault (front ++ behind) e
behind_told front behind e none told = subst (λ (l : List SqlFault). IsFault (l ++ behind) e) (sym none) told

pub walk_told : {X : Type 0} (step : List X → X → List SqlFault) (before xs : List X) (n : ℕ) (x : X) (e : CatFault)
    → IsFault (step (before ++ take n xs) x) e → x ≡ get_or xs n x → n < length xs → faults_behind step before (take n xs) ≡ []
    → IsFault (faults_behind step before xs) e
walk_told step before [] n x e told is within none = absurd (omega arith)
walk_told step before (y ∷ xs) zero x e told is within none =
    let here : IsFault (step before y) e = subst (λ (z : _). IsFault (step before z) e) is (subst (λ (l : List _). IsFault (step l x) e) (append-nil before) told) in
    first_stays (step before y) (faults_behind step (before ++ y ∷ []) xs) e here
walk_told step before (y ∷ xs) (suc n) x e told is within none =
    behind_told (step before y) (faults_behind step (before ++ y ∷ []) xs) e
    (front_none (step before y) (faults_behind step (before ++ y ∷ []) (take n xs)) none)
    (walk_told step (before ++ y ∷ []) xs n x e (subst (λ (l : List _). IsFault (step l x) e) (sym (append_assoc before (y ∷ []) (take n xs))) told) is (omega (arith, within))
    (behind_none (step before y) (faults_behind step (before ++ y ∷ []) (take n xs)) none))

pub walk_more : {X : Type 0} (step : List X → X → List SqlFault) (before xs : List X) (n : ℕ) (x : X)
    → step (before ++ take n xs) x ≡ [] → x ≡ get_or xs n x → n < length xs → faults_behind step before (take n xs) ≡ []
    → faults_behind step before (take (suc n) xs) ≡ []
walk_more step before [] n x here is within none = absurd (omega arith)
walk_more step before (y ∷ xs) zero x here is within none =
    append-nil (step before y) ∙ ap (step before) (sym is) ∙ ap (λ (l : List _). step l x) (sym (append-nil before)) ∙ here
walk_more step before (y ∷ xs) (suc n) x here is within none =
    ap (λ (l : List SqlFault). l ++ faults_behind step (before ++ y ∷ []) (take (suc n) xs)) (front_none (step before y) (faults_behind step (before ++ y ∷ []) (take n xs)) none)
    ∙ walk_more step (before ++ y ∷ []) xs n x (ap (λ (l : List _). step l x) (append_assoc before (y ∷ []) (take n xs)) ∙ here) is (omega (arith, within))
    (behind_none (step before y) (faults_behind step (before ++ y ∷ []) (take n xs)) none)

pub walk_next : {X : Type 0} (step : List X → X → List SqlFault) (xs : List X) (n : ℕ) (x : X)
    → step (take n xs) x ≡ [] → x ≡ get_or xs n x → n < length xs → faults_behind step [] (take n xs) ≡ []
    → faults_behind step [] (take (n + 1) xs) ≡ []
walk_next step xs n x here is within none = ap (λ m. faults_behind step [] (take m xs)) (add-one n) ∙ walk_more step [] xs n x here is within none
