-- A fault that is told in a loop is the first of all.
use Rattle.std.proofs.Common.{◌≡◌, ℕ, ◌<◌, List, [], ◌∷◌, ◌++◌, length, drop, map, get_or, ◌+◌, refl, ap, sym, ◌∙◌, subst}
use Rattle.std.proofs.lemmas.List.{drop_more, map-append}
use Rattle.std.specs.List.{flat_map}
use Rattle.aq_base.specs.declared.fault.SqlFault.{SqlFault}
use Rattle.aq_refusals.specs.declared.fault.CatFault.{CatFault}
use Rattle.aq_refusals.specs.Answers.{IsFault}
use Rattle.aq_refusals.proofs.Telling.{first_stays}

-- of what is left of a list, the first element is at hand
pub drop_here : {X : Type 0} (xs : List X) (i : ℕ) (x : X) → i < length xs → x ≡ get_or xs i x → drop i xs ≡ x ∷ drop (i + 1) xs
drop_here xs i x within is = drop_more xs i x within ∙ ap (λ y. y ∷ drop (i + 1) xs) (sym is)

-- the faults of the whole list are those that are left
pub told_here : {X : Type 0} (faults : List X → List SqlFault) (xs : List X) (i : ℕ) (x : X) (front behind : List SqlFault) (e : CatFault) → i < length xs → x ≡ get_or xs i x → faults (drop i xs) ≡ faults xs → faults (x ∷ drop (i + 1) xs) ≡ front ++ behind → IsFault front e → IsFault (faults xs) e
told_here faults xs i x front behind e within is left here told =
    subst (λ l. IsFault l e) (sym here ∙ sym (ap faults (drop_here xs i x within is)) ∙ left) (first_stays front behind e told)

-- the same of faults element by element
pub fault_at : {X : Type 0} (f : X → List SqlFault) (xs : List X) (i : ℕ) (x : X) (e : CatFault) → i < length xs → x ≡ get_or xs i x → flat_map f (drop i xs) ≡ flat_map f xs → IsFault (f x) e → IsFault (flat_map f xs) e
fault_at f xs i x e within is left told = told_here (flat_map f) xs i x (f x) (flat_map f (drop (i + 1) xs)) e within is left refl told

-- the same of the faults of what each element gives
pub mapped_fault_at : {X A : Type 0} (g : A → SqlFault) (f : X → List A) (xs : List X) (i : ℕ) (x : X) (e : CatFault) → i < length xs → x ≡ get_or xs i x → map g (flat_map f (drop i xs)) ≡ map g (flat_map f xs) → IsFault (map g (f x)) e → IsFault (map g (flat_map f xs)) e
mapped_fault_at g f xs i x e within is left told =
    told_here (λ l. map g (flat_map f l)) xs i x (map g (f x)) (map g (flat_map f (drop (i + 1) xs))) e within is left (map-append g (f x) (flat_map f (drop (i + 1) xs))) told

pub first_mapped : {A : Type 0} (g : A → SqlFault) (front behind : List A) (e : CatFault) → IsFault (map g front) e → IsFault (map g (front ++ behind)) e
first_mapped g front behind e told = subst (λ l. IsFault l e) (sym (map-append g front behind)) (first_stays (map g front) (map g behind) e told)

-- the faults of what is left begin with those of the next element
next_faults : {X : Type 0} (f : X → List SqlFault) (xs : List X) (k : ℕ) (x : X) → k < length xs → x ≡ get_or xs k x
    → flat_map f (drop k xs) ≡ f x ++ flat_map f (drop (k + 1) xs)
next_faults f xs k x within is = ap (flat_map f) (drop_more xs k x within ∙ ap (λ y. y ∷ drop (k + 1) xs) (sym is))

-- an element without faults leaves them all to the others
pub left_at : {X : Type 0} (f : X → List SqlFault) (xs : List X) (k : ℕ) (x : X) → k < length xs → x ≡ get_or xs k x
    → flat_map f (drop k xs) ≡ flat_map f xs → f x ≡ [] → flat_map f (drop (k + 1) xs) ≡ flat_map f xs
left_at f xs k x within is left none =
    sym (next_faults f xs k x within is ∙ ap (λ (faults : List SqlFault). faults ++ flat_map f (drop (k + 1) xs)) none) ∙ left
