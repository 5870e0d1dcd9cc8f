-- The first name that stands again.
use Rattle.std.proofs.Common.{◌≡◌, ℕ, ◌+◌, ◌<◌, ◌≤◌, Bool, true, false, cond, ◌||◌, List, [], ◌∷◌, ◌++◌, Some, None, length, map, take, drop, get_or, refl, ap, sym, ◌∙◌, subst}
use Rattle.std.specs.List.{list_any}
use Rattle.std.proofs.lemmas.List.{take_more, drop_all}
use Rattle.std.proofs.lemmas.List.Folds.{list_any-append}
use Rattle.std.proofs.lemmas.Option.{same_Some, none-some}
use Rattle.aq_base.specs.Names.{Text, same_text}
use Rattle.aq_base.specs.declared.fault.SqlFault.{SqlFault}
use Rattle.aq_setup.specs.Scopes.{repeats_behind}
use Rattle.aq_setup.specs.Triggers.{first_text}
use Rattle.aq_refusals.specs.declared.fault.CatFault.{CatFault}
use Rattle.aq_refusals.specs.Answers.{IsFault}
use Rattle.aq_refusals.proofs.Telling.{first_stays}
use Rattle.aq_refusals.proofs.Loops.{drop_here}
use Rattle.aq_catalog.proofs.Passing.{text_order}

-- names one after the other in front of others
abbrev pub stacked : List Text → List Text → List Text
stacked before [] = before
stacked before (name ∷ names) = stacked (name ∷ before) names

stacked_more : (before names : List Text) (name : Text) → stacked before (names ++ name ∷ []) ≡ name ∷ stacked before names
stacked_more before [] name = refl
stacked_more before (other ∷ names) name = stacked_more (other ∷ before) names name

or_none : (a : Bool) → a ≡ (a || false)
or_none true = refl
or_none false = refl

or_moves : (a b c : Bool) → ((b || a) || c) ≡ (a || (b || c))
or_moves true true c = refl
or_moves true false c = refl
or_moves false true c = refl
or_moves false false c = refl

any_stacked : (p : Text → Bool) (before names : List Text) → list_any p (stacked before names) ≡ (list_any p before || list_any p names)
any_stacked p before [] = or_none (list_any p before)
any_stacked p before (name ∷ names) = any_stacked p (name ∷ before) names ∙ or_moves (list_any p before) (p name) (list_any p names)

take_here : {X : Type 0} (xs : List X) (i : ℕ) (x : X) → i < length xs → x ≡ get_or xs i x → take (i + 1) xs ≡ take i xs ++ x ∷ []
take_here xs i x within is = take_more xs i x within ∙ ap (λ y. take i xs ++ y ∷ []) (sym is)

-- the first name that stands again is one of those that are left
abbrev pub Left : List Text → List Text → ℕ → Type 0
Left taken names i = first_text (repeats_behind (stacked taken (take i names)) (drop i names)) ≡ first_text (repeats_behind taken names)

-- some names of a list went by, all of which are among those seen
pub record Passed (taken names seen : List Text) (i : ℕ) : Type 0 where
  pub seen_are : (q : Text) → list_any (same_text q) seen ≡ (list_any (same_text q) taken || list_any (same_text q) (take i names))
  pub left : Left taken names i

pub none_passed : (taken names seen : List Text) → ((q : Text) → list_any (same_text q) seen ≡ list_any (same_text q) taken) → Passed taken names seen 0
none_passed taken names seen same = record { seen_are = λ q. same q ∙ or_none (list_any (same_text q) taken); left = refl }

either_true : (a b : Bool) → cond a true b ≡ (a || b)
either_true true b = refl
either_true false b = refl

pub added_to : (name q : Text) (b : Bool) → cond (same_text name q) true b ≡ (same_text q name || b)
added_to name q b = either_true (same_text name q) b ∙ ap (λ a. a || b) (text_order name q)

or_turns : (a b c : Bool) → (a || (b || c)) ≡ (b || (c || (a || false)))
or_turns true true c = refl
or_turns true false true = refl
or_turns true false false = refl
or_turns false true c = refl
or_turns false false c = or_none c

pub seen_more : (taken names : List Text) (i : ℕ) (x q : Text) (seen : List Text) → i < length names → x ≡ get_or names i x
    → list_any (same_text q) seen ≡ (list_any (same_text q) taken || list_any (same_text q) (take i names))
    → list_any (same_text q) (x ∷ seen) ≡ (list_any (same_text q) taken || list_any (same_text q) (take (i + 1) names))
seen_more taken names i x q seen within is before =
    ap (λ b. same_text q x || b) before
    ∙ or_turns (same_text q x) (list_any (same_text q) taken) (list_any (same_text q) (take i names))
    ∙ ap (λ b. list_any (same_text q) taken || b) (sym (list_any-append (same_text q) (take i names) (x ∷ [])) ∙ sym (ap (list_any (same_text q)) (take_here names i x within is)))

again : (before names : List Text) (name : Text) → list_any (same_text name) before ≡ true → repeats_behind before (name ∷ names) ≡ name ∷ repeats_behind (name ∷ before) names
again before names name h = rw h refl

anew : (before names : List Text) (name : Text) → list_any (same_text name) before ≡ false → repeats_behind before (name ∷ names) ≡ repeats_behind (name ∷ before) names
anew before names name h = rw h refl

pub repeat_found : (taken names : List Text) (i : ℕ) (x : Text) → i < length names → x ≡ get_or names i x → Left taken names i → (list_any (same_text x) taken || list_any (same_text x) (take i names)) ≡ true → Some x ≡ first_text (repeats_behind taken names)
repeat_found taken names i x within is left found =
    sym (ap first_text (again (stacked taken (take i names)) (drop (i + 1) names) x (any_stacked (same_text x) taken (take i names) ∙ found)))
    ∙ sym (ap (λ l. first_text (repeats_behind (stacked taken (take i names)) l)) (drop_here names i x within is))
    ∙ left

pub repeat_not : (taken names : List Text) (i : ℕ) (x : Text) → i < length names → x ≡ get_or names i x → Left taken names i → (list_any (same_text x) taken || list_any (same_text x) (take i names)) ≡ false → Left taken names (i + 1)
repeat_not taken names i x within is left found =
    ap (λ l. first_text (repeats_behind l (drop (i + 1) names))) (ap (stacked taken) (take_here names i x within is) ∙ stacked_more taken (take i names) x)
    ∙ sym (ap first_text (anew (stacked taken (take i names)) (drop (i + 1) names) x (any_stacked (same_text x) taken (take i names) ∙ found)))
    ∙ sym (ap (λ l. first_text (repeats_behind (stacked taken (take i names)) l)) (drop_here names i x within is))
    ∙ left

pub all_passed : (taken names : List Text) (i : ℕ) → length names ≤ i → Left taken names i → None ≡ first_text (repeats_behind taken names)
all_passed taken names i past left = sym (ap (λ l. first_text (repeats_behind (stacked taken (take i names)) l)) (drop_all i names past)) ∙ left

-- ---- faults of names that stand again

pub none_again : (f : Text → SqlFault) (names : List Text) → None ≡ first_text names → map f names ≡ []
none_again f [] h = refl
none_again f (name ∷ names) h = absurd (none-some name h)

pub first_again : (f : Text → SqlFault) (names : List Text) (x : Text) (e : CatFault) → Some x ≡ first_text names → IsFault (f x ∷ []) e → IsFault (map f names) e
first_again f [] x e h told = absurd (none-some x (sym h))
first_again f (name ∷ names) x e h told = first_stays (f name ∷ []) (map f names) e (subst (λ y. IsFault (f y ∷ []) e) (same_Some x name h) told)
