-- The first names of transition tables.
use Rattle.std.proofs.Common.{◌≡◌, refl, ℕ, suc, ◌<◌, List, [], ◌∷◌, ◌++◌, length, get_or, take, drop, sym, ap, ◌∙◌, Some, cond, is_some, nat_lt, rules}
use Rattle.aq_base.specs.Names.{Text}
use Rattle.aq_base.specs.declared.trigger.Transition.{Transition}
use Rattle.aq_base.specs.declared.trigger.Transition.TheVariants as transitions
use Rattle.aq_base.specs.declared.trigger.TransitionTable.{TransitionTable}
use Rattle.aq_setup.specs.Triggers.{is_old, first_text}
use Rattle.aq_triggers.specs.Transitions.{olds, news}
use Rattle.aq_catalog.proofs.FirstFound.{found_here}

pub old_here : (xs : List TransitionTable) (i : ℕ) (x : TransitionTable) → i < length xs → x ≡ get_or xs i x → olds (take i xs) ≡ []
    → x.transition ≡ transitions.Old → Some x.name ≡ first_text (olds xs)
old_here xs i x within is none which =
    sym (ap first_text (found_here (λ (t : TransitionTable). cond (is_old t.transition) (t.name ∷ []) []) xs i x within is none
    ∙ ap (λ (found : Transition). cond (is_old found) (x.name ∷ []) [] ++ olds (drop (suc i) xs)) which))

pub new_here : (xs : List TransitionTable) (i : ℕ) (x : TransitionTable) → i < length xs → x ≡ get_or xs i x → news (take i xs) ≡ []
    → x.transition ≡ transitions.New → Some x.name ≡ first_text (news xs)
new_here xs i x within is none which =
    sym (ap first_text (found_here (λ (t : TransitionTable). cond (is_old t.transition) [] (t.name ∷ [])) xs i x within is none
    ∙ ap (λ (found : Transition). cond (is_old found) [] (x.name ∷ []) ++ news (drop (suc i) xs)) which))

-- whether there is a first name
pub has_first : (names : List Text) → is_some (first_text names) ≡ nat_lt 0 (length names)
has_first [] = refl
has_first (name ∷ names) = search rules
