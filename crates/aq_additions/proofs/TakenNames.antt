-- The index of the names that a statement adds, as it changes.
use Rattle.std.proofs.Common.{◌≡◌, ℕ, ◌≤◌, Bool, true, false, ◌||◌, if◌then◌else◌, List, [], ◌∷◌, ◌++◌, Option, Some, None, unwrap_or, is_some, Result, Ok, Err, OnOk, OnErr, refl, ap, sym, ◌∙◌, subst, arith, append_assoc}
use Rattle.std.specs.List.{list_any}
use Rattle.std.specs.Map.{lookup}
use Rattle.std.specs.Fmt.{decimal}
use Rattle.std.proofs.lemmas.Cmp.{nat_list_eq_equiv}
use Rattle.std.proofs.lemmas.Bool.{false≢true}
use Rattle.std.proofs.lemmas.Option.{same_Some}
use Rattle.std.proofs.lemmas.List.Folds.{list_any-append}
use Rattle.aq_base.specs.Names.{Text, same_text}
use Rattle.aq_catalog.specs.Numbered.{AreTaken}
use Rattle.aq_additions.specs.Taken.{HasAdded, IsSearched, entered}

flipped : (a b : Text) → same_text a b ≡ same_text b a
flipped a b = nat_list_eq_equiv.symm a b

-- ---- a name more

or_more : (a b : Bool) → a ≡ true → (a || b) ≡ true
or_more true b h = refl
or_more false b h = absurd (false≢true h)

still_taken : (taken more : List Text) (name : Text) (n : ℕ) → AreTaken taken name n → AreTaken (taken ++ more) name n
still_taken taken more name n lesser k positive below =
    list_any-append (same_text (name ++ decimal k)) taken more
    ∙ or_more (list_any (same_text (name ++ decimal k)) taken) (list_any (same_text (name ++ decimal k)) more) (lesser k positive below)

or_last : (a : Bool) → true ≡ (a || (true || false))
or_last true = refl
or_last false = refl

or_none : (a : Bool) → a ≡ (a || (false || false))
or_none true = refl
or_none false = refl

added_more : (old new : List (Text × ℕ)) (added : List Text) (name : Text) → HasAdded old added → ((q : Text) → lookup (same_text q) new ≡ entered name old q) → HasAdded new (added ++ name ∷ [])
added_more old new added name was changes q =
    ap is_some (changes q) ∙ by (same_text name q) refl ∙ sym (list_any-append (same_text q) added (name ∷ []))
  where
    by : (b : Bool) → same_text name q ≡ b → is_some (if b then Some (unwrap_or (lookup (same_text q) old) 1) else lookup (same_text q) old) ≡ (list_any (same_text q) added || (same_text q name || false))
    by true e = rw (flipped q name ∙ e) (or_last (list_any (same_text q) added))
    by false e = rw (flipped q name ∙ e) (was q ∙ or_none (list_any (same_text q) added))

searched_more : (old new : List (Text × ℕ)) (taken more : List Text) (name : Text) → IsSearched old taken → ((q : Text) → lookup (same_text q) new ≡ entered name old q) → IsSearched new (taken ++ more)
searched_more old new taken more name was changes q n h = by (same_text name q) (lookup (same_text q) old) refl (sym (changes q) ∙ h)
  where
    kept : (o : Option ℕ) → lookup (same_text q) old ≡ o → o ≡ Some n → (1 ≤ n) × AreTaken (taken ++ more) q n
    kept o is h = let w = was q n (is ∙ h) in (w.0, still_taken taken more q n w.1)

    by : (b : Bool) (o : Option ℕ) → lookup (same_text q) old ≡ o → (if b then Some (unwrap_or o 1) else o) ≡ Some n → (1 ≤ n) × AreTaken (taken ++ more) q n
    by true None is h = let one : 1 ≡ n = same_Some 1 n h in (omega arith, λ k positive below. absurd (omega arith))
    by true (Some m) is h = kept (Some m) is h
    by false o is h = kept o is h

-- the index after a call that adds a name to it, which memory may end
pub added_or_not : {T E : Type 0} (r : Result T E) (old new : List (Text × ℕ)) (before was is : List Text) (name : Text) → HasAdded old was → IsSearched old (before ++ was)
    → OnOk r (is ≡ was ++ name ∷ []) → OnOk r ((q : Text) → lookup (same_text q) new ≡ entered name old q) → OnErr r ((is ≡ was) × (new ≡ old))
    → HasAdded new is × IsSearched new (before ++ is)
added_or_not (Ok x) old new before was is name added searched more changes same = (
  subst (HasAdded new) (sym more) (added_more old new was name added changes),
  subst (IsSearched new) (append_assoc before was (name ∷ []) ∙ ap (λ l. before ++ l) (sym more)) (searched_more old new (before ++ was) (name ∷ []) name searched changes),
)
added_or_not (Err e) old new before was is name added searched more changes same =
    subst (λ (l : List Text). HasAdded new l × IsSearched new (before ++ l)) (sym same.0)
    (subst (λ (entries : List (Text × ℕ)). HasAdded entries was × IsSearched entries (before ++ was)) (sym same.1) (added, searched))
