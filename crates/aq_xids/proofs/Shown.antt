-- What is shown of the subtransactions that are kept, one by one.
use Rattle.std.proofs.Common.{◌≡◌, ℕ, zero, suc, ◌+◌, ◌<◌, ◌≤◌, List, [], ◌∷◌, ◌++◌, length, Option, Some, None, slice_get, refl, sym, ap, subst, ◌∙◌, arith, length-append}
use Rattle.std.proofs.lemmas.Option.{slice_get_past}
use Rattle.std.specs.Option.{option_or}
use Rattle.aq_xids.specs.Subtransactions.{Subtransaction, numbered, fate_by, fate_of, within_by, within_of}
use Rattle.aq_xids.specs.Kept.{kept_at, shown, shown_behind, all_shown, phase_fate, standing_fate, standing_within, held_in, IsTree, IsBegunBelow}
use Rattle.aq_xids.specs.declared.kept.Kept.{Kept}
use Rattle.aq_xids.specs.declared.kept.Phase.{Phase}
use Rattle.aq_xids.specs.declared.kept.Standing.{Standing}
use Rattle.aq_xids.specs.declared.kept.Standing.TheVariants.{Transaction, Inner}
use Rattle.aq_xids.specs.declared.fate.Fate.{Fate}
use Rattle.aq_xids.specs.declared.fate.Fate.TheVariants.{Held, Void, Committed}

pub slice_get-append_left : {A : Type 0} (xs ys : List A) (k : ℕ) → k < length xs → slice_get (xs ++ ys) k ≡ slice_get xs k
slice_get-append_left [] ys k h = absurd (omega arith)
slice_get-append_left (x ∷ xs) ys zero h = refl
slice_get-append_left (x ∷ xs) ys (suc k) h = slice_get-append_left xs ys k (omega arith)

pub slice_get-append_seam : {A : Type 0} (xs : List A) (y : A) (ys : List A) → slice_get (xs ++ y ∷ ys) (length xs) ≡ Some y
slice_get-append_seam [] y ys = refl
slice_get-append_seam (x ∷ xs) y ys = slice_get-append_seam xs y ys

pub length-shown_behind : (before : List Subtransaction) (subs : List Kept) → length (shown_behind before subs) ≡ length before + length subs
length-shown_behind before [] = omega arith
length-shown_behind before (kept ∷ subs) =
    let e = length-shown_behind (before ++ shown before kept ∷ []) subs in
    omega (arith, e, length-append before (shown before kept ∷ []))

pub shown_behind-append : (before : List Subtransaction) (front back : List Kept) → shown_behind before (front ++ back) ≡ shown_behind (shown_behind before front) back
shown_behind-append before [] back = refl
shown_behind-append before (kept ∷ front) back = shown_behind-append (before ++ shown before kept ∷ []) front back

-- what stands before stays
pub shown_behind-before : (before : List Subtransaction) (subs : List Kept) (k : ℕ) → k < length before → slice_get (shown_behind before subs) k ≡ slice_get before k
shown_behind-before before [] k h = refl
shown_behind-before before (kept ∷ subs) k h =
    let more : k < length (before ++ shown before kept ∷ []) = omega (arith, length-append before (shown before kept ∷ [])) in
    shown_behind-before (before ++ shown before kept ∷ []) subs k more ∙ slice_get-append_left before (shown before kept ∷ []) k h

pub numbered-below : (before : List Subtransaction) (subs : List Kept) (n : ℕ) → n ≤ length before → numbered n before ≡ numbered n (shown_behind before subs)
numbered-below before subs zero h = refl
numbered-below before subs (suc k) h = sym (shown_behind-before before subs k (omega arith))

-- at its place stands what is shown of it behind those before it, which stand there too
pub record IsShownAt (all : List Subtransaction) (place : ℕ) (kept : Kept) : Type 0 where
  pub front : List Subtransaction
  pub long : length front ≡ place
  pub same : (n : ℕ) → n ≤ place → numbered n front ≡ numbered n all
  pub is : slice_get all place ≡ Some (shown front kept)

shown_first : (before : List Subtransaction) (kept : Kept) (subs : List Kept) → IsShownAt (shown_behind before (kept ∷ subs)) (length before) kept
shown_first before kept subs =
    let more : length before < length (before ++ shown before kept ∷ []) = omega (arith, length-append before (shown before kept ∷ [])) in
    record {
      front = before;
      long = refl;
      same = λ n h. numbered-below before (kept ∷ subs) n h;
      is = shown_behind-before (before ++ shown before kept ∷ []) subs (length before) more ∙ slice_get-append_seam before (shown before kept) [];
    }

shown_in : (before : List Subtransaction) (subs : List Kept) (k : ℕ) (kept : Kept) → slice_get subs k ≡ Some kept → IsShownAt (shown_behind before subs) (length before + k) kept
shown_in before [] k kept e = cc
shown_in before (first ∷ subs) zero kept e =
    let same : first ≡ kept = cc in
    subst (λ (place : ℕ). IsShownAt (shown_behind before (first ∷ subs)) place kept) (let z : length before ≡ length before + zero = omega arith in z)
    (subst (λ (one : Kept). IsShownAt (shown_behind before (first ∷ subs)) (length before) one) same (shown_first before first subs))
shown_in before (first ∷ subs) (suc k) kept e =
    let more = before ++ shown before first ∷ [] in
    let same : length more + k ≡ length before + suc k = omega (arith, length-append before (shown before first ∷ [])) in
    subst (λ (place : ℕ). IsShownAt (shown_behind more subs) place kept) same (shown_in more subs k kept e)

pub shown_at : (subs : List Kept) (place : ℕ) (kept : Kept) → slice_get subs place ≡ Some kept → IsShownAt (all_shown subs) place kept
unfolding all_shown
shown_at subs place kept e = subst (λ (at : ℕ). IsShownAt (shown_behind [] subs) at kept) (let z : 0 + place ≡ place = omega arith in z) (shown_in [] subs place kept e)

pub length-all_shown : (subs : List Kept) → length (all_shown subs) ≡ length subs
unfolding all_shown
length-all_shown subs = let e = length-shown_behind [] subs in omega (arith, e)

pub all_shown-push : (subs : List Kept) (kept : Kept) → all_shown (subs ++ kept ∷ []) ≡ all_shown subs ++ shown (all_shown subs) kept ∷ []
unfolding all_shown
all_shown-push subs kept = shown_behind-append [] subs (kept ∷ [])

pub all_shown-empty : all_shown [] ≡ []
unfolding all_shown
all_shown-empty = refl

past_none : {A : Type 0} (xs : List A) (k : ℕ) → slice_get xs k ≡ None → length xs ≤ k
past_none [] k e = omega arith
past_none (x ∷ xs) zero e = cc
past_none (x ∷ xs) (suc k) e = let h = past_none xs k e in omega arith

-- a number that none has
pub numbered-none : (subs : List Kept) (n : ℕ) → kept_at subs n ≡ None → numbered n (all_shown subs) ≡ None
numbered-none subs zero e = refl
numbered-none subs (suc k) e =
    let h : length subs ≤ k = past_none subs k e in
    slice_get_past (all_shown subs) k (let l : length (all_shown subs) ≤ k = omega (arith, length-all_shown subs) in l)

pub standing_fate-same : (all front : List Subtransaction) (place n : ℕ) (standing : Standing) → ((k : ℕ) → k ≤ place → numbered k front ≡ numbered k all)
    → IsBegunBelow place standing → standing_fate n standing front ≡ standing_fate n standing all
standing_fate-same all front place n (Transaction course) same h = refl
standing_fate-same all front place n (Inner outer phase) same h = ap (λ sub. phase_fate n phase (fate_by sub)) (same outer h)

standing_within-same : (all front : List Subtransaction) (place n : ℕ) (standing : Standing) → ((k : ℕ) → k ≤ place → numbered k front ≡ numbered k all)
    → IsBegunBelow place standing → standing_within n standing front ≡ standing_within n standing all
standing_within-same all front place n (Transaction course) same h = refl
standing_within-same all front place n (Inner outer phase) same h = ap (λ sub. n ∷ within_by sub) (same outer h)

pub fate_of-kept : (subs : List Kept) → IsTree subs → (n : ℕ) (sub : Kept) → kept_at subs n ≡ Some sub → fate_of n (all_shown subs) ≡ standing_fate n sub.standing (all_shown subs)
fate_of-kept subs tree zero sub e = cc
fate_of-kept subs tree (suc place) sub e =
    let at = shown_at subs place sub e in
    let number : length at.front + 1 ≡ suc place = omega (arith, at.long) in
    ap fate_by at.is ∙ (ap (λ n. standing_fate n sub.standing at.front) number
    ∙ standing_fate-same (all_shown subs) at.front place (suc place) sub.standing at.same (tree.placed place sub e))

pub within_of-kept : (subs : List Kept) → IsTree subs → (n : ℕ) (sub : Kept) → kept_at subs n ≡ Some sub → within_of n (all_shown subs) ≡ standing_within n sub.standing (all_shown subs)
within_of-kept subs tree zero sub e = cc
within_of-kept subs tree (suc place) sub e =
    let at = shown_at subs place sub e in
    let number : length at.front + 1 ≡ suc place = omega (arith, at.long) in
    ap within_by at.is ∙ (ap (λ n. standing_within n sub.standing at.front) number
    ∙ standing_within-same (all_shown subs) at.front place (suc place) sub.standing at.same (tree.placed place sub e))

pub outer_below : (subs : List Kept) → IsTree subs → (n : ℕ) (sub : Kept) → kept_at subs n ≡ Some sub → (outer : ℕ) (phase : Phase) → sub.standing ≡ Inner outer phase → outer < n
outer_below subs tree zero sub e outer phase is = cc
outer_below subs tree (suc place) sub e outer phase is =
    let h : IsBegunBelow place (Inner outer phase) = subst (IsBegunBelow place) is (tree.placed place sub e) in
    omega (arith, h)

pub held_in-void : (holder : Option ℕ) → held_in holder Void ≡ Void
held_in-void None = refl
held_in-void (Some number) = refl

pub held_in-twice : (holder : Option ℕ) (n : ℕ) (fate : Fate) → held_in holder (held_in (Some n) fate) ≡ held_in (option_or holder (Some n)) fate
held_in-twice None n fate = refl
held_in-twice (Some number) n (Held outer) = refl
held_in-twice (Some number) n Void = refl
held_in-twice (Some number) n (Committed commit) = refl

-- one more step up
pub fate_of-up : (subs : List Kept) → IsTree subs → (n at : ℕ) (holder : Option ℕ) (sub : Kept) (standing : Standing)
    → fate_of n (all_shown subs) ≡ held_in holder (fate_of at (all_shown subs)) → kept_at subs at ≡ Some sub → sub.standing ≡ standing
    → fate_of n (all_shown subs) ≡ held_in holder (standing_fate at standing (all_shown subs))
fate_of-up subs tree n at holder sub standing so_far found is =
    so_far ∙ ap (held_in holder) (fate_of-kept subs tree at sub found ∙ ap (λ s. standing_fate at s (all_shown subs)) is)

pub held_in-committed : (holder : Option ℕ) (commit : ℕ) → held_in holder (Committed commit) ≡ Committed commit
held_in-committed None commit = refl
held_in-committed (Some number) commit = refl
