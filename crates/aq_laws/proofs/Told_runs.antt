-- A schedule is had back from the longest runs of its steps, and they from their text.
use Rattle.std.proofs.Common.{◌≡◌, ℕ, zero, suc, ◌+◌, ◌^◌, ◌<◌, ◌≤◌, Bool, true, false, not, ◌||◌, eqb, ltb, List, [], ◌∷◌, ◌++◌, length, length-append, refl, sym, ap, ◌∙◌, append_assoc, arith, codes, true≢false, eqb-true, ltb-true, add-one}
use Rattle.std.specs.Prelude.{replicate}
use Rattle.std.specs.List.{list_all, list_any, flat_map}
use Rattle.std.specs.Cmp.Lexicographic.{bytes_decides}
use Rattle.std.specs.Fmt.{decimal}
use Rattle.std.proofs.lemmas.Fmt.{decimal_is_IsNumeral_wide}
use Rattle.std.specs.Str.Parse.{digits_value}
use Rattle.std.proofs.lemmas.Bool.{and_parts, cond_both}
use Rattle.aq_base.specs.Names.{Text, same_text, goes_on_in_word, is_name, is_apart_from, all_differ}
use Rattle.aq_run.specs.Runs.{Schedule}
use Rattle.aq_texts.specs.Schedules.{name_at, with_step, runs_of, run_item}
use Rattle.aq_laws.specs.Told.{is_free_of, are_named}
use Rattle.aq_laws.proofs.Told_bytes.{free_of-append, name_free, decimal_free, cuts}

-- ---- the steps of the runs

abbrev steps_of : List (ℕ × ℕ) → Schedule
steps_of runs = flat_map (λ (item : ℕ × ℕ). replicate item.1 item.0) runs

steps_of-with_step : (s : ℕ) (runs : List (ℕ × ℕ)) → steps_of (with_step s runs) ≡ s ∷ steps_of runs
steps_of-with_step s [] = refl
steps_of-with_step s (first ∷ others) =
    cond_both (eqb s first.0) ((first.0, first.1 + 1) ∷ others) ((s, 1) ∷ first ∷ others) (λ (r : List (ℕ × ℕ)). steps_of r ≡ s ∷ steps_of (first ∷ others))
    (λ e. rw (add-one, eqb-true s first.0 e) refl) (λ _. refl)

pub steps_of-runs_of : (w : Schedule) → steps_of (runs_of w) ≡ w
steps_of-runs_of [] = refl
steps_of-runs_of (s ∷ w) = steps_of-with_step s (runs_of w) ∙ ap (λ (t : Schedule). s ∷ t) (steps_of-runs_of w)

-- a schedule has no other runs
pub runs_of-injective : (v w : Schedule) → runs_of v ≡ runs_of w → v ≡ w
runs_of-injective v w e = sym (steps_of-runs_of v) ∙ ap (λ (r : List (ℕ × ℕ)). steps_of r) e ∙ steps_of-runs_of w

-- ---- names and lengths of runs

-- each run is of a session below n, and has k steps at the most
abbrev pub RunsFit : ℕ → ℕ → List (ℕ × ℕ) → Type 0
RunsFit n k [] = Unit {0}
RunsFit n k (first ∷ others) = (first.0 < n) × (first.1 ≤ k) × RunsFit n k others

RunsFit-more : (n k : ℕ) (runs : List (ℕ × ℕ)) → RunsFit n k runs → RunsFit n (suc k) runs
RunsFit-more n k [] fit = tt
RunsFit-more n k (first ∷ others) fit = (fit.0, omega arith, RunsFit-more n k others fit.2)

RunsFit-with_step : (n k s : ℕ) (runs : List (ℕ × ℕ)) → s < n → RunsFit n k runs → RunsFit n (suc k) (with_step s runs)
RunsFit-with_step n k s [] below fit = (below, omega arith, tt)
RunsFit-with_step n k s (first ∷ others) below fit =
    cond_both (eqb s first.0) ((first.0, first.1 + 1) ∷ others) ((s, 1) ∷ first ∷ others) (RunsFit n (suc k))
    (λ _. (fit.0, omega arith, RunsFit-more n k others fit.2)) (λ _. (below, omega arith, RunsFit-more n k (first ∷ others) fit))

pub RunsFit-runs_of : (names : List Text) (w : Schedule) → are_named names w ≡ true → RunsFit (length names) (length w) (runs_of w)
RunsFit-runs_of names [] named = tt
RunsFit-runs_of names (s ∷ w) named =
    let parts = and_parts (ltb s (length names)) (are_named names w) named in
    RunsFit-with_step (length names) (length w) s (runs_of w) (ltb-true s (length names) parts.0) (RunsFit-runs_of names w parts.1)

-- ---- a name is at one place

neither : (a b : Bool) → not (a || b) ≡ true → (a ≡ false) × (not b ≡ true)
neither true b e = absurd (true≢false (sym e))
neither false b e = (refl, e)

pub not_there : (names : List Text) (name : Text) (s : ℕ) → is_apart_from names name ≡ true → s < length names → name ≡ name_at names s → ⊥
not_there [] name s apart below e = absurd (omega arith)
not_there (first ∷ names) name zero apart below e =
    true≢false (sym ((bytes_decides name first).1 e) ∙ (neither (same_text name first) (list_any (same_text name) names) apart).0)
not_there (first ∷ names) name (suc s) apart below e =
    not_there names name s (neither (same_text name first) (list_any (same_text name) names) apart).1 (omega arith) e

name_at-injective : (names : List Text) (s t : ℕ) → all_differ names ≡ true → s < length names → t < length names → name_at names s ≡ name_at names t → s ≡ t
name_at-injective [] s t differ p q e = absurd (omega arith)
name_at-injective (name ∷ names) zero zero differ p q e = refl
name_at-injective (name ∷ names) zero (suc t) differ p q e = absurd (not_there names name t (and_parts (is_apart_from names name) (all_differ names) differ).0 (omega arith) e)
name_at-injective (name ∷ names) (suc s) zero differ p q e = absurd (not_there names name s (and_parts (is_apart_from names name) (all_differ names) differ).0 (omega arith) (sym e))
name_at-injective (name ∷ names) (suc s) (suc t) differ p q e = ap suc (name_at-injective names s t (and_parts (is_apart_from names name) (all_differ names) differ).1 (omega arith) (omega arith) e)

name_at-free : (byte : ℕ) (names : List Text) (s : ℕ) → goes_on_in_word byte ≡ false → list_all is_name names ≡ true → is_free_of byte (name_at names s) ≡ true
name_at-free byte [] s fails all = refl
name_at-free byte (name ∷ names) zero fails all = name_free byte name fails (and_parts (is_name name) (list_all is_name names) all).0
name_at-free byte (name ∷ names) (suc s) fails all = name_at-free byte names s fails (and_parts (is_name name) (list_all is_name names) all).1

-- ---- the text of the runs

decimal-injective : (m n : ℕ) → m < 10 ^ 64 → n < 10 ^ 64 → decimal m ≡ decimal n → m ≡ n
decimal-injective m n p q e = sym (decimal_is_IsNumeral_wide m p).1 ∙ ap (digits_value 10) e ∙ (decimal_is_IsNumeral_wide n q).1

-- the items with a blank behind each, in place of one before it
behind : List Text → List (ℕ × ℕ) → Text
behind names [] = []
behind names (item ∷ items) = name_at names item.0 ++ 42 ∷ (decimal item.1 ++ 32 ∷ behind names items)

items_behind : (names : List Text) (items : List (ℕ × ℕ)) → flat_map (run_item names) items ++ 32 ∷ [] ≡ 32 ∷ behind names items
unfolding behind
items_behind names [] = refl
items_behind names (item ∷ items) =
    append_assoc (run_item names item) (flat_map (run_item names) items) (32 ∷ []) ∙ ap (λ (t : Text). run_item names item ++ t) (items_behind names items)
    ∙ append_assoc (codes " " ++ name_at names item.0 ++ codes "*") (decimal item.1) (32 ∷ behind names items)
    ∙ append_assoc (codes " " ++ name_at names item.0) (codes "*") (decimal item.1 ++ 32 ∷ behind names items)

behind-injective : (names : List Text) (k l : ℕ) (a b : List (ℕ × ℕ)) → list_all is_name names ≡ true → all_differ names ≡ true → k < 10 ^ 64 → l < 10 ^ 64
    → RunsFit (length names) k a → RunsFit (length names) l b → behind names a ≡ behind names b → a ≡ b
unfolding behind
behind-injective names k l [] [] are differ p q f g e = refl
behind-injective names k l [] (item ∷ b) are differ p q f g e =
    let lengths : 0 ≡ length (behind names (item ∷ b)) = ap length e in absurd (omega (arith, simp length-append at lengths))
behind-injective names k l (item ∷ a) [] are differ p q f g e =
    let lengths : 0 ≡ length (behind names (item ∷ a)) = ap length (sym e) in absurd (omega (arith, simp length-append at lengths))
behind-injective names k l (x ∷ a) (y ∷ b) are differ p q f g e =
    let outer = cuts 42 (name_at names x.0) (name_at names y.0) (decimal x.1 ++ 32 ∷ behind names a) (decimal y.1 ++ 32 ∷ behind names b)
    (name_at-free 42 names x.0 refl are) (name_at-free 42 names y.0 refl are) e in
    let inner = cuts 32 (decimal x.1) (decimal y.1) (behind names a) (behind names b) (decimal_free 32 x.1 refl) (decimal_free 32 y.1 refl) outer.1 in
    let session : x.0 ≡ y.0 = name_at-injective names x.0 y.0 differ f.0 g.0 outer.0 in
    let steps : x.1 ≡ y.1 = decimal-injective x.1 y.1 (omega arith) (omega arith) inner.0 in
    let others = behind-injective names k l a b are differ p q f.2 g.2 inner.1 in
    λ i. (session i, steps i) ∷ others i

-- the items of runs tell the runs
pub items-injective : (names : List Text) (k l : ℕ) (a b : List (ℕ × ℕ)) → list_all is_name names ≡ true → all_differ names ≡ true → k < 10 ^ 64 → l < 10 ^ 64
    → RunsFit (length names) k a → RunsFit (length names) l b → flat_map (run_item names) a ≡ flat_map (run_item names) b → a ≡ b
items-injective names k l a b are differ p q f g e =
    let same : 32 ∷ behind names a ≡ 32 ∷ behind names b = sym (items_behind names a) ∙ ap (λ (t : Text). t ++ 32 ∷ []) e ∙ items_behind names b in
    behind-injective names k l a b are differ p q f g cc

-- ---- the text of a schedule's runs has no LF

pub item_free : (names : List Text) (item : ℕ × ℕ) → list_all is_name names ≡ true → is_free_of 10 (run_item names item) ≡ true
item_free names item are =
    free_of-append 10 (name_at names item.0 ++ codes "*") (decimal item.1)
    (free_of-append 10 (name_at names item.0) (codes "*") (name_at-free 10 names item.0 refl are) refl) (decimal_free 10 item.1 refl)

pub items_free : (names : List Text) (items : List (ℕ × ℕ)) → list_all is_name names ≡ true → is_free_of 10 (flat_map (run_item names) items) ≡ true
items_free names [] are = refl
items_free names (item ∷ items) are = free_of-append 10 (run_item names item) (flat_map (run_item names) items) (item_free names item are) (items_free names items are)
