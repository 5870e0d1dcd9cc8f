-- What is kept of a table, in lists that change.
use Rattle.std.proofs.Common.{◌≡◌, ℕ, zero, suc, ◌<◌, ◌==◌, Bool, true, false, List, [], ◌∷◌, ◌++◌, length, get_or, slice_get, slice_set, if◌then◌else◌, map, refl, ap, sym, ◌∙◌, arith, Some, None}
use Rattle.std.proofs.lemmas.Bool.Decides.{nat_tests}
use Rattle.aq_catalog.specs.Listed.{Listed, nothing_listed, listed_at, listed_below}

pub listed_at-reach : (xs : List Listed) (t : ℕ) → listed_at (xs ++ nothing_listed ∷ []) t ≡ listed_at xs t
listed_at-reach [] zero = refl
listed_at-reach [] (suc t) = refl
listed_at-reach (x ∷ xs) zero = refl
listed_at-reach (x ∷ xs) (suc t) = listed_at-reach xs t

pub listed_at-get_or : (xs : List Listed) (k : ℕ) (d : Listed) → k < length xs → get_or xs k d ≡ listed_at xs k
listed_at-get_or [] k d h = absurd (omega arith)
listed_at-get_or (x ∷ xs) zero d h = refl
listed_at-get_or (x ∷ xs) (suc k) d h = listed_at-get_or xs k d (omega arith)

pub listed_at-same : (xs : List Listed) (k : ℕ) (v : Listed) → k < length xs → listed_at (slice_set xs k v) k ≡ v
listed_at-same [] k v h = absurd (omega arith)
listed_at-same (x ∷ xs) zero v h = refl
listed_at-same (x ∷ xs) (suc k) v h = listed_at-same xs k v (omega arith)

pub listed_at-other : (xs : List Listed) (k : ℕ) (v : Listed) (t : ℕ) → (k == t) ≡ false → listed_at (slice_set xs k v) t ≡ listed_at xs t
listed_at-other [] k v t h = refl
listed_at-other (x ∷ xs) zero v zero h = absurd (grind (arith, nat_tests))
listed_at-other (x ∷ xs) zero v (suc t) h = refl
listed_at-other (x ∷ xs) (suc k) v zero h = refl
listed_at-other (x ∷ xs) (suc k) v (suc t) h = listed_at-other xs k v t (grind (arith, nat_tests))

pub listed_at-set : (xs : List Listed) (k : ℕ) (f : Listed → Listed) (v : Listed) → k < length xs → v ≡ f (listed_at xs k) → (t : ℕ) → listed_at (slice_set xs k v) t ≡ (if k == t then f (listed_at xs t) else listed_at xs t)
listed_at-set xs k f v h e t = by (k == t) refl
  where
    by : (b : Bool) → (k == t) ≡ b → listed_at (slice_set xs k v) t ≡ (if b then f (listed_at xs t) else listed_at xs t)
    by true is =
        let same : k ≡ t = grind (arith, nat_tests) in
        ap (λ n. listed_at (slice_set xs k v) n) (sym same) ∙ (listed_at-same xs k v h ∙ (e ∙ ap (λ n. f (listed_at xs n)) same))
    by false is = listed_at-other xs k v t is

pub listed_at-below : (keys triggers : ℕ) (xs : List Listed) (t : ℕ) → listed_at (map (listed_below keys triggers) xs) t ≡ listed_below keys triggers (listed_at xs t)
listed_at-below keys triggers [] t = refl
listed_at-below keys triggers (x ∷ xs) zero = refl
listed_at-below keys triggers (x ∷ xs) (suc t) = listed_at-below keys triggers xs t

pub listed_at-found : (xs : List Listed) (t : ℕ) (l : Listed) → slice_get xs t ≡ Some l → l ≡ listed_at xs t
listed_at-found [] t l e = absurd (cc)
listed_at-found (x ∷ xs) zero l e = cc
listed_at-found (x ∷ xs) (suc t) l e = listed_at-found xs t l e

pub listed_at-none : (xs : List Listed) (t : ℕ) → slice_get xs t ≡ None → nothing_listed ≡ listed_at xs t
listed_at-none [] t e = refl
listed_at-none (x ∷ xs) zero e = absurd (cc)
listed_at-none (x ∷ xs) (suc t) e = listed_at-none xs t e

pub listed_at-added : (before rows : List Listed) (k : ℕ) (f : Listed → Listed) (d v : Listed) → ((t : ℕ) → listed_at rows t ≡ listed_at before t) → k < length rows → d ≡ get_or rows k d → v ≡ f d → (t : ℕ) → listed_at (slice_set rows k v) t ≡ (if k == t then f (listed_at before t) else listed_at before t)
listed_at-added before rows k f d v same h read e t =
    listed_at-set rows k f v h (e ∙ ap f (read ∙ listed_at-get_or rows k d h)) t ∙ ap (λ l. if k == t then f l else l) (same t)
