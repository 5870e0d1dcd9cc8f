-- Look-ups in maps.
use Rattle.std.proofs.Common.{◌≡◌, ◌≢◌, ℕ, ◌<◌, Bool, true, false, cond, not, T, ◌==◌, ◌&&◌, ◌⊎◌, inl, inr, ⊎_elim, List, [], ◌∷◌, Some, None, Contains, nat_cmp, refl, sym, ◌∙◌, ap, subst, arith, eqb-true}
use Rattle.std.specs.List.{list_any}
use Rattle.std.specs.Ordering.{is_lt, is_eq}
use Rattle.std.specs.Cmp.{unsigned_tied}
use Rattle.std.specs.FinMap.Entries.{below_all, find-put, find-where_key, is_sorted-put, is_sorted-where_key}
use Rattle.std.proofs.lemmas.Cmp.{nat_cmp_total}
use Rattle.std.proofs.lemmas.Bool.{false≢true, cases_eq, eq-eqb, ne_eqb, or_parts, or_cases}
use Rattle.std.proofs.lemmas.Bool.Decides.{nat_tests}
use Rattle.std.proofs.lemmas.Option.{same_Some, none-some}
use Rattle.aq_base.specs.Maps.{at, with_at, without}
use Rattle.aq_base.proofs.Lists.{Contains-none, Contains-cons_cases}
pub use Rattle.aq_base.specs.Maps.{KeysRise}

-- the second map is the first with a value at a number where it had none
pub record Adds {X : Type 0} (n : ℕ) (x : X) (before after : List (ℕ × X)) : Type 0 where
  pub free : at n before ≡ None
  pub here : at n after ≡ Some x
  pub elsewhere : (q : ℕ) → q ≢ n → at q after ≡ at q before

pub at-cons : {X : Type 0} (q : ℕ) (entry : ℕ × X) (entries : List (ℕ × X)) → at q (entry ∷ entries) ≡ cond (q == entry.0) (Some entry.1) (at q entries)
at-cons q entry entries = ap (λ b. cond b (Some entry.1) (at q entries)) (unsigned_tied q entry.0)

pub at-with_at : {X : Type 0} (q n : ℕ) (x : X) (entries : List (ℕ × X)) → at q (with_at n x entries) ≡ cond (q == n) (Some x) (at q entries)
at-with_at q n x entries = find-put nat_cmp nat_cmp_total q n x entries ∙ ap (λ b. cond b (Some x) (at q entries)) (unsigned_tied q n)

pub at-with_at_same : {X : Type 0} (n : ℕ) (x : X) (entries : List (ℕ × X)) → at n (with_at n x entries) ≡ Some x
at-with_at_same n x entries = at-with_at n n x entries ∙ ap (λ b. cond b (Some x) (at n entries)) (eq-eqb n n refl)

pub at-with_at_other : {X : Type 0} (q n : ℕ) (x : X) (entries : List (ℕ × X)) → q ≢ n → at q (with_at n x entries) ≡ at q entries
at-with_at_other q n x entries other = at-with_at q n x entries ∙ ap (λ b. cond b (Some x) (at q entries)) (ne_eqb q n other)

pub KeysRise-with_at : {X : Type 0} (n : ℕ) (x : X) (entries : List (ℕ × X)) → KeysRise entries → KeysRise (with_at n x entries)
KeysRise-with_at n x entries rise = is_sorted-put nat_cmp nat_cmp_total n x entries rise

pub Adds-with_at : {X : Type 0} (n : ℕ) (x : X) (entries : List (ℕ × X)) → at n entries ≡ None → Adds n x entries (with_at n x entries)
Adds-with_at n x entries free = record { free = free; here = at-with_at_same n x entries; elsewhere = λ q other. at-with_at_other q n x entries other }

-- what was there stays
pub Adds-kept : {X : Type 0} (n : ℕ) (x : X) (before after : List (ℕ × X)) → Adds n x before after → (q : ℕ) (y : X) → at q before ≡ Some y → at q after ≡ Some y
Adds-kept n x before after adds q y was =
    ⊎_elim (λ same. absurd (none-some y (sym adds.free ∙ rw (← same) was))) (λ other. adds.elsewhere q other ∙ was) (cases_eq q n)

-- what is there is new, or was there
pub Adds-cases : {X : Type 0} (n : ℕ) (x : X) (before after : List (ℕ × X)) → Adds n x before after → (q : ℕ) (y : X) → at q after ≡ Some y → ((q ≡ n) × (y ≡ x)) ⊎ (at q before ≡ Some y)
Adds-cases n x before after adds q y is =
    ⊎_elim (λ same. inl (same, same_Some y x (sym is ∙ ap (λ k. at k after) same ∙ adds.here))) (λ other. inr (sym (adds.elsewhere q other) ∙ is)) (cases_eq q n)

-- ---- a value less

-- the second map is the first without what it had at a number
pub record Removes {X : Type 0} (n : ℕ) (before after : List (ℕ × X)) : Type 0 where
  pub gone : at n after ≡ None
  pub elsewhere : (q : ℕ) → q ≢ n → at q after ≡ at q before

pub at-without : {X : Type 0} (q n : ℕ) (entries : List (ℕ × X)) → at q (without n entries) ≡ cond (not (q == n)) (at q entries) None
at-without q n entries =
    find-where_key nat_cmp (λ k. not (k == n)) q (λ x tied. ap (λ k. not (k == n)) (sym (eqb-true q x (sym (unsigned_tied q x) ∙ ap is_eq tied)))) entries

pub Removes-without : {X : Type 0} (n : ℕ) (entries : List (ℕ × X)) → Removes n entries (without n entries)
Removes-without n entries =
    record {
      gone = at-without n n entries ∙ ap (λ b. cond (not b) (at n entries) None) (eq-eqb n n refl);
      elsewhere = λ q other. at-without q n entries ∙ ap (λ b. cond (not b) (at q entries) None) (ne_eqb q n other);
    }

pub KeysRise-without : {X : Type 0} (n : ℕ) (entries : List (ℕ × X)) → KeysRise entries → KeysRise (without n entries)
KeysRise-without n entries rise = is_sorted-where_key nat_cmp (λ k. not (k == n)) entries rise

-- what is left stands elsewhere, and was there
pub Removes-left : {X : Type 0} (n : ℕ) (before after : List (ℕ × X)) → Removes n before after → (q : ℕ) (x : X) → at q after ≡ Some x → (q ≢ n) × (at q before ≡ Some x)
Removes-left n before after removes q x is =
    let other : q ≢ n = λ same. none-some x (sym removes.gone ∙ ap (λ k. at k after) (sym same) ∙ is) in
    (other, sym (removes.elsewhere q other) ∙ is)

-- ---- by the first entry

pub at-first : {X : Type 0} (entry : ℕ × X) (entries : List (ℕ × X)) → at entry.0 (entry ∷ entries) ≡ Some entry.1
at-first entry entries = at-cons entry.0 entry entries ∙ ap (λ b. cond b (Some entry.1) (at entry.0 entries)) (eq-eqb entry.0 entry.0 refl)

pub at-rest : {X : Type 0} (q : ℕ) (entry : ℕ × X) (entries : List (ℕ × X)) → q ≢ entry.0 → at q (entry ∷ entries) ≡ at q entries
at-rest q entry entries other = at-cons q entry entries ∙ ap (λ b. cond b (Some entry.1) (at q entries)) (ne_eqb q entry.0 other)

below : (a b : ℕ) → T (is_lt (nat_cmp a b)) → a < b
below a b less = grind (arith, nat_tests)

parts : (a b : Bool) → T (a && b) → T a × T b
parts true true both = (tt, tt)
parts true false both = absurd both
parts false b both = absurd both

-- a key below all others isn't among them
pub at-below : {X : Type 0} (n : ℕ) (entries : List (ℕ × X)) → T (below_all nat_cmp n entries) → at n entries ≡ None
at-below n [] less = refl
at-below n (entry ∷ entries) less =
    let both = parts _ _ less in
    let first = below n entry.0 both.0 in
    at-rest n entry entries (λ same. omega arith) ∙ at-below n entries both.1

-- the first key isn't among the others
pub at-first_alone : {X : Type 0} (entry : ℕ × X) (entries : List (ℕ × X)) → KeysRise (entry ∷ entries) → at entry.0 entries ≡ None
at-first_alone entry entries rise = at-below entry.0 entries (parts _ _ rise).0

pub KeysRise-rest : {X : Type 0} (entry : ℕ × X) (entries : List (ℕ × X)) → KeysRise (entry ∷ entries) → KeysRise entries
KeysRise-rest entry entries rise = (parts _ _ rise).1

-- each entry stands at its key
pub at-Contains : {X : Type 0} (entry : ℕ × X) (entries : List (ℕ × X)) → KeysRise entries → Contains entries entry → at entry.0 entries ≡ Some entry.1
at-Contains entry [] rise c = absurd (Contains-none entry c)
at-Contains entry (first ∷ entries) rise c = by_place (Contains-cons_cases first entry entries c) (λ later. at-Contains entry entries (KeysRise-rest first entries rise) later)
  where
    behind : at entry.0 entries ≡ Some entry.1 → at entry.0 (first ∷ entries) ≡ Some entry.1
    behind stands =
        at-rest entry.0 first entries (λ same. none-some entry.1 (sym (at-first_alone first entries rise) ∙ ap (λ k. at k entries) (sym same) ∙ stands)) ∙ stands

    by_place : (first ≡ entry) ⊎ Contains entries entry → (Contains entries entry → at entry.0 entries ≡ Some entry.1) → at entry.0 (first ∷ entries) ≡ Some entry.1
    by_place (inl same) rest = subst (λ e. at e.0 (first ∷ entries) ≡ Some e.1) same (at-first first entries)
    by_place (inr later) rest = behind (rest later)

-- a value that passes a test stands at some number
pub record Passing {X : Type 0} (p : X → Bool) (entries : List (ℕ × X)) : Type 0 where
  pub number : ℕ
  pub value : X
  pub stands : at number entries ≡ Some value
  pub passes : p value ≡ true

pub Passing-any : {X : Type 0} (p : X → Bool) (entries : List (ℕ × X)) → KeysRise entries → list_any (λ entry. p entry.1) entries ≡ true → Passing p entries
Passing-any p [] rise any = absurd (false≢true any)
Passing-any {X} p (entry ∷ entries) rise any = ⊎_elim first (λ later. with_first (Passing-any p entries (KeysRise-rest entry entries rise) later)) (or_cases _ _ any)
  where
    first : p entry.1 ≡ true → Passing p (entry ∷ entries)
    first passes = record { number = entry.0; value = entry.1; stands = at-first entry entries; passes = passes }

    with_first : Passing p entries → Passing p (entry ∷ entries)
    with_first found =
        record {
          number = found.number;
          value = found.value;
          stands = at-rest found.number entry entries (λ same. none-some found.value (sym (at-first_alone entry entries rise) ∙ ap (λ k. at k entries) (sym same) ∙ found.stands)) ∙ found.stands;
          passes = found.passes;
        }

-- where no value passes a test, none that stands at a number does
pub passes_none : {X : Type 0} (p : X → Bool) (entries : List (ℕ × X)) → list_any (λ entry. p entry.1) entries ≡ false → (n : ℕ) (x : X) → at n entries ≡ Some x → p x ≡ false
passes_none p [] none n x is = absurd (none-some x is)
passes_none p (entry ∷ entries) none n x is = by_key (cases_eq n entry.0) (passes_none p entries fail.1 n x)
  where
    fail : (p entry.1 ≡ false) × (list_any (λ e. p e.1) entries ≡ false)
    fail = or_parts _ _ none

    by_key : (n ≡ entry.0) ⊎ (n ≢ entry.0) → (at n entries ≡ Some x → p x ≡ false) → p x ≡ false
    by_key (inl same) later = subst (λ y. p y ≡ false) (same_Some entry.1 x (sym (at-first entry entries) ∙ ap (λ k. at k (entry ∷ entries)) (sym same) ∙ is)) fail.0
    by_key (inr other) later = later (sym (at-rest n entry entries other) ∙ is)
