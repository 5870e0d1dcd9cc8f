-- Layers of sessions, and ways along them.
use Rattle.std.proofs.Common.{◌≡◌, inl, inr, ℕ, zero, suc, ◌+◌, ◌-◌, ◌<◌, Bool, true, false, cond, ◌||◌, ◌==◌, List, [], ◌∷◌, ◌++◌, length, Option, Some, None, is_some, refl, sym, ap, ◌∙◌, arith}
use Rattle.std.specs.List.{find, filter, list_any}
use Rattle.std.proofs.Math.ListN.{set}
use Rattle.std.proofs.lemmas.List.{get_or-set_same, get_or-set_other}
use Rattle.std.proofs.lemmas.Bool.{cases_eq}
use Rattle.aq_base.specs.Cycles.{is_in, reaching, first_among, way, is_way, shortest}
use Rattle.aq_xids.specs.Sets.{all_sessions, members}
use Rattle.aq_xids.specs.declared.SessNo.{SessNo}
use Rattle.aq_xids.specs.declared.SessSet.{SessSet}
use Rattle.aq_xids.proofs.Ranges.{find-sessions_same}
use Rattle.aq_waits.specs.Edges.{firsts, set_at, waits_for, AreLayers}

pub is_some-find : (p : ℕ → Bool) (xs : List ℕ) → is_some (find p xs) ≡ list_any p xs
is_some-find p [] = refl
is_some-find p (x ∷ xs) = elim (p x) as (λ b. is_some (cond b (Some x) (find p xs)) ≡ (b || list_any p xs)) [ true ↦ refl | false ↦ is_some-find p xs ]

-- one layer more
pub layers_more : (edges : List SessSet) (goal : ℕ) (layers : List SessSet) (n : ℕ) (layer : SessSet) → 0 < n → n < length layers → AreLayers edges goal layers n
    → members layer.0 ≡ filter (λ k. (k == goal) || list_any (is_in (members (set_at layers (n - 1)))) (waits_for edges k)) all_sessions
    → AreLayers edges goal (set layers n layer) (n + 1)
layers_more edges goal layers zero layer low high before next = absurd (omega arith)
layers_more edges goal layers (suc m) layer low high before next = λ k h. elim (cases_eq k (suc m)) [
  | inl e ↦ rw e (ap members (ap (λ (s : SessSet). s.0) (get_or-set_same layers (suc m) layer (record { 0 = 0 }) high)) ∙ (next
      ∙ (let one : suc m - 1 ≡ m = omega arith in
      let fewer : members (set_at layers (suc m - 1)) ≡ reaching (waits_for edges) all_sessions goal m = ap (λ j. members (set_at layers j)) one ∙ before m (omega arith) in
      ap (λ ns. filter (λ k. (k == goal) || list_any (is_in ns) (waits_for edges k)) all_sessions) fewer)))
  | inr other ↦ ap members (ap (λ (s : SessSet). s.0) (get_or-set_other layers (suc m) k layer (record { 0 = 0 }) other)) ∙ before k (omega arith)
]

pub shortest_by : (edges : List SessSet) (goal : ℕ) (layers : List SessSet) (from : List ℕ) → AreLayers edges goal layers 16
    → find (λ n. is_some (find (is_in (members (set_at layers n))) from)) all_sessions ≡ shortest (waits_for edges) all_sessions goal from
shortest_by edges goal layers from are =
    find-sessions_same (λ n. is_some (find (is_in (members (set_at layers n))) from)) (is_way (waits_for edges) all_sessions goal from)
    (λ j h. ap (λ ns. is_some (first_among from ns)) (are j h))

-- one step of the way
pub way_more : (edges : List SessSet) (goal : ℕ) (layers : List SessSet) (n : ℕ) (from : List ℕ) (k : ℕ) → AreLayers edges goal layers 16 → 0 < n → n < 16
    → find (is_in (members (set_at layers n))) from ≡ Some k
    → way (waits_for edges) all_sessions goal n from ≡ k ∷ way (waits_for edges) all_sessions goal (n - 1) (waits_for edges k)
way_more edges goal layers zero from k are low high found = absurd (omega arith)
way_more edges goal layers (suc m) from k are low high found =
    let first : first_among from (reaching (waits_for edges) all_sessions goal (suc m)) ≡ Some k = ap (first_among from) (sym (are (suc m) high)) ∙ found in
    let one : m ≡ suc m - 1 = omega arith in
    ap (λ (o : Option ℕ). elim o [ None ↦ [] | Some j ↦ j ∷ way (waits_for edges) all_sessions goal m (waits_for edges j) ]) first
    ∙ ap (λ j. k ∷ way (waits_for edges) all_sessions goal j (waits_for edges k)) one

pub way_ends : (edges : List SessSet) (goal : ℕ) (layers : List SessSet) (n : ℕ) (from : List ℕ) → AreLayers edges goal layers 16 → 0 < n → n < 16
    → find (is_in (members (set_at layers n))) from ≡ None → way (waits_for edges) all_sessions goal n from ≡ []
way_ends edges goal layers zero from are low high found = absurd (omega arith)
way_ends edges goal layers (suc m) from are low high found =
    let first : first_among from (reaching (waits_for edges) all_sessions goal (suc m)) ≡ None = ap (first_among from) (sym (are (suc m) high)) ∙ found in
    ap (λ (o : Option ℕ). elim o [ None ↦ [] | Some j ↦ j ∷ way (waits_for edges) all_sessions goal m (waits_for edges j) ]) first

-- one session more at the end of those that are shown
pub take_more_set : (items : List SessNo) (n : ℕ) (s : SessNo) → n < length items
    → firsts (n + 1) (set items n s) ≡ firsts n items ++ s.0 ∷ []
take_more_set [] n s h = absurd (omega arith)
take_more_set (x ∷ items) zero s h = refl
take_more_set (x ∷ items) (suc n) s h =
    let one : suc n + 1 ≡ suc (n + 1) = omega arith in
    rw one (ap (λ ns. x.0 ∷ ns) (take_more_set items n s (omega arith)))
