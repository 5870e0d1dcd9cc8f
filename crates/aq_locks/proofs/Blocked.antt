-- Who stands in the way, by the holders of a row.
use Rattle.std.proofs.Common.{◌≡◌, ℕ, zero, suc, ◌+◌, ◌-◌, ◌<◌, ◌≤◌, Bool, true, false, not, cond, ◌&&◌, ◌==◌, List, [], ◌∷◌, map, length, None, get_or, refl, sym, ap, ◌∙◌, arith}
use Rattle.std.specs.List.{filter, range_with_len}
use Rattle.std.proofs.lemmas.List.{get_or-map, length-map}
use Rattle.aq_base.specs.Maps.{at}
use Rattle.aq_base.specs.LockModes.{Holdings, conflicts_with}
use Rattle.aq_base.specs.Blockers.{others_from, with_number, row_blockers}
use Rattle.aq_base.specs.declared.data.LockMode.{LockMode}
use Rattle.aq_xids.specs.Sets.{has, all_sessions, members}
use Rattle.aq_xids.proofs.Ranges.{members_by}
use Rattle.aq_locks.specs.Logs.{holdings_of}
use Rattle.aq_locks.specs.Rows.{Rows, mode_in, locks_of, IsLocks}
use Rattle.aq_locks.specs.declared.log.Taken.{Taken}

filter_same : (p q : ℕ → Bool) (a n : ℕ) → ((j : ℕ) → a ≤ j → j < a + n → p j ≡ q j) → filter p (range_with_len a n) ≡ filter q (range_with_len a n)
filter_same p q a zero same = refl
filter_same p q a (suc n) same = rw (same a (omega arith) (omega arith), filter_same p q (a + 1) n (λ j l h. same j (omega arith) (omega arith))) refl

with_number-cond : (b : Bool) (n : ℕ) (ns : List ℕ) → with_number b n ns ≡ cond b (n ∷ ns) ns
with_number-cond true n ns = refl
with_number-cond false n ns = refl

passes : ℕ → ℕ → (Holdings → Bool) → List Holdings → ℕ → Bool
passes number own test entries n = not (n == own) && test (get_or entries (n - number) [])

others_range : (number own : ℕ) (test : Holdings → Bool) (entries : List Holdings)
    → others_from number own test entries ≡ filter (passes number own test entries) (range_with_len number (length entries))
unfolding passes
others_range number own test [] = refl
others_range number own test (entry ∷ entries) =
    let none : number - number ≡ 0 = omega arith in
    let first : passes number own test (entry ∷ entries) number ≡ (not (number == own) && test entry) = ap (λ k. not (number == own) && test (get_or (entry ∷ entries) k [])) none in
    let rest : filter (passes (number + 1) own test entries) (range_with_len (number + 1) (length entries)) ≡ filter (passes number own test (entry ∷ entries)) (range_with_len (number + 1) (length entries)) =
    filter_same (passes (number + 1) own test entries) (passes number own test (entry ∷ entries)) (number + 1) (length entries)
    (λ j l h. let one : suc (j - (number + 1)) ≡ j - number = omega arith in ap (λ k. not (j == own) && test (get_or (entry ∷ entries) k [])) one) in
    with_number-cond (not (number == own) && test entry) number (others_from (number + 1) own test entries)
    ∙ (ap (λ tail. cond (not (number == own) && test entry) (number ∷ tail) tail) (others_range (number + 1) own test entries ∙ rest)
    ∙ ap (λ b. let tail = filter (passes number own test (entry ∷ entries)) (range_with_len (number + 1) (length entries)) in cond b (number ∷ tail) tail) (sym first))

pub row_blockers_by : (rows : Rows) (items : List (List Taken)) (own row : ℕ) (mode : LockMode) → IsLocks rows items
    → filter (λ n. not (n == own) && conflicts_with mode (mode_in rows row n)) all_sessions ≡ row_blockers own (map holdings_of (map locks_of items)) row mode
unfolding all_sessions passes
row_blockers_by rows items own row mode is =
    let holdings = map holdings_of (map locks_of items) in
    let test : Holdings → Bool = λ held. conflicts_with mode (at row held) in
    let long : length holdings ≡ 16 = length-map (map locks_of items) holdings_of ∙ (length-map items locks_of ∙ is.sessions) in
    let same : filter (λ n. not (n == own) && conflicts_with mode (mode_in rows row n)) (range_with_len 0 16) ≡ filter (passes 0 own test holdings) (range_with_len 0 16) =
    filter_same (λ n. not (n == own) && conflicts_with mode (mode_in rows row n)) (passes 0 own test holdings) 0 16
    (λ j l h. let within : j < length items = let s = is.sessions in omega arith in
    let within' : j < length (map locks_of items) = let s = length-map items locks_of in omega arith in
    let z : j - 0 ≡ j = omega arith in
    let told : get_or holdings (j - 0) [] ≡ holdings_of (locks_of (get_or items j [])) =
    ap (λ k. get_or holdings k []) z ∙ (get_or-map holdings_of (map locks_of items) j [] [] within' ∙ ap holdings_of (get_or-map locks_of items j [] [] within)) in
    ap (λ held. not (j == own) && conflicts_with mode held) (is.held j (omega arith) row ∙ ap (at row) (sym told))) in
    same ∙ (ap (λ n. filter (passes 0 own test holdings) (range_with_len 0 n)) (sym long) ∙ sym (others_range 0 own test holdings))

and_false : (b : Bool) → (b && false) ≡ false
and_false true = refl
and_false false = refl

-- nobody holds the row
pub none_blocks : (rows : Rows) (set own row : ℕ) (mode : LockMode) → ((n : ℕ) → has set n ≡ false) → ((n : ℕ) → mode_in rows row n ≡ None)
    → members set ≡ filter (λ n. not (n == own) && conflicts_with mode (mode_in rows row n)) all_sessions
none_blocks rows set own row mode empty free =
    members_by set (λ n. not (n == own) && conflicts_with mode (mode_in rows row n))
    (λ j h. empty j ∙ sym (ap (λ held. not (j == own) && conflicts_with mode held) (free j) ∙ and_false (not (j == own))))
