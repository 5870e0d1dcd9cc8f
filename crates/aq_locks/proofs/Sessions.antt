-- The logs of all sessions.
use Rattle.std.proofs.Common.{◌≡◌, inl, inr, ℕ, zero, suc, ◌+◌, ◌<◌, ◌≤◌, Bool, true, false, List, [], ◌∷◌, ◌++◌, map, take, length, Some, get_or, slice_get, refl, sym, ap, ◌∙◌, arith}
use Rattle.std.specs.Global.{Global}
use Rattle.std.specs.Prelude.{Vec}
use Rattle.std.proofs.Math.ListN.{set, length-set, replicate}
use Rattle.std.proofs.lemmas.List.{get_or-set_same, get_or-set_other, get_or-map, length-map, map-append}
use Rattle.std.proofs.lemmas.Bool.{cases_eq}
use Rattle.aq_base.specs.Maps.{at}
use Rattle.aq_base.specs.declared.data.LockMode.{LockMode}
use Rattle.aq_locks.specs.Logs.{holdings_of, log_at, log_unless, with_lock, covers, cut}
use Rattle.aq_locks.specs.Rows.{Rows, mode_in, lock_of, locks_of, items_of, returned_items, IsHeldBy, IsLogged, KeepsOthers, KeepsModes, IsLocks}
use Rattle.aq_locks.specs.declared.log.Taken.{Taken}

-- one session holds something else
pub locks_changed : (old new : Rows) (logs : List (List Taken)) (session : ℕ) (log : List Taken) → IsLocks old logs → session < 16 → IsHeldBy new session log → IsLogged log
    → KeepsOthers old new session → IsLocks new (set logs session log)
locks_changed old new logs session log is below held logged keeps =
    let within : session < length logs = let l = is.sessions in omega arith in
    record {
      sessions = length-set logs session log ∙ is.sessions;
      held = λ s h. elim (cases_eq s session) [
        | inl e ↦ rw (e, get_or-set_same logs session log [] within) held
        | inr other ↦ rw (get_or-set_other logs session s log [] other) (λ row. keeps row s other ∙ is.held s h row)
      ];
      logged = λ s h. elim (cases_eq s session) [
        | inl e ↦ rw (e, get_or-set_same logs session log [] within) logged
        | inr other ↦ rw (get_or-set_other logs session s log [] other) (is.logged s h)
      ];
    }

-- nobody holds anything else
pub locks_kept : (old new : Rows) (logs : List (List Taken)) → IsLocks old logs → KeepsModes old new → IsLocks new logs
locks_kept old new logs is keeps = record { sessions = is.sessions; held = λ s h row. keeps row s ∙ is.held s h row; logged = is.logged }

slice_get_take : {A : Type 0} (xs : List A) (n k : ℕ) (x : A) → slice_get (take n xs) k ≡ Some x → (slice_get xs k ≡ Some x) × (k < n)
slice_get_take xs zero k x e = cc
slice_get_take [] (suc n) k x e = cc
slice_get_take (y ∷ xs) (suc n) zero x e = (e, omega arith)
slice_get_take (y ∷ xs) (suc n) (suc k) x e = let r = slice_get_take xs n k x e in (r.0, omega (arith, r.1))

take_take : {A : Type 0} (xs : List A) (k n : ℕ) → k ≤ n → take k (take n xs) ≡ take k xs
take_take xs zero n h = refl
take_take xs (suc k) zero h = absurd (omega arith)
take_take [] (suc k) (suc n) h = refl
take_take (x ∷ xs) (suc k) (suc n) h = ap (λ ys. x ∷ ys) (take_take xs k n (omega arith))

pub logged_take : (log : List Taken) (n : ℕ) → IsLogged log → IsLogged (take n log)
logged_take log n logged place taken e =
    let r = slice_get_take log n place taken e in
    let below : place ≤ n = let h = r.1 in omega arith in
    rw (take_take log place n below) (logged place taken r.0)

map_set : {A B : Type 0} (f : A → B) (xs : List A) (i : ℕ) (x : A) → map f (set xs i x) ≡ set (map f xs) i (f x)
map_set f [] i x = refl
map_set f (y ∷ xs) zero x = refl
map_set f (y ∷ xs) (suc i) x = ap (λ ys. f y ∷ ys) (map_set f xs i x)

pub items_set : (logs : List (Vec Taken Global)) (i : ℕ) (log : Vec Taken Global) → items_of (set logs i log) ≡ set (items_of logs) i log.items
items_set logs i log = map_set (λ (l : Vec Taken Global). l.items) logs i log

pub length_items : (logs : List (Vec Taken Global)) → length (items_of logs) ≡ length logs
length_items [] = refl
length_items (log ∷ logs) = ap suc (length_items logs)

pub item_at : (logs : List (Vec Taken Global)) (session : ℕ) (d : Vec Taken Global) → session < length logs → get_or (items_of logs) session [] ≡ (get_or logs session d).items
item_at logs session d h = get_or-map (λ (l : Vec Taken Global). l.items) logs session d [] h

pub cut_more : (lens : List ℕ) (logs : List (List Taken)) (s : ℕ) → s < length lens → s < length logs
    → set (cut (take s lens) logs) s (take (get_or lens s 0) (get_or (cut (take s lens) logs) s [])) ≡ cut (take (s + 1) lens) logs
cut_more [] logs s h l = absurd (omega arith)
cut_more (n ∷ lens) [] s h l = absurd (omega arith)
cut_more (n ∷ lens) (log ∷ logs) zero h l = refl
cut_more (n ∷ lens) (log ∷ logs) (suc s) h l =
    let one : suc s + 1 ≡ suc (s + 1) = omega arith in
    rw one (ap (λ rest. take n log ∷ rest) (cut_more lens logs s (omega arith) (omega arith)))

pub cut_whole : (lens : List ℕ) (logs : List (List Taken)) (n : ℕ) → length lens ≤ n → cut (take n lens) logs ≡ cut lens logs
cut_whole [] logs zero h = refl
cut_whole [] logs (suc n) h = refl
cut_whole (k ∷ lens) logs zero h = absurd (omega arith)
cut_whole (k ∷ lens) [] (suc n) h = refl
cut_whole (k ∷ lens) (log ∷ logs) (suc n) h = ap (λ rest. take k log ∷ rest) (cut_whole lens logs n (omega arith))

-- ---- a lock is taken

log_at_shown : (items : List (List Taken)) (s : ℕ) → s < length items → log_at (map locks_of items) s ≡ locks_of (get_or items s [])
log_at_shown items s h = get_or-map locks_of items s [] [] h

pub covers_shown : (rows : Rows) (items : List (List Taken)) (s row : ℕ) (mode : LockMode) (b : Bool) → IsLocks rows items → s < 16
    → covers (mode_in rows row s) mode ≡ b → covers (at row (holdings_of (log_at (map locks_of items) s))) mode ≡ b
covers_shown rows items s row mode b is below e =
    let within : s < length items = let l = is.sessions in omega arith in
    ap (λ log. covers (at row (holdings_of log)) mode) (log_at_shown items s within) ∙ (ap (λ held. covers held mode) (sym (is.held s below row)) ∙ e)

pub set_same : {A : Type 0} (xs : List A) (i : ℕ) (d : A) → set xs i (get_or xs i d) ≡ xs
set_same [] i d = refl
set_same (x ∷ xs) zero d = refl
set_same (x ∷ xs) (suc i) d = ap (λ ys. x ∷ ys) (set_same xs i d)

pub covered_shown : (items : List (List Taken)) (s row : ℕ) (mode : LockMode) → covers (at row (holdings_of (log_at (map locks_of items) s))) mode ≡ true
    → map locks_of items ≡ with_lock s row mode (map locks_of items)
covered_shown items s row mode e =
    sym (set_same (map locks_of items) s []) ∙ ap (λ b. set (map locks_of items) s (log_unless b row mode (log_at (map locks_of items) s))) (sym e)

pub pushed_shown : (items : List (List Taken)) (s : ℕ) (t : Taken) → s < length items → covers (at t.row (holdings_of (log_at (map locks_of items) s))) t.mode ≡ false
    → map locks_of (set items s (get_or items s [] ++ t ∷ [])) ≡ with_lock s t.row t.mode (map locks_of items)
pushed_shown items s t within e =
    let one : locks_of (get_or items s [] ++ t ∷ []) ≡ log_at (map locks_of items) s ++ (t.row, t.mode) ∷ [] =
    map-append lock_of (get_or items s []) (t ∷ []) ∙ ap (λ front. front ++ (t.row, t.mode) ∷ []) (sym (log_at_shown items s within)) in
    map_set locks_of items s (get_or items s [] ++ t ∷ [])
    ∙ (ap (set (map locks_of items) s) one ∙ ap (λ b. set (map locks_of items) s (log_unless b t.row t.mode (log_at (map locks_of items) s))) (sym e))

-- ---- what is shown of a return

map_take : {A B : Type 0} (f : A → B) (xs : List A) (n : ℕ) → map f (take n xs) ≡ take n (map f xs)
map_take f xs zero = refl
map_take f [] (suc n) = refl
map_take f (x ∷ xs) (suc n) = ap (λ ys. f x ∷ ys) (map_take f xs n)

pub shown_returned : (items : List (List Taken)) (s n : ℕ) → s < length items
    → map locks_of (returned_items s n items) ≡ set (map locks_of items) s (take n (log_at (map locks_of items) s))
shown_returned items s n h =
    map_set locks_of items s (take n (get_or items s []))
    ∙ ap (set (map locks_of items) s) (map_take lock_of (get_or items s []) n ∙ ap (take n) (sym (log_at_shown items s h)))

pub shown_cut : (lens : List ℕ) (items : List (List Taken)) → map locks_of (cut lens items) ≡ cut lens (map locks_of items)
shown_cut [] items = refl
shown_cut (n ∷ lens) [] = refl
shown_cut (n ∷ lens) (log ∷ items) =
    let one = map_take lock_of log n in let rest = shown_cut lens items in cc

pub log_length : (items : List (List Taken)) (s : ℕ) → s < length items → length (log_at (map locks_of items) s) ≡ length (get_or items s [])
log_length items s h = ap length (log_at_shown items s h) ∙ length-map (get_or items s []) lock_of

same_places : (xs ys : List ℕ) → length xs ≡ length ys → ((k : ℕ) → k < length xs → get_or xs k 0 ≡ get_or ys k 0) → xs ≡ ys
same_places [] [] l same = refl
same_places [] (y ∷ ys) l same = absurd (omega arith)
same_places (x ∷ xs) [] l same = absurd (omega arith)
same_places (x ∷ xs) (y ∷ ys) l same =
    let first : x ≡ y = same 0 (omega arith) in
    let rest : xs ≡ ys = same_places xs ys (omega arith) (λ k h. same (suc k) (omega arith)) in
    cc

pub lengths_by : (items : List (List Taken)) (lens : List ℕ) → length lens ≡ length items → ((k : ℕ) → k < length items → get_or lens k 0 ≡ length (get_or items k []))
    → lens ≡ map length (map locks_of items)
lengths_by items lens long each =
    let whole : length (map length (map locks_of items)) ≡ length items = length-map (map locks_of items) length ∙ length-map items locks_of in
    same_places lens (map length (map locks_of items)) (long ∙ sym whole)
    (λ k h. let within : k < length items = omega arith in
    let within' : k < length (map locks_of items) = let l = length-map items locks_of in omega arith in
    each k within ∙ sym (get_or-map length (map locks_of items) k [] 0 within' ∙ log_length items k within))

pub all_empty : (logs : List (Vec Taken Global)) (n : ℕ) → length logs ≡ n → ((k : ℕ) (d : Vec Taken Global) → k < n → (get_or logs k d).items ≡ []) → items_of logs ≡ replicate n []
all_empty [] zero e each = refl
all_empty [] (suc n) e each = absurd (omega arith)
all_empty (log ∷ logs) zero e each = absurd (omega arith)
all_empty (log ∷ logs) (suc n) e each =
    let first : log.items ≡ [] = each 0 log (omega arith) in
    let rest : items_of logs ≡ replicate n [] = all_empty logs n (omega arith) (λ k d h. each (suc k) d (omega arith)) in
    cc
