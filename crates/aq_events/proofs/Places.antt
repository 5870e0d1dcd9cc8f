-- Lists that are written place by place.
use Rattle.std.proofs.Common.{◌≡◌, ℕ, zero, suc, ◌+◌, ◌-◌, ◌<◌, ◌≤◌, Bool, true, false, List, [], ◌∷◌, ◌++◌, length, get_or, take, drop, map, refl, sym, ap, ◌∙◌, arith, cond, filter, slice_get, option_map, Some, None, append_assoc, append-nil, drop-cons, length-append, length-drop}
use Rattle.std.specs.Bool.{if◌then◌else◌}
use Rattle.std.proofs.Math.ListN.{set, length-map}
use Rattle.std.proofs.Math.Seq.{take-suc, take_all, set_at, get_or_at, set_split}
use Rattle.std.proofs.lemmas.List.{length-take-le, get_or-append_right, get_or-map, get_or-drop, at_drop_more, drop_all}
use Rattle.aq_events.specs.Entries.{turns, turned, turned_from, count_turned, marks, marked_as, marked, marked_from, count_marked, is_in, done, event_of, round_of, first_place, first_done, done_at}
use Rattle.aq_events.specs.declared.entries.Entry.{Entry}
use Rattle.aq_events.specs.declared.entries.Turn.{Turn}

-- the places written so far, and behind them the list as it was
pub write_next : {X : Type 0} (done old current : List X) (p : ℕ) (y : X) → length done ≡ length old → p < length old → current ≡ take p done ++ drop p old → y ≡ get_or done p y
    → set current p y ≡ take (p + 1) done ++ drop (p + 1) old
write_next done old current p y same within is new =
    let one : suc p ≡ p + 1 = omega arith in
    let rest = drop (suc p) old in
    ap (λ l. set l p y) (is ∙ ap (λ t. take p done ++ t) (drop-cons old p y within))
    ∙ set_at (take p done) (get_or old p y) rest y p (length-take-le p done (omega arith))
    ∙ ap (λ z. take p done ++ z ∷ rest) new
    ∙ sym (append_assoc (take p done) (get_or done p y ∷ []) rest)
    ∙ ap (λ t. t ++ rest) (sym (take-suc done p y (omega arith)))
    ∙ (λ i. take (one i) done ++ drop (one i) old)

pub read_next : {X : Type 0} (done old current : List X) (p : ℕ) (d : X) → length done ≡ length old → p < length old → current ≡ take p done ++ drop p old → get_or current p d ≡ get_or old p d
read_next done old current p d same within is =
    ap (λ l. get_or l p d) (is ∙ ap (λ t. take p done ++ t) (drop-cons old p d within))
    ∙ get_or_at (take p done) (get_or old p d) (drop (suc p) old) d p (length-take-le p done (omega arith))

pub one_at_most : (b : Bool) → (if b then 1 else 0) ≤ 1
one_at_most true = omega arith
one_at_most false = omega arith

-- ---- turns

pub length-turned_from : (from : ℕ) (turn : Turn) (old : List Entry) → from ≤ length old → length (turned_from from turn old) ≡ length old
length-turned_from from turn old within =
    omega (arith, length-append (take from old) (map (turned turn) (drop from old)), length-take-le from old within, length-map (drop from old) (turned turn), length-drop from old)

pub turned_at : (from p : ℕ) (turn : Turn) (old : List Entry) (d e : Entry) → from ≤ p → p < length old → get_or (turned_from from turn old) p e ≡ turned turn (get_or old p d)
turned_at from p turn old d e behind within =
    let k : from + (p - from) ≡ p = omega arith in
    get_or-append_right (take from old) (map (turned turn) (drop from old)) from p e (length-take-le from old (omega arith)) behind
    ∙ get_or-map (turned turn) (drop from old) (p - from) d e (omega (arith, length-drop from old))
    ∙ ap (turned turn) (get_or-drop from old (p - from) d ∙ ap (λ n. get_or old n d) k)

pub count_turned-next : (turn : Turn) (old : List Entry) (p : ℕ) (d : Entry) → p < length old → count_turned turn (drop p old) ≡ (if turns turn (get_or old p d) then 1 else 0) + count_turned turn (drop (p + 1) old)
count_turned-next turn old p d within = at_drop_more (count_turned turn) old p d within

-- ---- marks

length-marked : (picks : List Bool) (firing : ℕ) (entries : List Entry) → length (marked picks firing entries) ≡ length entries
length-marked [] firing entries = refl
length-marked (pick ∷ picks) firing [] = refl
length-marked (pick ∷ picks) firing (entry ∷ entries) = ap suc (length-marked picks firing entries)

marked-get : (picks : List Bool) (firing : ℕ) (entries : List Entry) (k : ℕ) (b : Bool) (d e : Entry) → k < length picks → k < length entries → get_or (marked picks firing entries) k e ≡ marked_as (get_or picks k b) firing (get_or entries k d)
marked-get [] firing entries k b d e p q = absurd (omega arith)
marked-get (pick ∷ picks) firing [] k b d e p q = absurd (omega arith)
marked-get (pick ∷ picks) firing (entry ∷ entries) zero b d e p q = refl
marked-get (pick ∷ picks) firing (entry ∷ entries) (suc k) b d e p q = marked-get picks firing entries k b d e (omega arith) (omega arith)

pub length-marked_from : (from : ℕ) (picks : List Bool) (firing : ℕ) (old : List Entry) → from ≤ length old → length (marked_from from picks firing old) ≡ length old
length-marked_from from picks firing old within =
    omega (arith, length-append (take from old) (marked picks firing (drop from old)), length-take-le from old within, length-marked picks firing (drop from old), length-drop from old)

pub marked_at : (from p : ℕ) (picks : List Bool) (firing : ℕ) (old : List Entry) (b : Bool) (d e : Entry) → from ≤ p → p < length old → length picks ≡ length (drop from old)
    → get_or (marked_from from picks firing old) p e ≡ marked_as (get_or picks (p - from) b) firing (get_or old p d)
marked_at from p picks firing old b d e behind within same =
    let k : from + (p - from) ≡ p = omega arith in
    get_or-append_right (take from old) (marked picks firing (drop from old)) from p e (length-take-le from old (omega arith)) behind
    ∙ marked-get picks firing (drop from old) (p - from) b d e (omega (arith, length-drop from old)) (omega (arith, length-drop from old))
    ∙ ap (marked_as (get_or picks (p - from) b) firing) (get_or-drop from old (p - from) d ∙ ap (λ n. get_or old n d) k)

pub count_marked-next : (picks : List Bool) (old : List Entry) (from p : ℕ) (b : Bool) (d : Entry) → from ≤ p → p < length old → length picks ≡ length (drop from old)
    → count_marked (drop (p - from) picks) (drop p old) ≡ (if marks (get_or picks (p - from) b) (get_or old p d) then 1 else 0) + count_marked (drop (p + 1 - from) picks) (drop (p + 1) old)
count_marked-next picks old from p b d behind within same =
    let k : p - from + 1 ≡ p + 1 - from = omega arith in
    at_drop_more (λ ps. count_marked ps (drop p old)) picks (p - from) b (omega (arith, length-drop from old))
    ∙ at_drop_more (λ es. count_marked (get_or picks (p - from) b ∷ drop (p - from + 1) picks) es) old p d within
    ∙ ap (λ n. (if marks (get_or picks (p - from) b) (get_or old p d) then 1 else 0) + count_marked (drop n picks) (drop (p + 1) old)) k

pub all_written : {X : Type 0} (done old current : List X) (p : ℕ) → length done ≡ length old → length old ≤ p → current ≡ take p done ++ drop p old → current ≡ done
all_written done old current p same past is = is ∙ (λ i. take_all p done (omega arith) i ++ drop_all p old past i) ∙ append-nil done

-- the first event of a round stands at the first place of its firing
pub first_of_round : (firing : ℕ) (entries : List Entry) → slice_get (round_of firing entries) 0 ≡ option_map event_of (slice_get entries (first_place firing entries))
first_of_round firing [] = refl
first_of_round firing (entry ∷ entries) = by_fate (is_in firing entry.fate) (first_of_round firing entries)
  where
    one : (n : ℕ) → suc n ≡ n + 1
    one n = omega arith

    by_fate : (b : Bool) → slice_get (round_of firing entries) 0 ≡ option_map event_of (slice_get entries (first_place firing entries))
        → slice_get (map event_of (cond b (entry ∷ filter (λ e. is_in firing e.fate) entries) (filter (λ e. is_in firing e.fate) entries))) 0 ≡ option_map event_of (slice_get (entry ∷ entries) (if b then 0 else first_place firing entries + 1))
    by_fate true rest = refl
    by_fate false rest = rest ∙ ap (λ n. option_map event_of (slice_get (entry ∷ entries) n)) (one (first_place firing entries))

pub first_done-cons : (entries : List Entry) (place : ℕ) (entry : Entry) → place < length entries → entry ≡ get_or entries place entry → done_at place entries ≡ set entries place (record entry { fate = done entry.fate })
first_done-cons entries place entry within is =
    ap (λ rest. take place entries ++ first_done rest) (drop-cons entries place entry within)
    ∙ ap (λ e. take place entries ++ record e { fate = done e.fate } ∷ drop (suc place) entries) (sym is)
    ∙ sym (set_split entries place (record entry { fate = done entry.fate }) within)

past_end : {X : Type 0} (xs : List X) (n : ℕ) → length xs ≤ n → slice_get xs n ≡ None
past_end [] n past = refl
past_end (x ∷ xs) zero past = absurd (omega arith)
past_end (x ∷ xs) (suc n) past = past_end xs n (omega arith)

in_range : {X : Type 0} (xs : List X) (n : ℕ) (d : X) → n < length xs → slice_get xs n ≡ Some (get_or xs n d)
in_range [] n d within = absurd (omega arith)
in_range (x ∷ xs) zero d within = refl
in_range (x ∷ xs) (suc n) d within = in_range xs n d (omega arith)

-- the round has a first event exactly where the first place of its firing is within the list
pub no_round : (firing place : ℕ) (entries seen : List Entry) → entries ≡ seen → place ≡ first_place firing entries → length seen ≤ place → None ≡ slice_get (round_of firing entries) 0
no_round firing place entries seen same is past =
    ap (option_map event_of) (sym (past_end entries (first_place firing entries) (omega (arith, ap length same)))) ∙ sym (first_of_round firing entries)

pub next_of_round : (firing place : ℕ) (entries seen : List Entry) (entry : Entry) → entries ≡ seen → place ≡ first_place firing entries → place < length seen → entry ≡ get_or seen place entry
    → Some entry.event ≡ slice_get (round_of firing entries) 0
next_of_round firing place entries seen entry same is within at =
    ap (λ e. Some (event_of e)) (at ∙ (λ i. get_or (sym same i) (is i) entry))
    ∙ ap (option_map event_of) (sym (in_range entries (first_place firing entries) entry (omega (arith, ap length same))))
    ∙ sym (first_of_round firing entries)
