-- The sessions that wait never form a cycle.
use Rattle.std.proofs.Common.{◌≡◌, ◌≢◌, ℕ, ◌≤◌, ◌<◌, Bool, true, false, arith, List, [], ◌∷◌, Option, Some, None, refl, sym, ap, ◌∙◌, subst, ⊎_elim, ◌⊎◌, inl, inr, eqb-true, Contains}
use Rattle.std.specs.Prelude.{◌+◌, ◌==◌, ◌||◌, ◌&&◌, not, zero, suc, length, map, slice_index_or, slice_get}
use Rattle.std.specs.List.{list_any, enumerate_from}
use Rattle.std.proofs.lemmas.Bool.{true≢false, cases_eq, eq-eqb, ne_eqb, or_cases}
use Rattle.std.proofs.lemmas.Option.{none-some}
use Rattle.aq_base.specs.Values.{Row}
use Rattle.aq_base.specs.Maps.{at}
use Rattle.aq_base.specs.Databases.{Database, last_database}
use Rattle.aq_base.specs.Writes.{Write, Writes}
use Rattle.aq_base.specs.LockModes.{conflicts_with}
use Rattle.aq_base.specs.declared.catalog.UniqueKey.{UniqueKey}
use Rattle.aq_base.specs.Blockers.{Ask, is_apart, image_has_key, stored_has_key, others_from, with_number, touches_key}
use Rattle.aq_base.specs.Blockers.Ask.{For_row, For_key}
use Rattle.aq_outcomes.specs.Parties.{key_ask_blockers}
use Rattle.aq_run.specs.Programs.{Program}
use Rattle.aq_run.specs.States.{Session, State, nobody, session_at, around, held_by, written_by}
use Rattle.aq_run.specs.Waits.{blockers_of, numbers}
use Rattle.aq_base.proofs.Lists.{Contains-first, Contains-later}
use Rattle.aq_base.proofs.Maps.{KeysRise, at-Contains}
use Rattle.aq_run.proofs.Ranks.{IsIn, in-first, in-later, in-none}

-- ---- who is among the blockers

pub record Is_found {A : Type 0} (number own : ℕ) (test : A → Bool) (entries : List A) (nothing : A) (m : ℕ) : Type 0 where
  pub place : ℕ
  pub is : m ≡ number + place
  pub within : place < length entries
  pub other : m ≢ own
  pub passes : test (slice_index_or entries place nothing) ≡ true

both : (a b : Bool) → (a && b) ≡ true → (a ≡ true) × (b ≡ true)
both true true e = (refl, refl)
both true false e = absurd (true≢false (sym e))
both false b e = absurd (true≢false (sym e))

with_number-cases : (b : Bool) (number m : ℕ) (numbers : List ℕ) → IsIn (with_number b number numbers) m → ((b ≡ true) × (number ≡ m)) ⊎ IsIn numbers m
with_number-cases true number m numbers is = ⊎_elim (λ same. inl (refl, eqb-true number m same)) (λ later. inr later) (or_cases (number == m) (list_any (λ k. k == m) numbers) is)
with_number-cases false number m numbers is = inr is

not_true : (b : Bool) → not b ≡ true → b ≡ false
not_true true e = absurd (true≢false (sym e))
not_true false e = refl

pub found-among : {A : Type 0} (number own : ℕ) (test : A → Bool) (entries : List A) (nothing : A) (m : ℕ) → IsIn (others_from number own test entries) m → Is_found number own test entries nothing m
found-among number own test [] nothing m is = absurd (true≢false (sym is))
found-among number own test (entry ∷ entries) nothing m is =
    ⊎_elim
    (λ (here : ((not (number == own) && test entry) ≡ true) × (number ≡ m)).
    let parts = both (not (number == own)) (test entry) here.0 in
    record {
      place = 0;
      is = let e = here.1 in omega (arith, e);
      within = omega arith;
      other = λ same. true≢false (sym (eq-eqb number own (here.1 ∙ same)) ∙ not_true (number == own) parts.0);
      passes = parts.1;
    })
    (λ later.
    let rest = found-among (number + 1) own test entries nothing m later in
    record { place = suc rest.place; is = let e = rest.is in omega (arith, e); within = let w = rest.within in omega (arith, w); other = rest.other; passes = rest.passes })
    (with_number-cases (not (number == own) && test entry) number m (others_from (number + 1) own test entries) is)

with_number-first : (b : Bool) (number : ℕ) (numbers : List ℕ) → b ≡ true → IsIn (with_number b number numbers) number
with_number-first true number numbers e = in-first number numbers
with_number-first false number numbers e = absurd (true≢false (sym e))

with_number-later : (b : Bool) (number m : ℕ) (numbers : List ℕ) → IsIn numbers m → IsIn (with_number b number numbers) m
with_number-later true number m numbers is = in-later number m numbers is
with_number-later false number m numbers is = is

both-hold : (a b : Bool) → a ≡ true → b ≡ true → (a && b) ≡ true
both-hold true b e f = f
both-hold false b e f = absurd (true≢false (sym e))

pub among-found : {A : Type 0} (number own : ℕ) (test : A → Bool) (entries : List A) (nothing : A) (place m : ℕ) → m ≡ number + place → place < length entries → m ≢ own →
    test (slice_index_or entries place nothing) ≡ true → IsIn (others_from number own test entries) m
among-found number own test [] nothing place m e within other passes = absurd (omega (arith, within))
among-found number own test (entry ∷ entries) nothing zero m e within other passes =
    let same : number ≡ m = omega (arith, e) in
    subst (IsIn (with_number (not (number == own) && test entry) number (others_from (number + 1) own test entries))) same
    (with_number-first (not (number == own) && test entry) number (others_from (number + 1) own test entries)
    (both-hold (not (number == own)) (test entry) (ap not (ne_eqb number own (λ is. other (sym same ∙ is)))) passes))
among-found number own test (entry ∷ entries) nothing (suc place) m e within other passes =
    with_number-later (not (number == own) && test entry) number m (others_from (number + 1) own test entries)
    (among-found (number + 1) own test entries nothing place m (omega (arith, e)) (omega (arith, within)) other passes)

-- the numbers of a list's places
pub in-numbers : {A : Type 0} (entries : List A) (first m : ℕ) → first ≤ m → m < first + length entries → IsIn (map (λ entry. entry.0) (enumerate_from first entries)) m
in-numbers [] first m low high = absurd (omega (arith, low, high))
in-numbers (entry ∷ entries) first m low high =
    ⊎_elim (λ (same : first ≡ m). subst (IsIn (first ∷ map (λ entry. entry.0) (enumerate_from (first + 1) entries))) same (in-first first (map (λ entry. entry.0) (enumerate_from (first + 1) entries))))
    (λ (other : first ≢ m). in-later first m (map (λ entry. entry.0) (enumerate_from (first + 1) entries)) (in-numbers entries (first + 1) m (omega (arith, low, other)) (omega (arith, high))))
    (cases_eq first m)

-- ---- whom a session waits for, session by session

abbrev pub touches_one : Database → Row → Option ℕ → Option UniqueKey → List Writes → Bool
touches_one last values apart None works = false
touches_one last values apart (Some key) works = list_any (λ writes. list_any (touches_key last key.table key.cols values apart) writes) works

-- a session is in the way of what another one asks for
abbrev pub is_in_way : Program → Database → Ask → Session → Bool
is_in_way program last (For_row row mode) session = conflicts_with mode (at row (held_by session))
is_in_way program last (For_key key values apart) session = touches_one last values apart (slice_get program.schema.catalog.keys key) (written_by session)

abbrev pub is_waited_for : Program → Database → Option Ask → Session → Bool
is_waited_for program last None session = false
is_waited_for program last (Some ask) session = is_in_way program last ask session

map-entry : {A : Type 0} (f : Session → A) (all : List Session) (j : ℕ) → slice_index_or (map f all) j (f nobody) ≡ f (slice_index_or all j nobody)
map-entry f [] zero = refl
map-entry f [] (suc j) = refl
map-entry f (one ∷ all) zero = refl
map-entry f (one ∷ all) (suc j) = map-entry f all j

map-length : {A : Type 0} (f : Session → A) (all : List Session) → length (map f all) ≡ length all
map-length f [] = refl
map-length f (one ∷ all) = let rest = map-length f all in omega (arith, rest)

module _ (program : Program) (st : State) (i : ℕ) where
  in_way-from : {A : Type 0} (f : Session → A) (test : A → Bool) (k : ℕ) → Is_found 0 i test (map f st.sessions) (f nobody) k → (k < length st.sessions) × ((k ≢ i) × (test (f (session_at st k)) ≡ true))
  in_way-from f test k found =
      let same : found.place ≡ k = let e = found.is in omega (arith, e) in
      let low : found.place < length st.sessions = subst (λ n. found.place < n) (map-length f st.sessions) found.within in (
        subst (λ n. n < length st.sessions) same low,
        (found.other, ap (λ j. test (f (session_at st j))) (sym same) ∙ ap test (sym (map-entry f st.sessions found.place)) ∙ found.passes),
      )

  in_way-to : {A : Type 0} (f : Session → A) (test : A → Bool) (k : ℕ) → k < length st.sessions → k ≢ i → test (f (session_at st k)) ≡ true → IsIn (others_from 0 i test (map f st.sessions)) k
  in_way-to f test k low other passes =
      among-found 0 i test (map f st.sessions) (f nobody) k k (omega arith) (subst (λ n. k < n) (sym (map-length f st.sessions)) low) other (ap test (map-entry f st.sessions k) ∙ passes)

  abbrev last : Database
  last = last_database st.world.history

  key-from : (values : Row) (apart : Option ℕ) (key : Option UniqueKey) (k : ℕ) → IsIn (key_ask_blockers (around st) i values apart key) k →
      (k < length st.sessions) × ((k ≢ i) × (touches_one last values apart key (written_by (session_at st k)) ≡ true))
  key-from values apart None k is = absurd (in-none k is)
  key-from values apart (Some key) k is =
      in_way-from written_by (λ works. list_any (λ writes. list_any (touches_key last key.table key.cols values apart) writes) works) k
      (found-among 0 i (λ works. list_any (λ writes. list_any (touches_key last key.table key.cols values apart) writes) works) (map written_by st.sessions) [] k is)

  key-to : (values : Row) (apart : Option ℕ) (key : Option UniqueKey) (k : ℕ) → k < length st.sessions → k ≢ i → touches_one last values apart key (written_by (session_at st k)) ≡ true →
      IsIn (key_ask_blockers (around st) i values apart key) k
  key-to values apart None k low other touches = absurd (true≢false (sym touches))
  key-to values apart (Some key) k low other touches = in_way-to written_by (λ works. list_any (λ writes. list_any (touches_key last key.table key.cols values apart) writes) works) k low other touches

  -- a session waits for another one that is in the way of what it asks for
  pub waited-from : (ask : Option Ask) (k : ℕ) → IsIn (blockers_of program st i ask) k → (k < length st.sessions) × ((k ≢ i) × (is_waited_for program last ask (session_at st k) ≡ true))
  waited-from None k is = absurd (in-none k is)
  waited-from (Some (For_row row mode)) k is =
      in_way-from held_by (λ held. conflicts_with mode (at row held)) k (found-among 0 i (λ held. conflicts_with mode (at row held)) (map held_by st.sessions) [] k is)
  waited-from (Some (For_key key values apart)) k is = key-from values apart (slice_get program.schema.catalog.keys key) k is

  pub waited-to : (ask : Option Ask) (k : ℕ) → k < length st.sessions → k ≢ i → is_waited_for program last ask (session_at st k) ≡ true → IsIn (blockers_of program st i ask) k
  waited-to None k low other waits = absurd (true≢false (sym waits))
  waited-to (Some (For_row row mode)) k low other waits = in_way-to held_by (λ held. conflicts_with mode (at row held)) k low other waits
  waited-to (Some (For_key key values apart)) k low other waits = key-to values apart (slice_get program.schema.catalog.keys key) k low other waits

-- who waits is a session
pub in_range : (all : List Session) (j : ℕ) (ask : Ask) → (slice_index_or all j nobody).waits ≡ Some ask → j < length all
in_range [] zero ask is = absurd (none-some ask is)
in_range [] (suc j) ask is = absurd (none-some ask is)
in_range (one ∷ all) zero ask is = omega arith
in_range (one ∷ all) (suc j) ask is = let rest = in_range all j ask is in omega (arith, rest)

-- ---- the key that is asked for is touched as before where no commit has changed a row that is written

any-same : {A : Type 0} (p q : A → Bool) (xs : List A) → ((x : A) → Contains xs x → p x ≡ q x) → list_any p xs ≡ list_any q xs
any-same p q [] same = refl
any-same p q (x ∷ xs) same = ap (λ b. b || list_any p xs) (same x (Contains-first x xs)) ∙ ap (λ b. q x || b) (any-same p q xs (λ y c. same y (Contains-later x y xs c)))

-- no work has written a row that differs in the two databases
abbrev pub All_untouched : List Writes → Database → Database → Type 0
All_untouched works db next = (writes : Writes) → Contains works writes → KeysRise writes × ((row : ℕ) (one : Write) → at row writes ≡ Some one → at row next ≡ at row db)

touches-same : (values : Row) (apart : Option ℕ) (key : Option UniqueKey) (works : List Writes) (db next : Database) → All_untouched works db next → touches_one next values apart key works ≡ touches_one db values apart key works
touches-same values apart None works db next untouched = refl
touches-same values apart (Some key) works db next untouched =
    any-same (λ writes. list_any (touches_key next key.table key.cols values apart) writes) (λ writes. list_any (touches_key db key.table key.cols values apart) writes) works
    (λ writes c. any-same (touches_key next key.table key.cols values apart) (touches_key db key.table key.cols values apart) writes
    (λ entry d. entry_same entry ((untouched writes c).1 entry.0 entry.1 (at-Contains entry writes (untouched writes c).0 d))))
  where
    entry_same : (entry : ℕ × Write) → at entry.0 next ≡ at entry.0 db → touches_key next key.table key.cols values apart entry ≡ touches_key db key.table key.cols values apart entry
    entry_same entry same =
        ap (λ found. not (is_apart apart entry.0) && (entry.1.table == key.table && (image_has_key key.cols values entry.1.image || stored_has_key key.table key.cols values found))) same

pub waited-same : (program : Program) (ask : Option Ask) (session : Session) (db next : Database) → All_untouched (written_by session) db next → is_waited_for program next ask session ≡ is_waited_for program db ask session
waited-same program None session db next untouched = refl
waited-same program (Some (For_row row mode)) session db next untouched = refl
waited-same program (Some (For_key key values apart)) session db next untouched =
    touches-same values apart (slice_get program.schema.catalog.keys key) (written_by session) db next untouched
