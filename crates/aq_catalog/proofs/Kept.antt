-- What a catalog keeps of its tables stays right.
use Rattle.std.proofs.Common.{◌≡◌, ℕ, zero, suc, ◌+◌, ◌<◌, ◌≤◌, ◌==◌, ◌&&◌, Bool, true, false, not, cond, get_or, ◌⊎◌, inl, inr, List, [], ◌∷◌, ◌++◌, length, take, drop, slice_get, if◌then◌else◌, filter, map, nat_lt, refl, ap, sym, subst, ◌∙◌, arith, Some, None, append_assoc}
use Rattle.std.specs.List.{list_any, enumerate_from, flat_map, insert}
use Rattle.std.proofs.lemmas.Bool.Decides.{nat_tests}
use Rattle.std.proofs.lemmas.List.{append-nil, take_all, take_more, length_push, take-append-drop, length-take}
use Rattle.std.proofs.lemmas.List.Elements.{filter-append}
use Rattle.std.proofs.lemmas.Option.{slice_get_within, slice_get_cases}
use Rattle.aq_base.proofs.Lists.{slice_get-behind}
use Rattle.aq_base.specs.Names.{Text}
use Rattle.aq_base.specs.declared.catalog.Op.{Op}
use Rattle.aq_base.specs.declared.catalog.Op.TheVariants as ops
use Rattle.aq_base.specs.declared.catalog.Table.{Table}
use Rattle.aq_base.specs.declared.catalog.UniqueKey.{UniqueKey}
use Rattle.aq_base.specs.declared.catalog.ForeignKey.{ForeignKey}
use Rattle.aq_base.specs.declared.catalog.Trigger.{Trigger}
use Rattle.aq_catalog.specs.Catalogs.{places, same_op, fires_on, stands_before, in_its_place, in_name_order}
use Rattle.aq_catalog.specs.Listed.{Listed, listed_at, fired_by, numbers_by, listed_of, IsKept, with_key_listed, goes_before, place_among, with_number, with_trigger_listed, below, listed_below}
use Rattle.aq_catalog.proofs.Places.{enumerated_more, places_push}

-- ---- numbered entries

-- each entry is what stands under its number
pub AreAt : {X : Type 0} → List X → List (ℕ × X) → Type 0
AreAt xs [] = Unit {0}
AreAt xs (e ∷ es) = (slice_get xs e.0 ≡ Some e.1) × AreAt xs es

numbered : {X : Type 0} (front xs : List X) → AreAt (front ++ xs) (enumerate_from (length front) xs)
unfolding AreAt
numbered front [] = tt
numbered front (x ∷ xs) = (
  slice_get-behind front x xs,
  subst (λ l. AreAt l (enumerate_from (length front + 1) xs)) (append_assoc front (x ∷ []) xs)
      (subst (λ n. AreAt ((front ++ x ∷ []) ++ xs) (enumerate_from n xs)) (length_push front x) (numbered (front ++ x ∷ []) xs)),
)

filtered : {X : Type 0} (f : ℕ × X → Bool) (xs : List X) (es : List (ℕ × X)) → AreAt xs es → AreAt xs (filter f es)
unfolding AreAt
filtered f xs [] h = tt
filtered f xs (e ∷ es) h = by (f e) (filtered f xs es h.1)
  where
    by : (b : Bool) → AreAt xs (filter f es) → AreAt xs (cond b (e ∷ filter f es) (filter f es))
    by true rest = (h.0, rest)
    by false rest = rest

placed : (ts : List Trigger) (e : ℕ × Trigger) (es : List (ℕ × Trigger)) → slice_get ts e.0 ≡ Some e.1 → AreAt ts es → AreAt ts (in_its_place e es)
unfolding AreAt
placed ts e [] here h = (here, tt)
placed ts e (next ∷ others) here h = by (stands_before e.1.name next.1.name) (placed ts e others here h.1)
  where
    by : (b : Bool) → AreAt ts (in_its_place e others) → AreAt ts (if b then e ∷ next ∷ others else next ∷ in_its_place e others)
    by true rest = (here, h)
    by false rest = (h.0, rest)

ordered : (ts : List Trigger) (sorted es : List (ℕ × Trigger)) → AreAt ts sorted → AreAt ts es → AreAt ts (in_name_order sorted es)
unfolding AreAt
ordered ts sorted [] s h = s
ordered ts sorted (e ∷ es) s h = ordered ts (in_its_place e sorted) es (placed ts e sorted h.0 s) h.1

fired_at : (ts : List Trigger) (table : ℕ) (op : Op) → AreAt ts (fired_by ts table op)
unfolding AreAt
fired_at ts table op =
    ordered ts [] (filter (λ entry. fires_on table op entry.1) (enumerate_from 0 ts)) tt
    (filtered (λ entry. fires_on table op entry.1) ts (enumerate_from 0 ts) (numbered [] ts))

-- ---- one trigger more

last_in_order : (sorted es : List (ℕ × Trigger)) (e : ℕ × Trigger) → in_name_order sorted (es ++ e ∷ []) ≡ in_its_place e (in_name_order sorted es)
last_in_order sorted [] e = refl
last_in_order sorted (x ∷ es) e = last_in_order (in_its_place x sorted) es e

fired_more : (ts : List Trigger) (t : Trigger) (table : ℕ) (op : Op) → fired_by (ts ++ t ∷ []) table op ≡ (if fires_on table op t then in_its_place (length ts, t) (fired_by ts table op) else fired_by ts table op)
fired_more ts t table op =
    ap (λ l. in_name_order [] (filter f l)) (enumerated_more 0 ts t)
    ∙ (ap (λ n. in_name_order [] (filter f (enumerate_from 0 ts ++ (n, t) ∷ []))) (omega arith)
    ∙ (ap (in_name_order []) (filter-append f (enumerate_from 0 ts) ((length ts, t) ∷ []))
    ∙ by (fires_on table op t)))
  where
    f : ℕ × Trigger → Bool
    f entry = fires_on table op entry.1

    by : (b : Bool) → in_name_order [] (filter (λ entry. fires_on table op entry.1) (enumerate_from 0 ts) ++ cond b ((length ts, t) ∷ []) []) ≡ (if b then in_its_place (length ts, t) (fired_by ts table op) else fired_by ts table op)
    by true = last_in_order [] (filter (λ entry. fires_on table op entry.1) (enumerate_from 0 ts)) (length ts, t)
    by false = ap (in_name_order []) (append-nil (filter (λ entry. fires_on table op entry.1) (enumerate_from 0 ts)))

seen_before : (ts : List Trigger) (name : Text) (e : ℕ × Trigger) → slice_get ts e.0 ≡ Some e.1 → goes_before ts name e.0 ≡ stands_before name e.1.name
seen_before ts name e h = ap (λ o. elim o as (λ _. Bool) [ None ↦ false | Some t ↦ stands_before name t.name ]) h

numbers_placed : (ts : List Trigger) (e : ℕ × Trigger) (es : List (ℕ × Trigger)) → AreAt ts es → map (λ x. x.0) (in_its_place e es) ≡ insert (map (λ x. x.0) es) (place_among ts e.1.name (map (λ x. x.0) es)) e.0
unfolding AreAt
numbers_placed ts e [] h = refl
numbers_placed ts e (next ∷ others) h = by (stands_before e.1.name next.1.name) (seen_before ts e.1.name next h.0) (numbers_placed ts e others h.1)
  where
    by : (b : Bool) → goes_before ts e.1.name next.0 ≡ b → map (λ x. x.0) (in_its_place e others) ≡ insert (map (λ x. x.0) others) (place_among ts e.1.name (map (λ x. x.0) others)) e.0 → map (λ x. x.0) (if b then e ∷ next ∷ others else next ∷ in_its_place e others) ≡ insert (next.0 ∷ map (λ x. x.0) others) (place_among ts e.1.name (next.0 ∷ map (λ x. x.0) others)) e.0
    by true is rest = ap (λ c. insert (next.0 ∷ map (λ x. x.0) others) (cond (not c) (1 + place_among ts e.1.name (map (λ x. x.0) others)) 0) e.0) (sym is)
    by false is rest =
        let up : suc (place_among ts e.1.name (map (λ x. x.0) others)) ≡ 1 + place_among ts e.1.name (map (λ x. x.0) others) = omega arith in
        ap (λ l. next.0 ∷ l) rest
        ∙ (ap (λ k. insert (next.0 ∷ map (λ x. x.0) others) k e.0) up
        ∙ ap (λ c. insert (next.0 ∷ map (λ x. x.0) others) (cond (not c) (1 + place_among ts e.1.name (map (λ x. x.0) others)) 0) e.0) (sym is))

numbers_more : (ts : List Trigger) (t : Trigger) (table : ℕ) (op : Op) → numbers_by (ts ++ t ∷ []) table op ≡ (if t.table == table then with_number ts t op (length ts) (numbers_by ts table op) else numbers_by ts table op)
numbers_more ts t table op = ap (map (λ x. x.0)) (fired_more ts t table op) ∙ by (t.table == table) (list_any (same_op op) t.ops)
  where
    by : (b has : Bool) → map (λ x. x.0) (if b && has then in_its_place (length ts, t) (fired_by ts table op) else fired_by ts table op) ≡ (if b then (if has then insert (numbers_by ts table op) (place_among ts t.name (numbers_by ts table op)) (length ts) else numbers_by ts table op) else numbers_by ts table op)
    by true true = numbers_placed ts (length ts, t) (fired_by ts table op) (fired_at ts table op)
    by true false = refl
    by false true = refl
    by false false = refl

trigger_listed : (keys : List UniqueKey) (ts : List Trigger) (t : Trigger) (table : ℕ) → listed_of keys (ts ++ t ∷ []) table ≡ (if t.table == table then with_trigger_listed ts t (length ts) (listed_of keys ts table) else listed_of keys ts table)
trigger_listed keys ts t table = by (t.table == table) (numbers_more ts t table ops.Insert) (numbers_more ts t table ops.Update) (numbers_more ts t table ops.Delete)
  where
    by : (b : Bool)
        → numbers_by (ts ++ t ∷ []) table ops.Insert ≡ (if b then with_number ts t ops.Insert (length ts) (numbers_by ts table ops.Insert) else numbers_by ts table ops.Insert)
        → numbers_by (ts ++ t ∷ []) table ops.Update ≡ (if b then with_number ts t ops.Update (length ts) (numbers_by ts table ops.Update) else numbers_by ts table ops.Update)
        → numbers_by (ts ++ t ∷ []) table ops.Delete ≡ (if b then with_number ts t ops.Delete (length ts) (numbers_by ts table ops.Delete) else numbers_by ts table ops.Delete)
        → listed_of keys (ts ++ t ∷ []) table ≡ (if b then with_trigger_listed ts t (length ts) (listed_of keys ts table) else listed_of keys ts table)
    by true x y z = λ i. record { keys = places (λ key. key.table == table) keys; inserts = x i; updates = y i; deletes = z i }
    by false x y z = λ i. record { keys = places (λ key. key.table == table) keys; inserts = x i; updates = y i; deletes = z i }

-- ---- one key more

key_listed : (keys : List UniqueKey) (ts : List Trigger) (key : UniqueKey) (table : ℕ) → listed_of (keys ++ key ∷ []) ts table ≡ (if key.table == table then with_key_listed (length keys) (listed_of keys ts table) else listed_of keys ts table)
key_listed keys ts key table =
    ap (λ l. record (listed_of keys ts table) { keys = l }) (places_push (λ k. k.table == table) keys key) ∙ by (key.table == table)
  where
    by : (b : Bool) → record (listed_of keys ts table) { keys = places (λ k. k.table == table) keys ++ (if b then length keys ∷ [] else []) } ≡ (if b then with_key_listed (length keys) (listed_of keys ts table) else listed_of keys ts table)
    by true = refl
    by false = ap (λ l. record (listed_of keys ts table) { keys = l }) (append-nil (places (λ k. k.table == table) keys))

-- ---- fewer of them

places_from : {X : Type 0} → ℕ → (X → Bool) → List X → List ℕ
places_from n p xs = flat_map (λ entry. if p entry.1 then entry.0 ∷ [] else []) (enumerate_from n xs)

none_below : {X : Type 0} (n bound : ℕ) (p : X → Bool) (xs : List X) → bound ≤ n → below bound (places_from n p xs) ≡ []
unfolding places_from
none_below n bound p [] h = refl
none_below n bound p (x ∷ xs) h = by (p x) (grind (arith, nat_tests)) (none_below (n + 1) bound p xs (omega arith))
  where
    by : (b : Bool) → nat_lt n bound ≡ false → below bound (places_from (n + 1) p xs) ≡ [] → below bound ((if b then n ∷ [] else []) ++ places_from (n + 1) p xs) ≡ []
    by true e rest = ap (λ c. cond c (n ∷ below bound (places_from (n + 1) p xs)) (below bound (places_from (n + 1) p xs))) e ∙ rest
    by false e rest = rest

some_below : {X : Type 0} (n m : ℕ) (p : X → Bool) (xs : List X) → below (n + m) (places_from n p xs) ≡ places_from n p (take m xs)
unfolding places_from
some_below n zero p [] = refl
some_below n (suc m) p [] = refl
some_below n zero p (x ∷ xs) = none_below n (n + 0) p (x ∷ xs) (omega arith)
some_below n (suc m) p (x ∷ xs) =
    by (p x) (grind (arith, nat_tests)) (ap (λ k. below k (places_from (n + 1) p xs)) (omega arith) ∙ some_below (n + 1) m p xs)
  where
    by : (b : Bool) → nat_lt n (n + suc m) ≡ true → below (n + suc m) (places_from (n + 1) p xs) ≡ places_from (n + 1) p (take m xs) → below (n + suc m) ((if b then n ∷ [] else []) ++ places_from (n + 1) p xs) ≡ (if b then n ∷ [] else []) ++ places_from (n + 1) p (take m xs)
    by true e rest = ap (λ c. cond c (n ∷ below (n + suc m) (places_from (n + 1) p xs)) (below (n + suc m) (places_from (n + 1) p xs))) e ∙ ap (λ l. n ∷ l) rest
    by false e rest = rest

places_below : {X : Type 0} (m : ℕ) (p : X → Bool) (xs : List X) → below m (places p xs) ≡ places p (take m xs)
unfolding places_from
places_below m p xs = ap (λ k. below k (places p xs)) (omega arith) ∙ some_below 0 m p xs

all_below : {X : Type 0} (m : ℕ) (xs : List X) (es : List (ℕ × X)) → length xs ≤ m → AreAt xs es → below m (map (λ x. x.0) es) ≡ map (λ x. x.0) es
unfolding AreAt
all_below m xs [] h at = refl
all_below m xs (e ∷ es) h at =
    let within : e.0 < length xs = slice_get_within xs e.0 e.1 at.0 in
    let is : nat_lt e.0 m ≡ true = grind (arith, nat_tests) in
    ap (λ c. cond c (e.0 ∷ below m (map (λ x. x.0) es)) (below m (map (λ x. x.0) es))) is ∙ ap (λ l. e.0 ∷ l) (all_below m xs es h at.1)

insert_below : (m n k : ℕ) (xs : List ℕ) → m ≤ n → below m (insert xs k n) ≡ below m xs
insert_below m n k xs h =
    let is : nat_lt n m ≡ false = grind (arith, nat_tests) in
    filter-append (λ x. nat_lt x m) (take k xs) (n ∷ drop k xs)
    ∙ (ap (λ c. below m (take k xs) ++ cond c (n ∷ below m (drop k xs)) (below m (drop k xs))) is
    ∙ (sym (filter-append (λ x. nat_lt x m) (take k xs) (drop k xs)) ∙ ap (below m) (take-append-drop k xs)))

last_below : (m : ℕ) (ts : List Trigger) (t : Trigger) (table : ℕ) (op : Op) → m ≤ length ts → below m (numbers_by (ts ++ t ∷ []) table op) ≡ below m (numbers_by ts table op)
last_below m ts t table op h = ap (below m) (numbers_more ts t table op) ∙ by (t.table == table) (list_any (same_op op) t.ops)
  where
    by : (b has : Bool) → below m (if b then (if has then insert (numbers_by ts table op) (place_among ts t.name (numbers_by ts table op)) (length ts) else numbers_by ts table op) else numbers_by ts table op) ≡ below m (numbers_by ts table op)
    by true true = insert_below m (length ts) (place_among ts t.name (numbers_by ts table op)) (numbers_by ts table op) h
    by true false = refl
    by false true = refl
    by false false = refl

later_below : (m j : ℕ) (ts : List Trigger) (table : ℕ) (op : Op) → below m (numbers_by (take (j + m) ts) table op) ≡ numbers_by (take m ts) table op
later_below m zero ts table op =
    ap (λ k. below m (numbers_by (take k ts) table op)) (omega arith)
    ∙ all_below m (take m ts) (fired_by (take m ts) table op) (omega (arith, length-take m ts)) (fired_at (take m ts) table op)
later_below m (suc j) ts table op =
    ap (λ k. below m (numbers_by (take k ts) table op)) (omega arith) ∙ (by (slice_get_cases ts (j + m)).1 ∙ later_below m j ts table op)
  where
    by : ((x : Trigger) × (j + m < length ts) × (slice_get ts (j + m) ≡ Some x) × (get_or ts (j + m) x ≡ x)) ⊎ ((length ts ≤ j + m) × (slice_get ts (j + m) ≡ None)) → below m (numbers_by (take (j + m + 1) ts) table op) ≡ below m (numbers_by (take (j + m) ts) table op)
    by (inl w) =
        ap (λ l. below m (numbers_by l table op)) (take_more ts (j + m) w.0 w.1)
        ∙ last_below m (take (j + m) ts) (get_or ts (j + m) w.0) table op (omega (arith, length-take (j + m) ts, w.1))
    by (inr w) = ap (λ l. below m (numbers_by l table op)) (take_all (j + m + 1) ts (omega (arith, w.0)) ∙ sym (take_all (j + m) ts w.0))

numbers_below : (m : ℕ) (ts : List Trigger) (table : ℕ) (op : Op) → below m (numbers_by ts table op) ≡ numbers_by (take m ts) table op
numbers_below m ts table op =
    ap (λ l. below m (numbers_by l table op)) (sym (take_all (length ts + m) ts (omega arith))) ∙ later_below m (length ts) ts table op

fewer_listed : (k n : ℕ) (keys : List UniqueKey) (ts : List Trigger) (table : ℕ) → listed_below k n (listed_of keys ts table) ≡ listed_of (take k keys) (take n ts) table
fewer_listed k n keys ts table =
    let a = places_below k (λ key. key.table == table) keys in
    let b = numbers_below n ts table ops.Insert in
    let c = numbers_below n ts table ops.Update in
    let d = numbers_below n ts table ops.Delete in
    λ i. record { keys = a i; inserts = b i; updates = c i; deletes = d i }

-- ---- the changes of a catalog

module _ (tables : List Table) (keys : List UniqueKey) (fks : List ForeignKey) (triggers : List Trigger) (before after : List Listed) (kept : IsKept tables keys fks triggers before) where
  pub kept_same : ((t : ℕ) → listed_at after t ≡ listed_at before t) → IsKept tables keys fks triggers after
  kept_same same = record { tables_fit = kept.tables_fit; fks_fit = kept.fks_fit; listed = λ t. same t ∙ kept.listed t }

  pub kept_tables : (others : List Table) → length others ≡ length tables → IsKept others keys fks triggers before
  kept_tables others e = record { tables_fit = omega (arith, kept.tables_fit); fks_fit = kept.fks_fit; listed = kept.listed }

  pub kept_table : (table : Table) → length tables < 65535 → IsKept (tables ++ table ∷ []) keys fks triggers before
  kept_table table h = record { tables_fit = omega (arith, length_push tables table); fks_fit = kept.fks_fit; listed = kept.listed }

  pub kept_fk : (fk : ForeignKey) → length fks < 65535 → IsKept tables keys (fks ++ fk ∷ []) triggers before
  kept_fk fk h = record { tables_fit = kept.tables_fit; fks_fit = omega (arith, length_push fks fk); listed = kept.listed }

  pub kept_key : (key : UniqueKey) (table n : ℕ) → table ≡ key.table → n ≡ length keys → ((t : ℕ) → listed_at after t ≡ (if table == t then with_key_listed n (listed_at before t) else listed_at before t)) → IsKept tables (keys ++ key ∷ []) fks triggers after
  kept_key key table n same count more =
      record {
        tables_fit = kept.tables_fit;
        fks_fit = kept.fks_fit;
        listed = λ t.
            more t
            ∙ (ap (λ l. if table == t then with_key_listed n l else l) (kept.listed t)
            ∙ (ap (λ k. if k == t then with_key_listed n (listed_of keys triggers t) else listed_of keys triggers t) same
            ∙ (ap (λ k. if key.table == t then with_key_listed k (listed_of keys triggers t) else listed_of keys triggers t) count
            ∙ sym (key_listed keys triggers key t))));
      }

  pub kept_trigger : (trigger : Trigger) (table n : ℕ) → table ≡ trigger.table → n ≡ length triggers → ((t : ℕ) → listed_at after t ≡ (if table == t then with_trigger_listed triggers trigger n (listed_at before t) else listed_at before t)) → IsKept tables keys fks (triggers ++ trigger ∷ []) after
  kept_trigger trigger table n same count more =
      record {
        tables_fit = kept.tables_fit;
        fks_fit = kept.fks_fit;
        listed = λ t.
            more t
            ∙ (ap (λ l. if table == t then with_trigger_listed triggers trigger n l else l) (kept.listed t)
            ∙ (ap (λ k. if k == t then with_trigger_listed triggers trigger n (listed_of keys triggers t) else listed_of keys triggers t) same
            ∙ (ap (λ k. if trigger.table == t then with_trigger_listed triggers trigger k (listed_of keys triggers t) else listed_of keys triggers t) count
            ∙ sym (trigger_listed keys triggers trigger t))));
      }

  pub kept_fewer : (a k b n : ℕ) (tables' : List Table) (keys' : List UniqueKey) (fks' : List ForeignKey) (triggers' : List Trigger) → tables' ≡ take a tables → keys' ≡ take k keys → fks' ≡ take b fks → triggers' ≡ take n triggers → ((t : ℕ) → listed_at after t ≡ listed_below k n (listed_at before t)) → IsKept tables' keys' fks' triggers' after
  kept_fewer a k b n tables' keys' fks' triggers' e f g h fewer =
      record {
        tables_fit = omega (arith, length-take a tables, ap length e, kept.tables_fit);
        fks_fit = omega (arith, length-take b fks, ap length g, kept.fks_fit);
        listed = λ t. fewer t ∙ (ap (listed_below k n) (kept.listed t) ∙ (fewer_listed k n keys triggers t ∙ (λ i. listed_of (sym f i) (sym h i) t)));
      }
