-- The places of names, as an index of them changes.
use Rattle.std.proofs.Common.{◌≡◌, ℕ, ◌-◌, Bool, true, false, cond, List, [], ◌∷◌, ◌++◌, length, if◌then◌else◌, unwrap_or, slice_get, slice_set, refl, ap, sym, ◌∙◌, arith, Some, None, Option, Result, Ok, Err, OnErr, MatchOption}
use Rattle.std.specs.Map.{lookup}
use Rattle.std.specs.Cmp.Lexicographic.{same_text as texts_same}
use Rattle.std.proofs.lemmas.List.{append-nil, length-set, take_at, length_push}
use Rattle.aq_base.specs.Names.{Text, same_text}
use Rattle.aq_base.specs.declared.catalog.Table.{Table}
use Rattle.aq_catalog.specs.Catalogs.{places}
use Rattle.aq_catalog.specs.Marks.{with_columns_at}
use Rattle.aq_catalog.specs.Indexed.{places_under, front, IsIndexed}
use Rattle.aq_catalog.proofs.Places.{places_push, places_set}

same_is : (a b : Text) → same_text a b ≡ true → a ≡ b
same_is a b h = texts_same a b (sym h)

pub updated : (old new : List (Text × List ℕ)) (name : Text) (f : List ℕ → List ℕ) (w : List ℕ) → ((q : Text) → lookup (same_text q) new ≡ cond (same_text name q) (Some w) (lookup (same_text q) old)) → w ≡ f (places_under old name) → (q : Text) → places_under new q ≡ (if same_text name q then f (places_under old q) else places_under old q)
updated old new name f w changes is q = by (same_text name q) refl
  where
    by : (b : Bool) → same_text name q ≡ b → places_under new q ≡ (if b then f (places_under old q) else places_under old q)
    by true e =
        ap (λ o. unwrap_or o []) (changes q)
        ∙ (ap (λ b. unwrap_or (cond b (Some w) (lookup (same_text q) old)) []) e
        ∙ (is ∙ ap (λ n. f (places_under old n)) (same_is name q e)))
    by false e = ap (λ o. unwrap_or o []) (changes q) ∙ ap (λ b. unwrap_or (cond b (Some w) (lookup (same_text q) old)) []) e

pub left_alone : (b : Bool) (xs : List ℕ) → (if b then xs else xs) ≡ xs
left_alone true xs = refl
left_alone false xs = refl

front-push : (xs : List ℕ) (x : ℕ) → front (xs ++ x ∷ []) ≡ xs
front-push xs x = take_at xs (x ∷ []) (length (xs ++ x ∷ []) - 1) (omega (arith, length_push xs x))

pub popped : (last : Option ℕ) (old new : List ℕ) → MatchOption last ((old ≡ []) × (new ≡ [])) (λ x. old ≡ new ++ x ∷ []) → new ≡ front old
popped None old new h = h.1 ∙ ap front (sym h.0)
popped (Some x) old new h = sym (ap front h ∙ front-push new x)

pub on_err : {A E : Type 0} (r : Result A E) (P : Type 0) → P → OnErr r P
on_err (Ok x) P p = tt
on_err (Err e) P p = p

-- ---- a list of named things with one more at its end, and with one less

pub indexed_more : {X : Type 0} (name_of : X → Text) (xs : List X) (x : X) (old new : List (Text × List ℕ)) (n : ℕ) (name : Text) → IsIndexed name_of xs old → n ≡ length xs → name ≡ name_of x → ((q : Text) → places_under new q ≡ (if same_text name q then places_under old q ++ n ∷ [] else places_under old q)) → IsIndexed name_of (xs ++ x ∷ []) new
indexed_more name_of xs x old new n name was count is changes q =
    changes q
    ∙ (ap (λ l. if same_text name q then l ++ n ∷ [] else l) (was q)
    ∙ (ap (λ t. if same_text t q then places (λ y. same_text (name_of y) q) xs ++ n ∷ [] else places (λ y. same_text (name_of y) q) xs) is
    ∙ (ap (λ k. if same_text (name_of x) q then places (λ y. same_text (name_of y) q) xs ++ k ∷ [] else places (λ y. same_text (name_of y) q) xs) count
    ∙ (by (same_text (name_of x) q) ∙ sym (places_push (λ y. same_text (name_of y) q) xs x)))))
  where
    by : (b : Bool) → (if b then places (λ y. same_text (name_of y) q) xs ++ length xs ∷ [] else places (λ y. same_text (name_of y) q) xs) ≡ places (λ y. same_text (name_of y) q) xs ++ (if b then length xs ∷ [] else [])
    by true = refl
    by false = sym (append-nil (places (λ y. same_text (name_of y) q) xs))

pub indexed_less : {X : Type 0} (name_of : X → Text) (xs : List X) (x : X) (old new : List (Text × List ℕ)) (name : Text) → IsIndexed name_of (xs ++ x ∷ []) old → name ≡ name_of x → ((q : Text) → places_under new q ≡ (if same_text name q then front (places_under old q) else places_under old q)) → IsIndexed name_of xs new
indexed_less name_of xs x old new name was is changes q =
    changes q
    ∙ (ap (λ l. if same_text name q then front l else l) (was q ∙ places_push (λ y. same_text (name_of y) q) xs x)
    ∙ (ap (λ t. if same_text t q then front (places (λ y. same_text (name_of y) q) xs ++ (if same_text (name_of x) q then length xs ∷ [] else [])) else places (λ y. same_text (name_of y) q) xs ++ (if same_text (name_of x) q then length xs ∷ [] else [])) is
    ∙ by (same_text (name_of x) q)))
  where
    by : (b : Bool) → (if b then front (places (λ y. same_text (name_of y) q) xs ++ (if b then length xs ∷ [] else [])) else places (λ y. same_text (name_of y) q) xs ++ (if b then length xs ∷ [] else [])) ≡ places (λ y. same_text (name_of y) q) xs
    by true = front-push (places (λ y. same_text (name_of y) q) xs) (length xs)
    by false = append-nil (places (λ y. same_text (name_of y) q) xs)

-- another in the place of one, of the same name
pub indexed_set : {X : Type 0} (name_of : X → Text) (xs : List X) (k : ℕ) (x y : X) (entries : List (Text × List ℕ)) → IsIndexed name_of xs entries → slice_get xs k ≡ Some x → name_of y ≡ name_of x → IsIndexed name_of (slice_set xs k y) entries
indexed_set name_of xs k x y entries was here same q =
    was q ∙ sym (places_set (λ z. same_text (name_of z) q) xs k x y here (ap (λ t. same_text t q) same))

pub length_columns : (tables : List Table) (table : ℕ) (cols : List ℕ) → length (with_columns_at table cols tables) ≡ length tables
length_columns tables table cols = by (slice_get tables table)
  where
    by : (o : Option Table) → length (elim o as (λ _. List Table) [ None ↦ tables | Some t ↦ slice_set tables table (record t { not_null = cols }) ]) ≡ length tables
    by None = refl
    by (Some t) = length-set tables table (record t { not_null = cols })

pub indexed_columns : (tables : List Table) (table : ℕ) (cols : List ℕ) (entries : List (Text × List ℕ)) → IsIndexed (λ t. t.name) tables entries → IsIndexed (λ t. t.name) (with_columns_at table cols tables) entries
indexed_columns tables table cols entries was = by (slice_get tables table) refl
  where
    by : (o : Option Table) → slice_get tables table ≡ o → IsIndexed (λ t. t.name) (elim o as (λ _. List Table) [ None ↦ tables | Some t ↦ slice_set tables table (record t { not_null = cols }) ]) entries
    by None e = was
    by (Some t) e = indexed_set (λ u. u.name) tables table t (record t { not_null = cols }) entries was e refl
