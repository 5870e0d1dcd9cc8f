-- The numbers at which the search for a free name begins, as the constraints change.
use Rattle.std.proofs.Common.{◌≡◌, ℕ, zero, suc, ◌≤◌, ◌==◌, ◌||◌, ◌⊎◌, inl, inr, Bool, true, List, [], ◌∷◌, ◌++◌, length, get_or, set, replicate, take, min, find, slice_get, Option, Some, None, false, filter, map, refl, ap, sym, subst, ◌∙◌, arith, get_or-set_other, get_or-set_same}
use Rattle.std.specs.List.{list_any}
use Rattle.std.specs.Fmt.{decimal}
use Rattle.std.specs.Cmp.Lexicographic.{same_text as texts_same}
use Rattle.std.proofs.lemmas.Bool.Decides.{nat_tests}
use Rattle.std.proofs.lemmas.Bool.{cases_eq}
use Rattle.std.proofs.lemmas.List.{map-append, get_or_past, length_push, length-set, length-replicate, length-take}
use Rattle.std.proofs.lemmas.List.Elements.{filter-append}
use Rattle.std.proofs.lemmas.List.Folds.{list_any-append}
use Rattle.std.proofs.lemmas.Option.{slice_get_within, same_Some}
use Rattle.aq_base.specs.Names.{Text, same_text}
use Rattle.aq_base.specs.declared.catalog.Constraint.{Constraint}
use Rattle.aq_catalog.specs.Catalogs.{places, names_in}
use Rattle.aq_base.proofs.Lists.{slice_get-push_cases}
use Rattle.aq_catalog.specs.Numbered.{AreTaken, is_of, IsNumbered}
use Rattle.aq_catalog.proofs.Standing.{found_in_places}

-- ---- one constraint more

names_more : (constraints others : List Constraint) (table : ℕ) → names_in (constraints ++ others) table ≡ names_in constraints table ++ names_in others table
names_more constraints others table =
    ap (map (λ (con : Constraint). con.name)) (filter-append (λ (con : Constraint). con.table == table) constraints others)
    ∙ map-append (λ (con : Constraint). con.name) (filter (λ con. con.table == table) constraints) (filter (λ con. con.table == table) others)

any_more : (p : Text → Bool) (names others : List Text) → list_any p names ≡ true → list_any p (names ++ others) ≡ true
any_more p names others h = list_any-append p names others ∙ ap (λ b. b || list_any p others) h

still_taken : (constraints others : List Constraint) (table : ℕ) (name : Text) (number : ℕ) → AreTaken (names_in constraints table) name number → AreTaken (names_in (constraints ++ others) table) name number
still_taken constraints others table name number was k least less =
    ap (list_any (same_text (name ++ decimal k))) (names_more constraints others table)
    ∙ any_more (same_text (name ++ decimal k)) (names_in constraints table) (names_in others table) (was k least less)

-- a number that isn't there counts as 1
one_pushed : (numbers : List ℕ) (place : ℕ) → get_or (numbers ++ 1 ∷ []) place 1 ≡ get_or numbers place 1
one_pushed [] zero = refl
one_pushed [] (suc place) = refl
one_pushed (n ∷ numbers) zero = refl
one_pushed (n ∷ numbers) (suc place) = one_pushed numbers place

pub numbered_more : (constraints : List Constraint) (numbers : List ℕ) (con : Constraint) → IsNumbered constraints numbers → IsNumbered (constraints ++ con ∷ []) (numbers ++ 1 ∷ [])
numbered_more constraints numbers con was =
    record {
      count = omega (arith, length_push numbers 1, length_push constraints con, was.count);
      positive = λ place. omega (arith, one_pushed numbers place, was.positive place);
      lesser = λ place found e.
          subst (AreTaken (names_in (constraints ++ con ∷ []) found.table) found.name) (sym (one_pushed numbers place))
          (still_taken constraints (con ∷ []) found.table found.name (get_or numbers place 1) (by place found (slice_get-push_cases constraints con place found e)));
    }
  where
    by : (place : ℕ) (found : Constraint) → (slice_get constraints place ≡ Some found) ⊎ ((place ≡ length constraints) × (con ≡ found)) → AreTaken (names_in constraints found.table) found.name (get_or numbers place 1)
    by place found (inl stood) = was.lesser place found stood
    by place found (inr last) = λ k least less. absurd (omega (arith, last.0, was.count, get_or_past numbers place 1 (omega (arith, last.0, was.count))))

-- ---- as many constraints as there were, each number 1

each_one : (n place : ℕ) → ◌≡◌ {A = ℕ} (get_or (replicate n 1) place 1) 1
each_one zero place = refl
each_one (suc n) zero = refl
each_one (suc n) (suc place) = each_one n place

pub numbered_again : (constraints kept : List Constraint) (numbers ones : List ℕ) (n : ℕ) → IsNumbered constraints numbers → kept ≡ take n constraints → ones ≡ replicate (min n (length numbers)) 1 → IsNumbered kept ones
numbered_again constraints kept numbers ones n was fewer all =
    subst (λ l. IsNumbered l ones) (sym fewer)
    (subst (IsNumbered (take n constraints)) (sym all)
    (record {
      count = omega (arith, length-replicate {A = ℕ} (min n (length numbers)) 1, length-take n constraints, was.count);
      positive = λ place. omega (arith, each_one (min n (length numbers)) place);
      lesser = λ place con e k least less. absurd (omega (arith, each_one (min n (length numbers)) place));
    }))

-- ---- another number of a constraint

numbered_set : (constraints : List Constraint) (numbers : List ℕ) (place : ℕ) (con : Constraint) (number : ℕ) → IsNumbered constraints numbers → slice_get constraints place ≡ Some con → 1 ≤ number → AreTaken (names_in constraints con.table) con.name number → IsNumbered constraints (set numbers place number)
numbered_set constraints numbers place con number was here least taken =
    record {
      count = length-set numbers place number ∙ was.count;
      positive = λ other. at_least other (cases_eq other place);
      lesser = λ other found e. by other found e (cases_eq other place);
    }
  where
    now : get_or (set numbers place number) place 1 ≡ number
    now = get_or-set_same numbers place number 1 (omega (arith, was.count, slice_get_within constraints place con here))

    at_least : (other : ℕ) → (other ≡ place) ⊎ (other ≡ place → ⊥) → 1 ≤ get_or (set numbers place number) other 1
    at_least other (inl same) = subst (λ p. 1 ≤ get_or (set numbers place number) p 1) (sym same) (omega (arith, now))
    at_least other (inr apart) = omega (arith, get_or-set_other numbers place other number 1 apart, was.positive other)

    by : (other : ℕ) (found : Constraint) → slice_get constraints other ≡ Some found → (other ≡ place) ⊎ (other ≡ place → ⊥) → AreTaken (names_in constraints found.table) found.name (get_or (set numbers place number) other 1)
    by other found e (inl same) =
        subst (λ (c : Constraint). AreTaken (names_in constraints c.table) c.name (get_or (set numbers place number) other 1)) (same_Some con found (sym here ∙ ap (slice_get constraints) (sym same) ∙ e))
        (subst (AreTaken (names_in constraints con.table) con.name) (sym (ap (λ p. get_or (set numbers place number) p 1) same ∙ now)) taken)
    by other found e (inr apart) =
        subst (AreTaken (names_in constraints found.table) found.name) (sym (get_or-set_other numbers place other number 1 apart)) (was.lesser other found e)

-- ---- the number of the constraint of a table and a name

same_is : (a b : Text) → same_text a b ≡ true → a ≡ b
same_is a b h = texts_same a b (sym h)

record IsPlaced (constraints : List Constraint) (table : ℕ) (name : Text) (place : ℕ) : Type 0 where
  pub con : Constraint
  pub stands : slice_get constraints place ≡ Some con
  pub of_table : con.table ≡ table
  pub of_name : con.name ≡ name

of_table_there : (constraints : List Constraint) (table place : ℕ) (con : Constraint) → slice_get constraints place ≡ Some con → is_of constraints table place ≡ true → con.table ≡ table
of_table_there constraints table place con stands of =
    let now : (con.table == table) ≡ true = sym (ap (λ (o : Option Constraint). elim o as (λ _. Bool) [ None ↦ false | Some c ↦ c.table == table ]) stands) ∙ of in
    grind (arith, nat_tests)

placed : (constraints : List Constraint) (table : ℕ) (name : Text) (place : ℕ) → find (is_of constraints table) (places (λ con. same_text con.name name) constraints) ≡ Some place → IsPlaced constraints table name place
placed constraints table name place e =
    let found = found_in_places (λ (con : Constraint). same_text con.name name) constraints (is_of constraints table) place e in
    record {
      con = found.0.element;
      stands = found.0.stands;
      of_table = of_table_there constraints table place found.0.element found.0.stands found.1;
      of_name = same_is found.0.element.name name found.0.passes;
    }

pub lesser_taken : (constraints : List Constraint) (numbers : List ℕ) (table : ℕ) (name : Text) (place : ℕ) → IsNumbered constraints numbers → find (is_of constraints table) (places (λ con. same_text con.name name) constraints) ≡ Some place → AreTaken (names_in constraints table) name (get_or numbers place 1)
lesser_taken constraints numbers table name place was e =
    let at = placed constraints table name place e in
    subst (λ t. AreTaken (names_in constraints t) name (get_or numbers place 1)) at.of_table
    (subst (λ n. AreTaken (names_in constraints at.con.table) n (get_or numbers place 1)) at.of_name (was.lesser place at.con at.stands))

pub number_kept : (constraints : List Constraint) (numbers : List ℕ) (table : ℕ) (name : Text) (place number : ℕ) → IsNumbered constraints numbers → find (is_of constraints table) (places (λ con. same_text con.name name) constraints) ≡ Some place → 1 ≤ number → AreTaken (names_in constraints table) name number → IsNumbered constraints (set numbers place number)
number_kept constraints numbers table name place number was e least taken =
    let at = placed constraints table name place e in
    numbered_set constraints numbers place at.con number was at.stands least
    (subst (λ t. AreTaken (names_in constraints t) at.con.name number) (sym at.of_table) (subst (λ n. AreTaken (names_in constraints table) n number) (sym at.of_name) taken))
