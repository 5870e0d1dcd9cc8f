-- How two ways to cut one list compare.
use Rattle.std.proofs.Common.{◌≡◌, ℕ, ◌-◌, ◌<◌, ◌≤◌, suc, zero, List, [], ◌∷◌, ◌++◌, length, take, drop, refl, sym, ap, ◌∙◌, arith, length-append, append_assoc}

pub data Compared {A : Type 0} (front behind other rest : List A) : Type 0 where
  -- both are cut at one place
  Same : front ≡ other → behind ≡ rest → Compared front behind other rest
  -- the first front is longer than the other
  Longer : (x : A) (more : List A) → front ≡ other ++ x ∷ more → rest ≡ x ∷ more ++ behind → Compared front behind other rest
  -- it is shorter
  Shorter : (x : A) (more : List A) → other ≡ front ++ x ∷ more → behind ≡ x ∷ more ++ rest → Compared front behind other rest

compared_behind : {A : Type 0} (x y : A) (front behind other rest : List A) → x ≡ y → Compared front behind other rest → Compared (x ∷ front) behind (y ∷ other) rest
compared_behind x y front behind other rest e (Same p q) = Same (cc) q
compared_behind x y front behind other rest e (Longer z more p q) = Longer z more (cc) q
compared_behind x y front behind other rest e (Shorter z more p q) = Shorter z more (cc) q

pub compare : {A : Type 0} (front behind other rest : List A) → front ++ behind ≡ other ++ rest → Compared front behind other rest
compare [] behind [] rest e = Same refl e
compare [] behind (y ∷ other) rest e = Shorter y other refl e
compare (x ∷ front) behind [] rest e = Longer x front refl (sym e)
compare (x ∷ front) behind (y ∷ other) rest e = compared_behind x y front behind other rest (cc) (compare front behind other rest (cc))

-- two parts of no element are empty
pub parts_of_nothing : {A : Type 0} (front behind : List A) → [] ≡ front ++ behind → (front ≡ []) × (behind ≡ [])
parts_of_nothing [] behind e = (refl, sym e)
parts_of_nothing (x ∷ front) behind e = cc

-- one element goes over from what is behind to the front
pub move_one : {A : Type 0} (front : List A) (x : A) (behind : List A) → (front ++ x ∷ []) ++ behind ≡ front ++ x ∷ behind
move_one front x behind = append_assoc front (x ∷ []) behind

-- a list is no part of itself with more behind it
pub no_shorter : {A : Type 0} (a : List A) (x : A) (b c : List A) → a ≡ (a ++ b) ++ x ∷ c → ⊥
no_shorter [] x [] c e = cc
no_shorter [] x (y ∷ b) c e = cc
no_shorter (z ∷ a) x b c e = no_shorter a x b c cc

-- of a cut in three the first two parts are the front, or the last two what is behind
pub regroup : {A : Type 0} (a b c d : List A) → a ++ b ≡ c → a ++ (b ++ d) ≡ c ++ d
regroup a b c d e = sym (append_assoc a b d) ∙ ap (λ x. x ++ d) e

pub rest_no_longer : {A : Type 0} (whole front rest : List A) → whole ≡ front ++ rest → length rest ≤ length whole
rest_no_longer whole [] rest e = rw e (omega arith)
rest_no_longer whole (x ∷ front) rest e = rw e (omega (arith, length-append front rest))

pub rest_shorter : {A : Type 0} (whole front rest : List A) → whole ≡ front ++ rest → (front ≡ [] → ⊥) → length rest < length whole
rest_shorter whole [] rest e some = absurd (some refl)
rest_shorter whole (x ∷ front) rest e some = rw e (omega (arith, length-append front rest))

pub front_count : {A : Type 0} (whole front rest : List A) → whole ≡ front ++ rest → length whole - length rest ≡ length front
front_count whole front rest e = rw e (omega (arith, length-append front rest))

-- where a list's first elements are cut, the list is cut too
pub cut_of_taken : {A : Type 0} (n : ℕ) (whole front rest : List A) → take n whole ≡ front ++ rest → whole ≡ front ++ drop (length front) whole
cut_of_taken n whole [] rest e = refl
cut_of_taken zero whole (x ∷ front) rest e = absurd cc
cut_of_taken (suc n) [] (x ∷ front) rest e = absurd cc
cut_of_taken (suc n) (y ∷ whole) (x ∷ front) rest e =
    let same_first : y ≡ x = cc in
    let more = cut_of_taken n whole front rest cc in
    cc

-- what comes next there
pub next_of_taken : {A : Type 0} (n : ℕ) (whole front rest : List A) (x : A) (others : List A)
    → take n whole ≡ front ++ rest → length front < n → drop (length front) whole ≡ x ∷ others → (more : List A) × (rest ≡ x ∷ more)
next_of_taken zero whole front rest x others e h p = absurd (omega arith)
next_of_taken (suc n) [] [] rest x others e h p = absurd cc
next_of_taken (suc n) (y ∷ whole) [] rest x others e h p = (take n whole, cc)
next_of_taken (suc n) [] (z ∷ front) rest x others e h p = absurd cc
next_of_taken (suc n) (y ∷ whole) (z ∷ front) rest x others e h p = next_of_taken n whole front rest x others (cc) (omega arith) p

-- one element more than n
pub take_next : {A : Type 0} (n : ℕ) (whole : List A) → n < length whole
    → (x : A) × (others : List A) × (drop n whole ≡ x ∷ others) × (take (suc n) whole ≡ take n whole ++ x ∷ []) × (length (take n whole) ≡ n)
take_next n [] h = absurd (omega arith)
take_next zero (x ∷ whole) h = (x, whole, refl, refl, refl)
take_next (suc n) (x ∷ whole) h =
    let more = take_next n whole (omega arith) in
    (more.0, more.1, more.2, ap (λ w. x ∷ w) more.3, ap suc more.4)
