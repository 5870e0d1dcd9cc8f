-- When keys are the same.
use Rattle.std.proofs.Common.{◌≡◌, true, false, not, [], ◌∷◌, refl, sym, ap}
use Rattle.std.specs.Cmp.Lexicographic.{bytes_decides}
use Rattle.std.proofs.lemmas.Bool.{false≢true, and_parts, and_from}
use Rattle.std.proofs.lemmas.Bool.Decides.{Decides-int_eq}
use Rattle.aq_base.specs.Values.{Row, is_null, values_match, keys_match, has_no_null}
use Rattle.aq_base.specs.declared.value.Value.{Value}
use Rattle.aq_base.specs.declared.value.Value.TheVariants.{Null, Bool as Truth, Int, Text}

values_match-sym : (a b : Value) → values_match a b ≡ true → values_match b a ≡ true
values_match-sym Null b same = absurd (false≢true same)
values_match-sym (Truth true) (Truth true) same = refl
values_match-sym (Truth true) (Truth false) same = same
values_match-sym (Truth false) (Truth true) same = same
values_match-sym (Truth false) (Truth false) same = refl
values_match-sym (Truth a) Null same = same
values_match-sym (Truth a) (Int n) same = absurd (false≢true same)
values_match-sym (Truth a) (Text t) same = absurd (false≢true same)
values_match-sym (Int m) (Int n) same = (Decides-int_eq n m).1 (sym ((Decides-int_eq m n).0 same))
values_match-sym (Int m) Null same = same
values_match-sym (Int m) (Truth b) same = absurd (false≢true same)
values_match-sym (Int m) (Text t) same = absurd (false≢true same)
values_match-sym (Text s) (Text t) same = (bytes_decides t s).1 (sym ((bytes_decides s t).0 same))
values_match-sym (Text s) Null same = same
values_match-sym (Text s) (Truth b) same = absurd (false≢true same)
values_match-sym (Text s) (Int n) same = absurd (false≢true same)

pub keys_match-sym : (a b : Row) → keys_match a b ≡ true → keys_match b a ≡ true
keys_match-sym [] [] same = refl
keys_match-sym [] (b ∷ bs) same = same
keys_match-sym (a ∷ as_) [] same = same
keys_match-sym (a ∷ as_) (b ∷ bs) same =
    let parts = and_parts _ _ same in
    and_from _ _ (values_match-sym a b parts.0) (keys_match-sym as_ bs parts.1)

values_match-same : (a b : Value) → values_match a b ≡ true → a ≡ b
values_match-same Null b same = absurd (false≢true same)
values_match-same (Truth true) (Truth true) same = refl
values_match-same (Truth true) (Truth false) same = absurd (false≢true same)
values_match-same (Truth false) (Truth true) same = absurd (false≢true same)
values_match-same (Truth false) (Truth false) same = refl
values_match-same (Truth a) Null same = absurd (false≢true same)
values_match-same (Truth a) (Int n) same = absurd (false≢true same)
values_match-same (Truth a) (Text t) same = absurd (false≢true same)
values_match-same (Int m) (Int n) same = ap Int ((Decides-int_eq m n).0 same)
values_match-same (Int m) Null same = absurd (false≢true same)
values_match-same (Int m) (Truth b) same = absurd (false≢true same)
values_match-same (Int m) (Text t) same = absurd (false≢true same)
values_match-same (Text s) (Text t) same = ap Text ((bytes_decides s t).0 same)
values_match-same (Text s) Null same = absurd (false≢true same)
values_match-same (Text s) (Truth b) same = absurd (false≢true same)
values_match-same (Text s) (Int n) same = absurd (false≢true same)

-- two keys that match have the same values
pub keys_match-same : (a b : Row) → keys_match a b ≡ true → a ≡ b
keys_match-same [] [] same = refl
keys_match-same [] (b ∷ bs) same = absurd (false≢true same)
keys_match-same (a ∷ as_) [] same = absurd (false≢true same)
keys_match-same (a ∷ as_) (b ∷ bs) same =
    let parts = and_parts _ _ same in
    let first = values_match-same a b parts.0 in
    let rest = keys_match-same as_ bs parts.1 in
    λ i. first i ∷ rest i

values_match-self : (v : Value) → not (is_null v) ≡ true → values_match v v ≡ true
values_match-self Null is = is
values_match-self (Truth true) is = refl
values_match-self (Truth false) is = refl
values_match-self (Int n) is = (Decides-int_eq n n).1 refl
values_match-self (Text t) is = (bytes_decides t t).1 refl

-- a key with no null matches itself
pub keys_match-self : (key : Row) → has_no_null key ≡ true → keys_match key key ≡ true
keys_match-self [] none = refl
keys_match-self (v ∷ vs) none =
    let parts = and_parts _ _ none in
    and_from _ _ (values_match-self v parts.0) (keys_match-self vs parts.1)
