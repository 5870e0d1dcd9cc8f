-- Values and keys, and when two keys are the same (PostgreSQL manual, page CREATE TABLE, UNIQUE and REFERENCES).
use Rattle.std.specs.Prelude.{ℕ, Bool, true, false, not, ◌&&◌, List, [], ◌∷◌, map, unwrap_or, slice_get, nat_eq}
use Rattle.std.specs.Ordering.{int_eq}
use Rattle.std.specs.List.{list_all}
use Rattle.std.specs.Cmp.Lexicographic.{pointwise}
use Rattle.aq_base.specs.declared.value.Value.{Value}
use Rattle.aq_base.specs.declared.value.Value.TheVariants.{Null, Bool as Truth, Int, Text}

-- the values of a row, in the order of its table's columns
abbrev pub Row : Type 0
Row = List Value

abbrev pub is_null : Value → Bool
is_null Null = true
is_null (Truth b) = false
is_null (Int n) = false
is_null (Text t) = false

abbrev pub same_truth : Bool → Bool → Bool
same_truth true b = b
same_truth false b = not b

-- two values are the same, and not null
abbrev pub values_match : Value → Value → Bool
values_match Null b = false
values_match (Truth a) (Truth b) = same_truth a b
values_match (Truth a) b = false
values_match (Int m) (Int n) = int_eq m n
values_match (Int m) b = false
values_match (Text s) (Text t) = pointwise nat_eq s t
values_match (Text s) b = false

-- two keys are the same, and none of their values is null
abbrev pub keys_match : Row → Row → Bool
keys_match [] [] = true
keys_match [] (b ∷ bs) = false
keys_match (a ∷ as_) [] = false
keys_match (a ∷ as_) (b ∷ bs) = values_match a b && keys_match as_ bs

abbrev pub has_no_null : Row → Bool
has_no_null row = list_all (λ v. not (is_null v)) row

-- the values of a row at some columns
abbrev pub values_at : List ℕ → Row → Row
values_at cols row = map (λ col. unwrap_or (slice_get row col) Null) cols

-- ---- the same, two nulls being the same as each other

abbrev pub same_value : Value → Value → Bool
same_value Null v = is_null v
same_value (Truth a) v = values_match (Truth a) v
same_value (Int n) v = values_match (Int n) v
same_value (Text s) v = values_match (Text s) v

abbrev pub same_values : Row → Row → Bool
same_values [] [] = true
same_values [] (w ∷ ws) = false
same_values (v ∷ vs) [] = false
same_values (v ∷ vs) (w ∷ ws) = same_value v w && same_values vs ws
