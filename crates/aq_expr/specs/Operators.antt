-- What each operator gives, at values (PostgreSQL manual, pages "Logical Operators", "Comparison Functions and Operators" and
-- "Mathematical Functions and Operators"). At values of kinds that it does not take an operator gives null.
use Rattle.std.specs.Prelude.{ℕ, ◌^◌, ℤ, pos, negsuc, ◌+ℤ◌, ◌-ℤ◌, ◌*ℤ◌, neg_ℤ, nat_lt, Bool, true, false, not, ◌&&◌, ◌||◌, List, Option, Some, None, option_map, option_and_then, Result, Ok, Err, unwrap_or, slice_get, codes, if◌then◌else◌}
use Rattle.std.specs.declared.cmp.Ordering.{Ordering}
use Rattle.std.specs.Ordering.{nat_cmp, int_cmp, bool_cmp, is_eq, is_ne, is_lt, is_le, is_gt, is_ge}
use Rattle.std.specs.Cmp.Lexicographic.{slice_cmp}
use Rattle.aq_base.specs.declared.value.Value.{Value}
use Rattle.aq_base.specs.declared.value.Value.TheVariants.{Null, Bool as Truth, Int, Text}
use Rattle.aq_base.specs.declared.script.Kind.{Kind}
use Rattle.aq_base.specs.declared.script.Kind.TheVariants.{Integer, Bigint}
use Rattle.aq_base.specs.declared.expr.Comparison.{Comparison}
use Rattle.aq_base.specs.declared.expr.Comparison.TheVariants.{Equal, Unequal, Less, AtMost, Greater, AtLeast}
use Rattle.aq_base.specs.declared.expr.UnaryOperator.{UnaryOperator}
use Rattle.aq_base.specs.declared.expr.UnaryOperator.TheVariants.{Negate, Not, IsNull, IsNotNull}
use Rattle.aq_base.specs.declared.expr.BinaryOperator.{BinaryOperator}
use Rattle.aq_base.specs.declared.expr.BinaryOperator.TheVariants.{Multiply, Add, Subtract, Compare, IsDistinct, IsNotDistinct, And, Or}
use Rattle.aq_base.specs.declared.catalog.Op.{Op}
use Rattle.aq_base.specs.declared.catalog.Op.TheVariants.{Insert, Update, Delete}
use Rattle.aq_base.specs.Values.{Row, is_null, values_match}

-- a value, or the kind of which a number is out of range
abbrev pub Answer : Type 0
Answer = Result Value Kind

abbrev pub with_value : Answer → (Value → Answer) → Answer
with_value (Ok a) give = give a
with_value (Err kind) give = Err kind

-- the left operand comes first: where both are out of range, its kind is the answer
abbrev pub with_both : Answer → Answer → (Value → Value → Answer) → Answer
with_both (Ok a) (Ok b) give = give a b
with_both (Ok a) (Err kind) give = Err kind
with_both (Err kind) right give = Err kind

-- whether a number is at least - limit, and below limit
abbrev pub is_within : ℕ → ℤ → Bool
is_within limit (pos n) = nat_lt n limit
is_within limit (negsuc n) = nat_lt n limit

abbrev pub bigint_of : ℤ → Answer
bigint_of n = if is_within (2 ^ 63) n then Ok (Int n) else Err Bigint

abbrev pub negation_of : Value → Answer
negation_of (Int n) = bigint_of (neg_ℤ n)
negation_of a = Ok Null

abbrev pub sum_of : Value → Value → Answer
sum_of (Int m) (Int n) = bigint_of (m +ℤ n)
sum_of a b = Ok Null

abbrev pub difference_of : Value → Value → Answer
difference_of (Int m) (Int n) = bigint_of (m -ℤ n)
difference_of a b = Ok Null

abbrev pub product_of : Value → Value → Answer
product_of (Int m) (Int n) = bigint_of (m *ℤ n)
product_of a b = Ok Null

-- a value as a column of a kind keeps it
abbrev pub stored : Value → Kind → Answer
stored (Int n) Integer = if is_within (2 ^ 31) n then Ok (Int n) else Err Integer
stored v kind = Ok v

-- how two values of one kind stand to each other: numbers by size, false below true, texts in the order of their bytes
abbrev pub order_of : Value → Value → Option Ordering
order_of (Truth a) (Truth b) = Some (bool_cmp a b)
order_of (Int m) (Int n) = Some (int_cmp m n)
order_of (Text s) (Text t) = Some (slice_cmp nat_cmp s t)
order_of a b = None

abbrev pub holds : Comparison → Ordering → Bool
holds Equal order = is_eq order
holds Unequal order = is_ne order
holds Less order = is_lt order
holds AtMost order = is_le order
holds Greater order = is_gt order
holds AtLeast order = is_ge order

abbrev pub comparison_of : Comparison → Value → Value → Answer
comparison_of comparison a b = Ok (unwrap_or (option_map (λ order. Truth (holds comparison order)) (order_of a b)) Null)

abbrev pub null_test_of : Value → Answer
null_test_of a = Ok (Truth (is_null a))

abbrev pub not_null_test_of : Value → Answer
not_null_test_of a = Ok (Truth (not (is_null a)))

-- whether two values are the same, nulls being the same as each other
abbrev pub is_same : Value → Value → Bool
is_same Null b = is_null b
is_same (Truth a) b = values_match (Truth a) b
is_same (Int n) b = values_match (Int n) b
is_same (Text s) b = values_match (Text s) b

abbrev pub distinct_of : Value → Value → Answer
distinct_of a b = Ok (Truth (not (is_same a b)))

abbrev pub not_distinct_of : Value → Value → Answer
not_distinct_of a b = Ok (Truth (is_same a b))

abbrev pub not_of : Value → Answer
not_of (Truth a) = Ok (Truth (not a))
not_of a = Ok Null

abbrev pub and_of : Value → Value → Answer
and_of (Truth a) (Truth b) = Ok (Truth (a && b))
and_of (Truth false) Null = Ok (Truth false)
and_of Null (Truth false) = Ok (Truth false)
and_of a b = Ok Null

abbrev pub or_of : Value → Value → Answer
or_of (Truth a) (Truth b) = Ok (Truth (a || b))
or_of (Truth true) Null = Ok (Truth true)
or_of Null (Truth true) = Ok (Truth true)
or_of a b = Ok Null

abbrev pub unary_of : UnaryOperator → Value → Answer
unary_of Negate = negation_of
unary_of Not = not_of
unary_of IsNull = null_test_of
unary_of IsNotNull = not_null_test_of

abbrev pub binary_of : BinaryOperator → Value → Value → Answer
binary_of Multiply = product_of
binary_of Add = sum_of
binary_of Subtract = difference_of
binary_of (Compare comparison) = comparison_of comparison
binary_of IsDistinct = distinct_of
binary_of IsNotDistinct = not_distinct_of
binary_of And = and_of
binary_of Or = or_of

-- a truth value, unknown at null and at any other value
abbrev pub truth_of : Value → Option Bool
truth_of (Truth a) = Some a
truth_of a = None

-- the value of a column, null where there is no row, or no such column in it
abbrev pub cell_of : Option Row → ℕ → Value
cell_of row column = unwrap_or (option_and_then (λ values. slice_get values column) row) Null

abbrev pub operation_name : Op → List ℕ
operation_name Insert = codes "INSERT"
operation_name Update = codes "UPDATE"
operation_name Delete = codes "DELETE"

abbrev pub operation_of : Option Op → Value
operation_of op = unwrap_or (option_map (λ fired. Text (operation_name fired)) op) Null
