-- The rules of native checks, and when a change of a row keeps one. A number that isn't there counts as null; what is no whole number
-- passes no comparison.
use Rattle.std.specs.Prelude.{ℕ, ℤ, Bool, true, false, ◌&&◌, ◌||◌, Option, Some, None, unwrap_or, slice_get}
use Rattle.std.specs.Ordering.{int_cmp, is_le}
use Rattle.aq_base.specs.Values.{Row, same_value}
use Rattle.aq_base.specs.declared.value.Value.{Value}
use Rattle.aq_base.specs.declared.value.Value.TheVariants.{Null, Int}

pub data Rule : Type 0 where
  -- the value is null, or a whole number between two
  Between : (column : ℕ) → (low : ℤ) → (high : ℤ) → Rule
  -- either value is null, or they are whole numbers, the left one at most the right one
  AtMost : (left : ℕ) → (right : ℕ) → Rule
  Both : (one : Rule) → (other : Rule) → Rule
  Either : (one : Rule) → (other : Rule) → Rule
  -- an UPDATE leaves the value as it is
  Same : (column : ℕ) → Rule
  -- an UPDATE doesn't make the value smaller
  Rises : (column : ℕ) → Rule

abbrev pub value_at : Row → ℕ → Value
value_at row column = unwrap_or (slice_get row column) Null

abbrev pub is_at_most : ℤ → ℤ → Bool
is_at_most m n = is_le (int_cmp m n)

abbrev pub is_number_between : ℤ → ℤ → Value → Bool
is_number_between low high (Int n) = is_at_most low n && is_at_most n high
is_number_between low high Null = true
is_number_between low high v = false

abbrev pub rises_to : Value → Value → Bool
rises_to (Int m) (Int n) = is_at_most m n
rises_to Null v = true
rises_to v Null = true
rises_to v w = false

-- without OLD, as in an INSERT, there is nothing to compare with
abbrev pub keeps_value : Option Row → Row → ℕ → Bool
keeps_value None new column = true
keeps_value (Some old) new column = same_value (value_at old column) (value_at new column)

abbrev pub raises_value : Option Row → Row → ℕ → Bool
raises_value None new column = true
raises_value (Some old) new column = rises_to (value_at old column) (value_at new column)

abbrev pub is_kept : Rule → Option Row → Row → Bool
is_kept (Between column low high) old new = is_number_between low high (value_at new column)
is_kept (AtMost left right) old new = rises_to (value_at new left) (value_at new right)
is_kept (Both one other) old new = is_kept one old new && is_kept other old new
is_kept (Either one other) old new = is_kept one old new || is_kept other old new
is_kept (Same column) old new = keeps_value old new column
is_kept (Rises column) old new = raises_value old new column
