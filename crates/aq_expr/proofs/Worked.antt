-- Values of small expressions.
use Rattle.std.proofs.Common.{◌≡◌, ℤ, Bool, true, false, Ok, Err, pos, refl, codes}
use Rattle.aq_base.specs.declared.value.Value.TheVariants as values
use Rattle.aq_base.specs.declared.script.Kind.TheVariants as kinds
use Rattle.aq_base.specs.declared.expr.Comparison.TheVariants as comparisons
use Rattle.aq_base.specs.declared.expr.UnaryOperator.TheVariants.{Not, IsNull}
use Rattle.aq_base.specs.declared.expr.BinaryOperator.TheVariants.{Add, Compare, IsDistinct, And, Or}
use Rattle.aq_base.specs.Terms.{Term}
use Rattle.aq_base.specs.Terms.Term.{Constant, Unary, Binary}
use Rattle.aq_expr.specs.Operators.{stored}
use Rattle.aq_expr.specs.Evaluation.{term_value, nothing_around}

abbrev null : Term
null = Constant values.Null

abbrev truth : Bool → Term
truth b = Constant (values.Bool b)

abbrev number : ℤ → Term
number n = Constant (values.Int n)

-- 1 + 9223372036854775807
sum_too_great : term_value nothing_around (Binary (number (pos 1)) Add (number (pos 9223372036854775807))) ≡ Err kinds.Bigint
sum_too_great = refl

-- NULL AND FALSE
null_and_false : term_value nothing_around (Binary null And (truth false)) ≡ Ok (values.Bool false)
null_and_false = refl

-- NULL AND TRUE
null_and_true : term_value nothing_around (Binary null And (truth true)) ≡ Ok values.Null
null_and_true = refl

-- NULL OR TRUE
null_or_true : term_value nothing_around (Binary null Or (truth true)) ≡ Ok (values.Bool true)
null_or_true = refl

-- NOT NULL
not_null : term_value nothing_around (Unary Not null) ≡ Ok values.Null
not_null = refl

-- (NULL = 1) IS NULL
comparison_with_null : term_value nothing_around (Unary IsNull (Binary null (Compare comparisons.Equal) (number (pos 1)))) ≡ Ok (values.Bool true)
comparison_with_null = refl

-- 'a' < 'b'
texts_in_order : term_value nothing_around (Binary (Constant (values.Text (codes "a"))) (Compare comparisons.Less) (Constant (values.Text (codes "b"))))
    ≡ Ok (values.Bool true)
texts_in_order = refl

-- NULL IS DISTINCT FROM 1
null_is_distinct : term_value nothing_around (Binary null IsDistinct (number (pos 1))) ≡ Ok (values.Bool true)
null_is_distinct = refl

-- FALSE AND (9223372036854775807 + 1 = 0)
both_operands : term_value nothing_around
    (Binary (truth false) And (Binary (Binary (number (pos 9223372036854775807)) Add (number (pos 1))) (Compare comparisons.Equal) (number (pos 0))))
    ≡ Err kinds.Bigint
both_operands = refl

-- the greatest integer, and the next number, which a bigint column keeps
greatest_integer : stored (values.Int (pos 2147483647)) kinds.Integer ≡ Ok (values.Int (pos 2147483647))
greatest_integer = refl

no_integer : stored (values.Int (pos 2147483648)) kinds.Integer ≡ Err kinds.Integer
no_integer = refl

a_bigint : stored (values.Int (pos 2147483648)) kinds.Bigint ≡ Ok (values.Int (pos 2147483648))
a_bigint = refl
