use Rattle.std.proofs.Common.{◌≡◌, ◌+◌, ◌-◌, ◌*◌, min, arith}
use Rattle.aq_lex.proofs.Values.{digit_more}
use Rattle.aq_lex.proofs.value.number_of.Goals as goal

pub digits-preserved : goal.digits-preserved
digits-preserved c =
    let next : c.saturating_add-number.result ≡ min (10 * c.digits.number + (c.in-Some.digit.now - 48)) 18446744073709551615 =
    omega (arith, c.saturating_sub.ensures, c.from-value.ensures, c.saturating_mul.ensures, c.saturating_add-number.ensures) in
    (omega arith, digit_more c.in-Some.digit.now c.digits.number c.saturating_add-number.result _ 18446744073709551615 c.in-Some.behind.now next (rw c.in-Some.ensures.cases.0 at c.digits.invariant.1))
