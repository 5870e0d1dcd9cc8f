-- Numbers that are tried one after the other.
use Rattle.std.proofs.Common.{◌≡◌, ℕ, zero, suc, ◌+◌, ◌-◌, ◌<◌, ◌≤◌, Bool, true, false, Some, None, ap, ◌∙◌, arith}
use Rattle.std.specs.Prelude.{find, if◌then◌else◌}
use Rattle.aq_words.specs.Commands.{numbers_from}

left_is : (n : ℕ) → n ≤ 2000 → 2001 - n ≡ suc (2001 - (n + 1))
left_is n small = omega arith

tried_first : (p : ℕ → Bool) (n : ℕ) → n ≤ 2000 → find p (numbers_from n (2001 - n)) ≡ (if p n then Some n else find p (numbers_from (n + 1) (2001 - (n + 1))))
unfolding numbers_from
tried_first p n small = ap (λ (left : ℕ). find p (numbers_from n left)) (left_is n small)

pub found_at : (p : ℕ → Bool) (n : ℕ) → n ≤ 2000 → p n ≡ true → find p (numbers_from n (2001 - n)) ≡ Some n
found_at p n small holds = tried_first p n small ∙ ap (λ (b : Bool). if b then Some n else find p (numbers_from (n + 1) (2001 - (n + 1)))) holds

pub not_at : (p : ℕ → Bool) (n : ℕ) → n ≤ 2000 → p n ≡ false → find p (numbers_from n (2001 - n)) ≡ find p (numbers_from (n + 1) (2001 - (n + 1)))
not_at p n small fails = tried_first p n small ∙ ap (λ (b : Bool). if b then Some n else find p (numbers_from (n + 1) (2001 - (n + 1)))) fails

none_left : (n : ℕ) → 2000 < n → 2001 - n ≡ zero
none_left n past = omega arith

pub found_nowhere : (p : ℕ → Bool) (n : ℕ) → 2000 < n → find p (numbers_from n (2001 - n)) ≡ None
unfolding numbers_from
found_nowhere p n past = ap (λ (left : ℕ). find p (numbers_from n left)) (none_left n past)
