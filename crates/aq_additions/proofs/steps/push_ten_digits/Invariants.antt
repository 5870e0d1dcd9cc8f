use Rattle.std.proofs.Common.{◌≡◌, ◌++◌, replicate, string_bytes}
use Rattle.aq_additions.proofs.steps.push_ten_digits.Given as goal

abbrev pub invariant-zeros : goal.invariant-zeros
invariant-zeros l = string_bytes l.out ≡ string_bytes l.fn.out ++ replicate l.counter 48
