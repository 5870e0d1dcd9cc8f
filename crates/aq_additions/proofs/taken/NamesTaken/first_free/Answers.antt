use Rattle.std.proofs.Common.{ℕ, ◌+◌, ◌^◌, ◌<◌, ◌≤◌, Option, length, subst, arith}
use Rattle.std.specs.Option.{SomeIff}
use Rattle.aq_additions.proofs.FreeNames.{taken_within}
use Rattle.aq_additions.proofs.taken.NamesTaken.first_free.Goals as goal

pub numbers-smaller : goal.numbers-smaller
numbers-smaller c =
    let n : ℕ = c.numbers.n in
    let next = subst (λ (more : Option ℕ). SomeIff more (n + 1 < 2 ^ 64) (n + 1)) c.in_ok-n.ensures.ok_part c.checked_add.ensures in
    let bound : n ≤ length c.args.self.now = taken_within c.args.self.now c.args.name.now n (omega (arith, next.0)) c.requires.taken c.numbers.invariant.1 in
    omega (arith, next.1, bound)
