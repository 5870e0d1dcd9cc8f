use Rattle.std.proofs.Common.{◌≡◌, ℕ, ◌+◌, ◌<◌, ◌≤◌, Bool, true, false, List, length, take, filter, arith}
use Rattle.std.proofs.lemmas.List.{length-take}
use Rattle.std.proofs.lemmas.List.Sums.{length-filter, count_by-le-length}
use mir.Val.{bool_byte}
use Rattle.aq_base.specs.declared.catalog.Trigger.{Trigger}
use Rattle.aq_setup.specs.Triggers.{is_of_statement}
use Rattle.aq_triggers.proofs.trigger_faults.count_of_triggers.Goals as goal

one_at_most : (b : Bool) → bool_byte b ≤ 1
one_at_most true = omega arith
one_at_most false = omega arith

within : {X : Type 0} (p : X → Bool) (xs : List X) (i n m : ℕ) → n ≡ length (filter p (take i xs)) → m ≤ 1 → i < length xs → n + m ≤ length xs
within p xs i n m is small more =
    omega (arith, is, length-filter p (take i xs), count_by-le-length p (take i xs), length-take i xs)

pub overflow_add-count : goal.overflow_add-count
overflow_add-count c =
    let small : bool_byte c.has_statements.result ≤ 1 = one_at_most c.has_statements.result in
    let small_too : c.from-count.result ≤ 1 = omega (arith, small, c.from-count.ensures) in
    let fits = within (λ (t : Trigger). is_of_statement t.does) c.args.made.now c.loop-trigger.trigger-index c.loop-trigger.count c.from-count.result c.loop-trigger.invariant small_too c.loop-trigger-test.true in
    omega arith
