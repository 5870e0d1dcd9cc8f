-- A write in its place among the others.
use Rattle.std.proofs.Common.{◌≡◌, ℕ, zero, suc, ◌<◌, ◌≤◌, Bool, true, false, cond, List, [], ◌∷◌, map, length, nat_le, slice_get, slice_set, nat_cmp, refl, sym, ap, arith, eqb-true}
use Rattle.std.specs.List.{insert}
use Rattle.std.specs.Cmp.{nat_cmp_is}
use Rattle.std.specs.declared.cmp.Ordering.TheVariants.{Less, Equal, Greater}
use Rattle.std.proofs.lemmas.Bool.{false≢true}
use Rattle.std.proofs.lemmas.Bool.Decides.{nat_tests}
use Rattle.aq_base.specs.Maps.{with_at}
use Rattle.aq_first_machine.specs.declared.writes.Write.{Write as Own_write}
use Rattle.aq_first_machine.specs.Versions.{write_entry, write_shown, place_in, is_of_row}

pub place_within : (row : ℕ) (writes : List Own_write) → place_in row writes ≤ length writes
place_within row [] = omega arith
place_within row (v ∷ writes) = by_test (nat_le row v.row) (place_within row writes)
  where
    by_test : (b : Bool) → place_in row writes ≤ length writes → cond b 0 (suc (place_in row writes)) ≤ length (v ∷ writes)
    by_test true within = omega arith
    by_test false within = omega (arith, within)

pub put_inserts : (write : Own_write) (writes : List Own_write) → is_of_row write.row (slice_get writes (place_in write.row writes)) ≡ false
    → map write_entry (insert writes (place_in write.row writes) write) ≡ with_at write.row (write_shown write) (map write_entry writes)
put_inserts write [] other = refl
put_inserts write (v ∷ writes) other = by_test (nat_le write.row v.row) refl other (put_inserts write writes)
  where
    by_test : (b : Bool) → nat_le write.row v.row ≡ b → is_of_row write.row (slice_get (v ∷ writes) (cond b 0 (suc (place_in write.row writes)))) ≡ false
        → (is_of_row write.row (slice_get writes (place_in write.row writes)) ≡ false
        → map write_entry (insert writes (place_in write.row writes) write) ≡ with_at write.row (write_shown write) (map write_entry writes))
        → map write_entry (insert (v ∷ writes) (cond b 0 (suc (place_in write.row writes))) write) ≡ with_at write.row (write_shown write) (write_entry v ∷ map write_entry writes)
    by_test true is other rest =
        let less : write.row < v.row = grind (arith, nat_tests) in
        let before : nat_cmp write.row v.row ≡ Less = sym (nat_cmp_is write.row v.row Less less) in
        rw before refl
    by_test false is other rest =
        let more : v.row < write.row = grind (arith, nat_tests) in
        let behind : nat_cmp write.row v.row ≡ Greater = sym (nat_cmp_is write.row v.row Greater more) in
        rw behind (ap (λ es. write_entry v ∷ es) (rest other))

pub put_replaces : (write : Own_write) (writes : List Own_write) → is_of_row write.row (slice_get writes (place_in write.row writes)) ≡ true
    → map write_entry (slice_set writes (place_in write.row writes) write) ≡ with_at write.row (write_shown write) (map write_entry writes)
put_replaces write [] here = absurd (false≢true here)
put_replaces write (v ∷ writes) here = by_test (nat_le write.row v.row) refl here (put_replaces write writes)
  where
    by_test : (b : Bool) → nat_le write.row v.row ≡ b → is_of_row write.row (slice_get (v ∷ writes) (cond b 0 (suc (place_in write.row writes)))) ≡ true
        → (is_of_row write.row (slice_get writes (place_in write.row writes)) ≡ true
        → map write_entry (slice_set writes (place_in write.row writes) write) ≡ with_at write.row (write_shown write) (map write_entry writes))
        → map write_entry (slice_set (v ∷ writes) (cond b 0 (suc (place_in write.row writes))) write) ≡ with_at write.row (write_shown write) (write_entry v ∷ map write_entry writes)
    by_test true is here rest =
        let same : v.row ≡ write.row = eqb-true v.row write.row here in
        let tied : nat_cmp write.row v.row ≡ Equal = sym (nat_cmp_is write.row v.row Equal (sym same)) in
        rw tied (ap (λ n. (n, write_shown write) ∷ map write_entry writes) (sym same))
    by_test false is here rest =
        let more : v.row < write.row = grind (arith, nat_tests) in
        let behind : nat_cmp write.row v.row ≡ Greater = sym (nat_cmp_is write.row v.row Greater more) in
        rw behind (ap (λ es. write_entry v ∷ es) (rest here))

pub of_row_within : (row : ℕ) (writes : List Own_write) (place : ℕ) → is_of_row row (slice_get writes place) ≡ true → place < length writes
of_row_within row [] place here = absurd (false≢true here)
of_row_within row (v ∷ writes) zero here = omega arith
of_row_within row (v ∷ writes) (suc place) here = let within = of_row_within row writes place here in omega (arith, within)
