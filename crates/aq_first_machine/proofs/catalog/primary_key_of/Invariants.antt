use Rattle.std.proofs.Common.{◌≡◌, ◌==◌, drop}
use Rattle.std.specs.Prelude.{find}
use Rattle.aq_first_machine.proofs.catalog.primary_key_of.Given as goal

abbrev pub invariant-keys : goal.invariant-keys
invariant-keys l = find (λ k. k.table == l.table) (drop l.key-index l.keys) ≡ find (λ k. k.table == l.fn.table) l.fn.keys
