use Rattle.std.proofs.Common.{◌≡◌, ◌&&◌, ◌==◌, drop, find}
use Rattle.std.specs.List.{enumerate_from}
use Rattle.aq_catalog.specs.Catalogs.{is_number_in}
use Rattle.aq_catalog.proofs.lookups.first_primary.Given as goal

abbrev pub invariant-loop-number : goal.invariant-loop-number
invariant-loop-number l =
    find (λ entry. is_number_in l.primaries entry.0 && entry.1.table == l.table) (enumerate_from l.number (drop l.number l.keys))
    ≡ find (λ entry. is_number_in l.primaries entry.0 && entry.1.table == l.table) (enumerate_from 0 l.keys)
