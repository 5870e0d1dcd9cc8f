use Rattle.std.proofs.Common.{◌≡◌, drop, map}
use Rattle.std.specs.List.{flat_map}
use Rattle.aq_setup.specs.Tables.{constraint_unknown}
use Rattle.aq_refusals.specs.Faults.{no_column}
use Rattle.aq_tables.proofs.added.missing_columns.Given as goal

abbrev pub invariant-loop-n : goal.invariant-loop-n
invariant-loop-n l =
    map no_column (flat_map (λ n. constraint_unknown l.catalog l.table n.constraint) (drop l.n-index l.all))
    ≡ map no_column (flat_map (λ n. constraint_unknown l.catalog l.table n.constraint) l.all)
