use Rattle.std.proofs.Common.{◌≡◌, ◌||◌, ◌++◌, drop}
use Rattle.std.specs.List.{enumerate_from}
use Rattle.aq_catalog.specs.Catalogs.{is_number_in}
use Rattle.aq_additions.specs.Steps.{among_places}
use Rattle.aq_additions.proofs.steps.without_nulls.Given as goal

abbrev pub invariant-loop-number : goal.invariant-loop-number
invariant-loop-number l =
    l.made ++ among_places (λ n. is_number_in l.table.not_null n || is_number_in l.cols n) (enumerate_from l.number (drop l.number l.table.cols))
    ≡ among_places (λ n. is_number_in l.table.not_null n || is_number_in l.cols n) (enumerate_from 0 l.table.cols)
