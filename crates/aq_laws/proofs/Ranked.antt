-- Waits are ranked, hence not circular.
use Rattle.std.proofs.Common.{◌≡◌, ℕ, ◌≤◌, zero, suc, arith, ap}
use Rattle.std.specs.Prelude.{◌+◌}
use Rattle.aq_run.specs.Programs.{Program}
use Rattle.aq_run.specs.States.{State}
use Rattle.aq_run.specs.Waits.{waits_for}
use Rattle.aq_run.specs.Runs.{run}
use Rattle.aq_run.proofs.Ranks.{contains-in}
use Rattle.aq_run.proofs.Waits_kept.{Is_ordered, waits_are_ordered}
use Rattle.aq_laws.specs.Waits.{IsRanked, WaitsAreRanked, Leads, NoWaitIsCircular}

pub ranked : WaitsAreRanked
ranked program schedule can =
    let ordered : Is_ordered program (run program schedule) = waits_are_ordered program schedule can in
    record { rank = ordered.rank; falls = λ i j c. ordered.falls i j (contains-in (waits_for program (run program schedule) i) j c) }

-- the rank falls along the way
falls-along : (program : Program) (st : State) (by_rank : IsRanked program st) (n i j : ℕ) → Leads program st n i j → by_rank.rank j + n ≤ by_rank.rank i
falls-along program st by_rank zero i j same = let e : by_rank.rank i ≡ by_rank.rank j = ap by_rank.rank same in omega (arith, e)
falls-along program st by_rank (suc n) i j way =
    let first = by_rank.falls i way.0 way.1 in let rest = falls-along program st by_rank n way.0 j way.2 in omega (arith, first, rest)

pub not_circular : NoWaitIsCircular
not_circular program schedule can n i way =
    let by_rank : IsRanked program (run program schedule) = ranked program schedule can in
    let low = falls-along program (run program schedule) by_rank (suc n) i i way in omega (arith, low)
