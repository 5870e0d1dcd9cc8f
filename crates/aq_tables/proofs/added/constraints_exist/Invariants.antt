use Rattle.std.proofs.Common.{◌≡◌, ◌++◌, map, take}
use Rattle.aq_additions.proofs.Repeats.{Left}
use Rattle.aq_tables.proofs.added.constraints_exist.Given as goal

abbrev pub invariant-loop-n : goal.invariant-loop-n
invariant-loop-n l =
    (l.taken ≡ l.fn.taken ++ take l.n-index (map (λ n. n.name) l.all)) × Left l.fn.taken (map (λ n. n.name) l.all) l.n-index
