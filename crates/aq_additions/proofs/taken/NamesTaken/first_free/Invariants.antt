use Rattle.std.proofs.Common.{◌+◌, ◌-◌, ◌≤◌, length}
use Rattle.aq_catalog.specs.Numbered.{AreTaken}
use Rattle.aq_additions.proofs.taken.NamesTaken.first_free.Given as goal

abbrev pub invariant-numbers : goal.invariant-numbers
invariant-numbers l = (1 ≤ l.n) × AreTaken l.self l.name l.n

abbrev pub decreases-numbers : goal.decreases-numbers
decreases-numbers l = length l.self + 1 - l.n
